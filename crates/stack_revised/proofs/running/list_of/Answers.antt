use Rattle.std.proofs.Common.{◌≡◌, rules}
use Rattle.stack_inverse.proofs.Grown.{grown}
use Rattle.stack_revised.specs.NoCell.{nothing}
use Rattle.stack_revised.specs.Reads.{read_at}
use Rattle.stack_revised.proofs.running.list_of.Goals as goal

pub loop-i-preserved : goal.loop-i-preserved
loop-i-preserved c = record {
  long = search rules;
  each = grown nothing (λ k z. z ≡ read_at c.args.t.now c.args.read k) c.loop-i.cells.items c.push.new.self.items
      c.in-Some.cell c.loop-i.i c.in_ok-push-in-Some.ensures.items c.loop-i.invariant.long c.loop-i.invariant.each
      c.in-Some.ensures;
}
