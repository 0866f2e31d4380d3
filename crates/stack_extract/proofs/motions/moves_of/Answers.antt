use Rattle.stack_table.specs.Problem.{turned}
use Rattle.stack_extract.specs.WholeLists.{amount}
use Rattle.stack_extract.specs.Certified.{triple_at}
use Rattle.stack_extract.proofs.TableReads.{grown}
use Rattle.stack_extract.proofs.motions.moves_of.Goals as goal

pub loop-b-preserved : goal.loop-b-preserved
loop-b-preserved g c =
    grown (triple_at (λ k. turned (g.L.LastTable.flips c.args.t.now k) (amount c.args.numbers.now k))) c.loop-b.b
    (c.multiplier-u.result.value, c.multiplier-v.result.value, c.multiplier-r.result.value)
    c.loop-b.moves.items _
    (λ i. (
      (c.multiplier-u.ensures i).value,
      (c.multiplier-v.ensures i).value,
      (c.multiplier-r.ensures i).value,
    ))
    c.loop-b.invariant c.in_ok-moves.ensures
