use Rattle.std.proofs.Common.{ap, ◌∙◌, arith, string_bytes}
use Rattle.stack_contact.specs.FreeBlocks.{frees_of}
use Rattle.stack_report.specs.ContactTable.{name_of}
use Rattle.stack_report.proofs.Pieces.{move_added}
use Rattle.stack_report.proofs.forces.with_moves.Goals as goal

pub loop-b-preserved : goal.loop-b-preserved
loop-b-preserved c = record {
  ends = c.loop-b.invariant.ends;
  lines = move_added c.args.s.now.structure c.args.moves.now c.loop-b.b (frees_of c.args.s.now.structure.bodies)
      c.free.result c.name.result.now c.in_ok-longer.longer (string_bytes c.loop-b.longer) _
      (omega (arith, c.loop-b.invariant.ends, c.loop-b-test.true)) c.free.ensures.number
      (c.name.ensures ∙ ap (λ m. name_of m c.free.result) c.model.ensures) c.in_ok-longer.ensures
      c.loop-b.invariant.lines;
}
