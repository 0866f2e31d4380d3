use Rattle.std.proofs.Common.{◌≡◌, ◌++◌, drop, length, string_bytes}
use Rattle.stack_contact.specs.FreeBlocks.{frees_of}
use Rattle.stack_report.specs.ContactTable.{lines_from}
use Rattle.stack_report.specs.ForceTable.{body_move_line, moves_part}
use Rattle.stack_report.proofs.forces.with_moves.Given as goal

abbrev pub invariant-loop-b : goal.invariant-loop-b
invariant-loop-b l = record {
  ends : l.b-end ≡ length (frees_of l.s.structure.bodies);
  lines : string_bytes l.longer
      ++ lines_from (body_move_line l.s.structure l.moves) l.b (drop l.b (frees_of l.s.structure.bodies))
      ≡ string_bytes l.fn.text ++ moves_part l.s l.moves;
}
