use Rattle.std.proofs.Common.{◌≡◌, ◌++◌, drop, None, string_bytes}
use Rattle.stack_algebra.specs.Search.{first}
use Rattle.stack_equilibrium.specs.WrittenSums.{push_at}
use Rattle.stack_report.specs.ContactTable.{lines_from}
use Rattle.stack_report.specs.ForceNumbers.{force_spot}
use Rattle.stack_report.specs.ForceTable.{force_line, bearing_lines}
use Rattle.stack_report.proofs.forces.with_bearings.Given as goal

abbrev pub invariant-loop-k : goal.invariant-loop-k
invariant-loop-k l = record {
  fit : first l.k (force_spot l.from l.bearings l.parts) ≡ None;
  lines : string_bytes l.longer
      ++ lines_from (λ k z. force_line l.over.value k z (push_at l.parts k)) l.k (drop l.k l.bearings)
      ≡ string_bytes l.fn.text ++ bearing_lines l.over.value l.bearings l.parts;
}
