use Rattle.std.proofs.Common.{◌≡◌, drop, length}
use Rattle.stack_algebra.specs.Steps.{steps}
use Rattle.stack_contact.specs.FreeBlocks.{frees_of}
use Rattle.stack_certificate.specs.Certificate.{forces_view}
use Rattle.stack_checker.specs.WrittenForces.{balance_at}
use Rattle.stack_checker.proofs.balance.check_blocks.Given as goal

abbrev pub invariant-loop-b : goal.invariant-loop-b
invariant-loop-b l = record {
  ends : l.b-end ≡ length (frees_of l.s.structure.bodies);
  so_far : steps (balance_at l.s (forces_view l.forces)) l.b tt (drop l.b (frees_of l.s.structure.bodies))
      ≡ steps (balance_at l.s (forces_view l.forces)) 0 tt (frees_of l.s.structure.bodies);
}
