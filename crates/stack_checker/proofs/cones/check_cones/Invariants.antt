use Rattle.std.proofs.Common.{◌≡◌, drop}
use Rattle.stack_algebra.specs.Steps.{steps}
use Rattle.stack_checker.specs.WrittenForces.{cone_at}
use Rattle.stack_checker.proofs.cones.check_cones.Given as goal

abbrev pub invariant-loop-k : goal.invariant-loop-k
invariant-loop-k l =
    steps (cone_at l.parts) l.k tt (drop l.k l.bearings)
    ≡ steps (cone_at l.parts) 0 tt l.bearings
