use Rattle.std.proofs.Common.{◌≡◌, drop}
use Rattle.stack_algebra.specs.Steps.{steps}
use Rattle.stack_certificate.specs.Certificate.{motion_view}
use Rattle.stack_checker.specs.WrittenMotions.{resistance_at}
use Rattle.stack_checker.proofs.motions.check_bearings.Given as goal

abbrev pub invariant-loop-k : goal.invariant-loop-k
invariant-loop-k l =
    steps (resistance_at l.s (motion_view l.motion)) l.k tt (drop l.k l.bearing-items)
    ≡ steps (resistance_at l.s (motion_view l.motion)) 0 tt l.bearing-items
