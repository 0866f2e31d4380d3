use Rattle.std.proofs.Common.{◌≡◌, pos, drop}
use Rattle.stack_algebra.specs.Steps.{steps}
use Rattle.stack_whole.specs.Whole.{whole}
use Rattle.stack_equilibrium.specs.WrittenSums.{bearing_at}
use Rattle.stack_equilibrium.proofs.sums.add_bearings.Given as goal

abbrev pub invariant-loop-k : goal.invariant-loop-k
invariant-loop-k l =
    steps (bearing_at l.axis l.block l.parts) l.k l.so_far (drop l.k l.bearings)
    ≡ steps (bearing_at l.axis l.block l.parts) 0 (whole (pos 0)) l.bearings
