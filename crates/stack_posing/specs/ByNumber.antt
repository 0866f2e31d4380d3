-- The four certificates by amounts of edges and moves by number.
use Rattle.std.specs.Prelude.{◌≡◌, ℕ, ℤ, pos, ◌+ℤ◌, ◌*ℤ◌}
use Rattle.stack_algebra.specs.IntegerOrder.{◌≼◌, ◌≺◌}
use Rattle.stack_statics.specs.declared.wrench.Wrench.{Wrench}
use Rattle.stack_statics.specs.Scene.{Move, Scene, IsProper}
use Rattle.stack_statics.specs.Certificates.{IsTrueStands, IsTrueCollapse, IsTrueGreatest, IsTrueUnbounded}
use Rattle.stack_posing.specs.Edges.{Amounts}
use Rattle.stack_posing.specs.Equations.{IsSolution, forces_from}
use Rattle.stack_posing.specs.MovesByNumber.{moves_from, power_by, AreUnopposed}

-- the dead loads on a body
abbrev pub dead_on : Scene → ℕ → Wrench
dead_on s i = (s.body i).dead

-- the live loads on a body
abbrev pub live_on : Scene → ℕ → Wrench
live_on s i = (s.body i).live

-- in a proper scene a solution with a positive scale and the factor 0 shows that the dead loads stand
abbrev pub StandsBySolution : Type 0
StandsBySolution = (s : Scene) (scale : ℤ) (x : Amounts) → IsProper s → IsSolution s scale (pos 0) x →
    pos 0 ≺ scale → IsTrueStands s (forces_from s scale (pos 0) x)

-- in a proper scene moves that no edge opposes, on which the dead loads gain power, show a collapse
abbrev pub CollapsesByMoves : Type 0
CollapsesByMoves = (s : Scene) (y : ℕ → Move) → IsProper s → AreUnopposed s y →
    pos 0 ≺ power_by s y (dead_on s) → IsTrueCollapse s (moves_from s y)

-- in a proper scene a solution and moves that meet at its factor show that it is the greatest
abbrev pub GreatestByBoth : Type 0
GreatestByBoth = (s : Scene) (scale factor : ℤ) (x : Amounts) (y : ℕ → Move) → IsProper s →
    IsSolution s scale factor x → pos 0 ≺ scale → pos 0 ≼ factor →
    AreUnopposed s y → pos 0 ≺ power_by s y (live_on s) →
    factor *ℤ power_by s y (live_on s) +ℤ scale *ℤ power_by s y (dead_on s) ≡ pos 0 →
    IsTrueGreatest s (forces_from s scale factor x) (moves_from s y)

-- in a proper scene a solution and a second one that balances live loads alone show that no factor is the greatest
abbrev pub UnboundedBySolutions : Type 0
UnboundedBySolutions = (s : Scene) (scale factor : ℤ) (x : Amounts) (rise : ℤ) (v : Amounts) → IsProper s →
    IsSolution s scale factor x → pos 0 ≺ scale → pos 0 ≼ factor →
    IsSolution s (pos 0) rise v → pos 0 ≺ rise →
    IsTrueUnbounded s (forces_from s scale factor x) (forces_from s (pos 0) rise v)
