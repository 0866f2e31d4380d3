-- The laws that tie certificates to what can be carried. With them a true certificate settles its question.
-- After Livesley (1978): virtual work, and the static and the kinematic theorem of limit analysis.
use mathlib.Core.Path.{◌≡◌}
use mathlib.Core.List.{List, ◌∷◌, ◌++◌}
use Prim.Native.Nat.{ℕ}
use lib.IntN.{ℤ, pos, ◌+ℤ◌, ◌*ℤ◌}
use Rattle.stack_algebra.specs.Sums.{sum_to}
use Rattle.stack_algebra.specs.IntegerOrder.{◌≼◌, ◌≺◌}
use Rattle.stack_statics.specs.Scene.{BearingPart, Move, SceneBearing, Scene, IsProperBearing, IsProper}
use Rattle.stack_statics.specs.Balance.{exerted_on, IsBalanced, Carries}
use Rattle.stack_statics.specs.Motions.{opening_of, slide_of, KeepsFixedStill, power_of, dead_power_of}
use Rattle.stack_statics.specs.Motions.{live_power_of}
use Rattle.stack_polygon.specs.declared.point.Point.{Point}
use Rattle.stack_statics.specs.Loads.{weight_of, moved}
use Rattle.stack_statics.specs.Certificates.{SceneForces, IsTrueStands, IsTrueCollapse, IsTrueGreatest}
use Rattle.stack_statics.specs.Certificates.{IsTrueUnbounded}

-- balanced forces do no work on any motion of the free bodies: that of the bearings' forces and of the loads
-- adds up to 0
abbrev pub VirtualWorkIsZero : Type 0
VirtualWorkIsZero = (s : Scene) (f : ℕ → BearingPart) (scale factor : ℤ) (y : ℕ → Move) →
    IsProper s → IsBalanced s f scale factor → KeepsFixedStill s y →
    sum_to s.bearings (λ k. (f k).a *ℤ opening_of s y (s.bearing k) +ℤ (f k).b *ℤ slide_of s y (s.bearing k))
    +ℤ scale *ℤ dead_power_of s y +ℤ factor *ℤ live_power_of s y ≡ pos 0

-- the force of a part does on a motion of both bodies of its bearing what a does on the opening and b on the
-- slide, whether forces balance or not
abbrev pub BearingsWork : Type 0
BearingsWork = (s : Scene) (y : ℕ → Move) (z : SceneBearing) (f : BearingPart) → IsProperBearing s z →
    sum_to s.bodies (λ i. power_of (exerted_on s i z f) (y i))
    ≡ f.a *ℤ opening_of s y z +ℤ f.b *ℤ slide_of s y z

-- where the dead loads stand by a true certificate, they are carried
abbrev pub StandsIsCarried : Type 0
StandsIsCarried = (s : Scene) (f : SceneForces) → IsTrueStands s f → Carries s (pos 0) (pos 1)

-- where a collapse is true, no admissible forces of any scale balance the dead loads
abbrev pub CollapseExcludesBalance : Type 0
CollapseExcludesBalance = (s : Scene) (moves : List Move) (D : ℤ) →
    IsProper s → IsTrueCollapse s moves → pos 0 ≺ D → ¬ (Carries s (pos 0) D)

-- the factor of a true certificate of the greatest is carried
abbrev pub GreatestIsCarried : Type 0
GreatestIsCarried = (s : Scene) (f : SceneForces) (moves : List Move) → IsTrueGreatest s f moves →
    Carries s f.factor f.scale

-- no factor greater than that is carried, whatever its denominator
abbrev pub GreatestBoundsEveryFactor : Type 0
GreatestBoundsEveryFactor = (s : Scene) (f : SceneForces) (moves : List Move) →
    IsProper s → IsTrueGreatest s f moves →
    (L D : ℤ) → f.factor *ℤ D ≺ L *ℤ f.scale → ¬ (Carries s L D)

-- every factor from that of the base up is carried
abbrev pub UnboundedCarriesAbove : Type 0
UnboundedCarriesAbove = (s : Scene) (base ray : SceneForces) →
    IsProper s → IsTrueUnbounded s base ray →
    (L D : ℤ) → pos 0 ≺ D → base.factor *ℤ D ≼ L *ℤ base.scale → Carries s L D

-- every factor from 0 up is carried, where the dead loads stand too
abbrev pub UnboundedCarriesAll : Type 0
UnboundedCarriesAll = (s : Scene) (base ray : SceneForces) →
    IsProper s → IsTrueUnbounded s base ray → Carries s (pos 0) (pos 1) →
    (L D : ℤ) → pos 0 ≼ L → pos 0 ≺ D → Carries s L D

-- an outline weighs the same whichever corner it is told from: from o by xs to c by ys, or from c by ys to o
-- by xs.
-- For any corners at all, convex or not
abbrev pub AnyCornerWeighsTheSame : Type 0
AnyCornerWeighsTheSame = (w : ℤ) (o : Point) (xs : List Point) (c : Point) (ys : List Point) →
    moved c o (weight_of w (c ∷ ys ++ o ∷ xs)) ≡ weight_of w (o ∷ xs ++ c ∷ ys)
