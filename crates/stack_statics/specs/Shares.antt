-- A share of the live loads, taken as dead: a factor is carried where the structure stands under it, and isn't where it
-- falls. So two certificates without a factor bound the greatest one from below and from above. After Livesley (1978).
use mathlib.Core.List.{List}
use lib.IntN.{ℤ, pos, ◌*ℤ◌}
use Rattle.stack_algebra.specs.IntegerOrder.{◌≼◌, ◌≺◌}
use Rattle.stack_statics.specs.Scene.{Move, SceneBody, Scene, IsProper}
use Rattle.stack_statics.specs.Balance.{Carries}
use Rattle.stack_statics.specs.Loads.{no_load, wrench_sum, wrench_times}
use Rattle.stack_statics.specs.Certificates.{SceneForces, IsTrueStands, IsTrueCollapse}

-- a body with D times its dead and N times its live loads as its dead loads, and no live ones
abbrev pub body_at_share : ℤ → ℤ → SceneBody → SceneBody
body_at_share N D b = record {
  free = b.free;
  ox = b.ox;
  oy = b.oy;
  dead = wrench_sum (wrench_times D b.dead) (wrench_times N b.live);
  live = no_load;
}

-- the share N over D of a scene: its bodies are loaded so, and its bearings stay
abbrev pub share_of : Scene → ℤ → ℤ → Scene
share_of s N D = record {
  bodies = s.bodies;
  body = λ i. body_at_share N D (s.body i);
  bearings = s.bearings;
  bearing = s.bearing;
}

-- where the share N over D stands by a true certificate, the factor N over D is carried
abbrev pub StandingShareIsCarried : Type 0
StandingShareIsCarried = (s : Scene) (N D : ℤ) (f : SceneForces) → IsTrueStands (share_of s N D) f → Carries s N D

-- where the share N over D collapses by a true certificate, the factor N over D isn't carried
abbrev pub FallingShareIsNotCarried : Type 0
FallingShareIsNotCarried = (s : Scene) (N D : ℤ) (moves : List Move) → IsProper s →
    IsTrueCollapse (share_of s N D) moves → ¬ (Carries s N D)

-- what is carried has no gaps: where L over D and a greater factor L' over D' are carried, so is N over E between them
abbrev pub CarriedHasNoGaps : Type 0
CarriedHasNoGaps = (s : Scene) (L D N E L' D' : ℤ) → IsProper s → pos 0 ≺ D → pos 0 ≺ E → pos 0 ≺ D' →
    Carries s L D → L *ℤ E ≼ N *ℤ D → N *ℤ D' ≺ L' *ℤ E → Carries s L' D' → Carries s N E

-- so where L over D is carried, and N over E above it isn't, no factor above N over E is carried
abbrev pub NothingAboveIsCarried : Type 0
NothingAboveIsCarried = (s : Scene) (L D N E : ℤ) → IsProper s → pos 0 ≺ D → pos 0 ≺ E →
    Carries s L D → L *ℤ E ≼ N *ℤ D → ¬ (Carries s N E) →
    (L' D' : ℤ) → pos 0 ≺ D' → N *ℤ D' ≺ L' *ℤ E → ¬ (Carries s L' D')
