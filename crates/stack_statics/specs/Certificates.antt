-- Certificates as they are held and printed, on lists, and when each is true of a scene. A list of forces has
-- as many parts as the scene has bearings, in their order; a motion has as many moves as it has free bodies,
-- in their order, and its fixed bodies are still. After Livesley (1978): the static and the kinematic
-- theorem.
use mathlib.Core.Path.{◌≡◌}
use mathlib.Core.Bool.{cond}
use mathlib.Core.List.{List}
use Prim.Native.Nat.{ℕ, zero, suc, ◌+◌}
use lib.ListN.{length, get_or}
use lib.IntN.{ℤ, pos, ◌+ℤ◌, ◌*ℤ◌}
use Rattle.stack_algebra.specs.IntegerOrder.{◌≼◌, ◌≺◌}
use Rattle.stack_statics.specs.Scene.{BearingPart, Move, Scene}
use Rattle.stack_statics.specs.Balance.{IsAdmissible, IsBalanced}
use Rattle.stack_statics.specs.Motions.{IsUnresisted, dead_power_of, live_power_of}

-- forces that balance scale times the dead loads and factor times the live loads: the factor carried is
-- factor over scale, and a real force is its part times the tangent's length, over six times the scale
pub record SceneForces : Type 0 where
  pub scale : ℤ
  pub factor : ℤ
  pub parts : List BearingPart

-- what a list of forces gives bearing k to bear; past its end that is nothing
abbrev pub scene_part_at : SceneForces → ℕ → BearingPart
scene_part_at f k = get_or f.parts k (record { a = pos 0; b = pos 0 })

-- the move of a body that stays where it is
abbrev pub still : Move
still = record { u = pos 0; v = pos 0; r = pos 0 }

-- how many of the bodies below i are free
abbrev pub free_before : Scene → ℕ → ℕ
free_before s zero = 0
free_before s (suc i) = free_before s i + cond (s.body i).free 1 0

-- the move of body i, where the list has the moves of the free bodies
abbrev pub move_of : Scene → List Move → ℕ → Move
move_of s moves i = cond (s.body i).free (get_or moves (free_before s i) still) still

-- forces with as many parts as bearings, admissible and balanced
pub record AreBalanced (s : Scene) (f : SceneForces) : Type 0 where
  pub count : length f.parts ≡ s.bearings
  pub admissible : IsAdmissible s (scene_part_at f)
  pub balanced : IsBalanced s (scene_part_at f) f.scale f.factor

-- a motion with as many moves as free bodies, which no admissible force resists
pub record IsFreeMotion (s : Scene) (moves : List Move) : Type 0 where
  pub count : length moves ≡ free_before s s.bodies
  pub unresisted : IsUnresisted s (move_of s moves)

-- the dead loads stand
pub record IsTrueStands (s : Scene) (f : SceneForces) : Type 0 where
  pub scale_positive : pos 0 ≺ f.scale
  pub factor_zero : f.factor ≡ pos 0
  pub forces : AreBalanced s f

-- the dead loads gain power on a motion that nothing resists
pub record IsTrueCollapse (s : Scene) (moves : List Move) : Type 0 where
  pub motion : IsFreeMotion s moves
  pub gains : pos 0 ≺ dead_power_of s (move_of s moves)

-- the live loads are carried with a factor of at least 0
pub record IsTrueLoaded (s : Scene) (f : SceneForces) : Type 0 where
  pub scale_positive : pos 0 ≺ f.scale
  pub factor_nonneg : pos 0 ≼ f.factor
  pub forces : AreBalanced s f

-- a factor is carried, and a motion on which the live loads gain power forbids more: both meet at this factor
pub record IsTrueGreatest (s : Scene) (f : SceneForces) (moves : List Move) : Type 0 where
  pub loaded : IsTrueLoaded s f
  pub motion : IsFreeMotion s moves
  pub gains : pos 0 ≺ live_power_of s (move_of s moves)
  pub meets : f.factor *ℤ live_power_of s (move_of s moves) +ℤ f.scale *ℤ dead_power_of s (move_of s moves)
      ≡ pos 0

-- the live loads alone are carried, so that any multiple may be added
pub record IsTrueRay (s : Scene) (f : SceneForces) : Type 0 where
  pub scale_zero : f.scale ≡ pos 0
  pub factor_positive : pos 0 ≺ f.factor
  pub forces : AreBalanced s f

-- some factor is carried, and live loads alone are too, so that it may rise without end
pub record IsTrueUnbounded (s : Scene) (base ray : SceneForces) : Type 0 where
  pub loaded : IsTrueLoaded s base
  pub rises : IsTrueRay s ray

-- one of four claims: the dead loads stand, they collapse, a factor is the greatest, none is
pub data SceneCertificate : Type 0 where
  stands : SceneForces → SceneCertificate
  collapses : List Move → SceneCertificate
  greatest : SceneForces → List Move → SceneCertificate
  unbounded : SceneForces → SceneForces → SceneCertificate

-- a certificate is true of a scene
abbrev pub Certifies : Scene → SceneCertificate → Type 0
Certifies s (stands f) = IsTrueStands s f
Certifies s (collapses moves) = IsTrueCollapse s moves
Certifies s (greatest f moves) = IsTrueGreatest s f moves
Certifies s (unbounded base ray) = IsTrueUnbounded s base ray
