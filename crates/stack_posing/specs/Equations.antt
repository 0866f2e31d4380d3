-- The three equations of each free body, in amounts of the edges, and the forces that a solution is.
use Rattle.std.specs.Prelude.{◌≡◌, ℕ, ◌<◌, ℤ, pos, ◌+ℤ◌, ◌*ℤ◌}
use Rattle.stack_algebra.specs.Listed.{listed}
use Rattle.stack_statics.specs.Scene.{Scene, IsProper}
use Rattle.stack_statics.specs.Certificates.{SceneForces, AreBalanced}
use Rattle.stack_posing.specs.FreeBodies.{free_at, free_bodies}
use Rattle.stack_posing.specs.Edges.{Amounts, ArePushes, edges_sum, part_from}

-- the equations of body i, with scale times its dead loads and factor times its live loads
pub record IsSolvedAt (s : Scene) (scale factor : ℤ) (x : Amounts) (i : ℕ) : Type 0 where
  pub along_x : edges_sum (λ w. w.fx) s x i +ℤ scale *ℤ (s.body i).dead.fx +ℤ factor *ℤ (s.body i).live.fx
      ≡ pos 0
  pub along_y : edges_sum (λ w. w.fy) s x i +ℤ scale *ℤ (s.body i).dead.fy +ℤ factor *ℤ (s.body i).live.fy
      ≡ pos 0
  pub about : edges_sum (λ w. w.m) s x i +ℤ scale *ℤ (s.body i).dead.m +ℤ factor *ℤ (s.body i).live.m ≡ pos 0

-- the equations of every free body hold, in amounts that aren't negative
pub record IsSolution (s : Scene) (scale factor : ℤ) (x : Amounts) : Type 0 where
  pub pushes : ArePushes s x
  pub equations : (b : ℕ) → b < free_bodies s → IsSolvedAt s scale factor x (free_at s b)

-- the forces between the edges, in these amounts
abbrev pub forces_from : Scene → ℤ → ℤ → Amounts → SceneForces
forces_from s scale factor x = record {
  scale = scale;
  factor = factor;
  parts = listed s.bearings (part_from s x);
}

-- in a proper scene the forces of a solution are admissible, and balance every free body
abbrev pub SolutionsAreForces : Type 0
SolutionsAreForces = (s : Scene) (scale factor : ℤ) (x : Amounts) → IsProper s → IsSolution s scale factor x →
    AreBalanced s (forces_from s scale factor x)
