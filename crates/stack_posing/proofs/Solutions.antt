-- What solves the equations of the free bodies is balanced forces.
use Rattle.std.proofs.Common.{◌≡◌, sym, ap, subst, ◌∙◌, ℕ, ◌<◌, ℤ, pos, ◌+ℤ◌, ◌*ℤ◌}
use Rattle.stack_equilibrium.proofs.Common.{IsBalanced, IsProper, IsWithinCone, Scene, SceneBearing, bearing_side}
use Rattle.stack_equilibrium.proofs.Common.{force_x_of, force_y_of, free_before, integers, length_listed, listed_item}
use Rattle.stack_equilibrium.proofs.Common.{moment_of, scene_part_at, sum_same, sum_to}
use Rattle.stack_statics.specs.Scene.{BearingPart}
use Rattle.stack_statics.specs.Balance.{IsAdmissible}
use Rattle.stack_posing.specs.Edges.{Amounts, part_from}
use Rattle.stack_posing.specs.Equations.{IsSolvedAt, IsSolution, forces_from, SolutionsAreForces}
use Rattle.stack_posing.proofs.FreeBodies.{before_less, free_found}
use Rattle.stack_posing.proofs.EdgeSums.{edges_exert_their_part, parts_between_edges_are_admissible}

module _ (s : Scene) (scale factor : ℤ) (x : Amounts) where
  abbrev parts : ℕ → BearingPart
  parts = scene_part_at (forces_from s scale factor x)

  part_is : (k : ℕ) → k < s.bearings → parts k ≡ part_from s x k
  part_is k l = listed_item s.bearings (part_from s x) k (record { a = pos 0; b = pos 0 }) l

  -- a sum over the listed parts
  over_parts : (g : SceneBearing → BearingPart → ℤ) (sum d v : ℤ) →
      sum ≡ sum_to s.bearings (λ k. g (s.bearing k) (part_from s x k)) →
      sum +ℤ scale *ℤ d +ℤ factor *ℤ v ≡ pos 0 →
      sum_to s.bearings (λ k. g (s.bearing k) (parts k)) +ℤ scale *ℤ d +ℤ factor *ℤ v ≡ pos 0
  over_parts g sum d v h e = ap (λ t. t +ℤ scale *ℤ d +ℤ factor *ℤ v)
      (sum_same integers s.bearings _ _ (λ k l. ap (g (s.bearing k)) (part_is k l)) ∙ sym h) ∙ e

  balanced : IsSolution s scale factor x → IsBalanced s parts scale factor
  balanced h i l f =
      let e = subst (IsSolvedAt s scale factor x) (free_found s s.bodies i l f)
      (h.equations (free_before s i) (before_less s s.bodies i l f)) in
      let one = edges_exert_their_part s x i in
      record {
        along_x = over_parts (λ z p. bearing_side i z *ℤ force_x_of z p) _ _ _ one.along_x e.along_x;
        along_y = over_parts (λ z p. bearing_side i z *ℤ force_y_of z p) _ _ _ one.along_y e.along_y;
        about = over_parts (λ z p. bearing_side i z *ℤ moment_of (s.body i) z p) _ _ _ one.about e.about;
      }

  admissible : IsProper s → IsSolution s scale factor x → IsAdmissible s parts
  admissible proper h k l = subst (IsWithinCone (s.bearing k)) (sym (part_is k l))
      (parts_between_edges_are_admissible s x proper h.pushes k l)

pub solutions_are_forces : SolutionsAreForces
solutions_are_forces s scale factor x proper h = record {
  count = length_listed s.bearings (part_from s x);
  admissible = admissible s scale factor x proper h;
  balanced = balanced s scale factor x h;
}
