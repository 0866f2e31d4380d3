-- The scene of the drawn post is the one worked by hand, so the same certificates are true of both.
use Rattle.std.proofs.Common.{arith, false, nat_eq}
use mathlib.Core.Path.{◌≡◌, refl, sym, subst}
use Prim.Native.Nat.{ℕ, zero, suc}
use lib.IntN.{pos}
use Rattle.std.proofs.lemmas.Bool.{ne_eqb}
use Rattle.std.proofs.lemmas.Int.{ints}
use Rattle.stack_equilibrium.proofs.Common.{CertificateValue, Certifies, IsTrueCertificate, collapses, scene_of, stands}
use Rattle.stack_equilibrium.specs.Truth.{held}
use Rattle.stack_worked.specs.Scenes.{pushed_post}
use Rattle.stack_worked.specs.SurveyedPost.{surveyed_post, post_forces, tipping_certificate, tipping_motion}
use Rattle.stack_worked.specs.SurveyedPost.{PostSceneIsWorked, TheSameIsTrueOfThePost, CertificatesOfPost}
use Rattle.stack_worked.proofs.TrueScenes.{true_of_worked_scenes}

-- the post is no body past the end
past_the_end : (i : ℕ) → nat_eq 1 (suc (suc i)) ≡ false
past_the_end i = ne_eqb 1 (suc (suc i)) (λ e. absurd (omega (arith, e)))

same_body : (i : ℕ) → (scene_of surveyed_post).body i ≡ pushed_post.body i
same_body zero = refl
same_body (suc zero) = refl
same_body (suc (suc i)) = rw (past_the_end i)

same_bearing : (k : ℕ) → (scene_of surveyed_post).bearing k ≡ pushed_post.bearing k
same_bearing zero = refl
same_bearing (suc zero) = refl
same_bearing (suc (suc k)) = refl

pub post_scene_is_worked : PostSceneIsWorked
post_scene_is_worked = λ d. record {
  bodies = 2;
  body = λ i. same_body i d;
  bearings = 2;
  bearing = λ k. same_bearing k d;
}

pub the_same_is_true : TheSameIsTrueOfThePost
the_same_is_true c = (
  subst (λ s. Certifies s (held c)) post_scene_is_worked,
  subst (λ s. Certifies s (held c)) (sym post_scene_is_worked),
)

-- what is true of the drawing, of the worked scene
worked : (c : CertificateValue) → IsTrueCertificate surveyed_post c → Certifies pushed_post (held c)
worked c = (the_same_is_true c).0

pub certificates_of_post : CertificatesOfPost
certificates_of_post = record {
  tips_at_two = (the_same_is_true (tipping_certificate (pos 2))).1 true_of_worked_scenes.post_tips_at_two;
  does_not_tip_at_three = λ t. let w = worked (tipping_certificate (pos 3)) t in
      absurd (omega (arith, ints, (w.loaded.forces.balanced 1 (omega arith) refl).along_x));
  does_not_stand_by_them = λ t. let w = worked (stands (post_forces (pos 1) (pos 2))) t in
      absurd (omega (arith, ints, w.factor_zero));
  does_not_collapse_by_tipping = λ t. let w = worked (collapses tipping_motion) t in
      absurd (omega (arith, ints, w.gains));
}
