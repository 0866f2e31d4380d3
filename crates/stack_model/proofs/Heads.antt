-- The version and the sway that were taken, and that listed again they are taken again.
use Rattle.std.proofs.Common.{◌≡◌, refl, sym, ap, ◌∙◌, subst, ℤ, pos, Bool, true, false, List, [], ◌∷◌, Option, Some}
use Rattle.std.proofs.Common.{None, Result, Ok, map, length, arith, if◌then◌else◌}
use Rattle.std.proofs.lemmas.Int.{ints}
use Rattle.stack_algebra.specs.Steps.{◌>>=◌}
use Rattle.stack_model.specs.declared.errors.ModelError.{ModelError}
use Rattle.stack_model.specs.declared.errors.ModelError.TheVariants.{Range}
use Rattle.stack_model.specs.declared.places.Spot.TheVariants as spots
use Rattle.stack_model.specs.declared.places.Key.TheVariants as keys
use Rattle.stack_model.specs.Structure.{Structure, IsSway, is_still}
use Rattle.stack_model.specs.Parts.{PartLists, IsOfVersion}
use Rattle.stack_model.specs.Limits.{is_version, sway_of}
use Rattle.stack_whole.specs.Demands.{unless}
use Rattle.stack_model.specs.Content.{ranged, sway_listed, head_of}
use Rattle.stack_model.specs.Relisted.{sway_relisted, relisted}
use Rattle.stack_model.specs.Sound.{IsOfItsVersion}
use Rattle.stack_model.proofs.Items.{still}
use Rattle.stack_model.proofs.Limited.{sway}
use Rattle.stack_model.proofs.Chains.{there}

-- what holds of the sway
pub record IsHead (version : ℤ) (z : ℤ × ℤ) : Type 0 where
  pub known : is_version version ≡ true
  pub limits : IsSway z

again_by : (z : ℤ × ℤ) → sway_of (z.0 ∷ z.1 ∷ []) ≡ Some z → sway_listed (sway_relisted z) ≡ Ok z
again_by z h = go (is_still z) refl
  where
    go : (b : Bool) → is_still z ≡ b → sway_listed (sway_relisted z) ≡ Ok z
    go true e = ap (λ b. sway_listed (if b then None else Some (z.0 ∷ z.1 ∷ []))) e
        ∙ ap (λ (s : ℤ × ℤ). Ok s) (sym (still z e))
    go false e = ap (λ b. sway_listed (if b then None else Some (z.0 ∷ z.1 ∷ []))) e
        ∙ ap (ranged spots.Top keys.Sway) h

sway_is : (o : Option (List ℤ)) (z : ℤ × ℤ) → sway_listed o ≡ Ok z → IsSway z
sway_is None z h =
    let same : (pos 0, pos 0) ≡ z = cc in
    subst IsSway same (record {
      least_x = omega (arith, ints);
      most_x = omega (arith, ints);
      least_y = omega (arith, ints);
      most_y = omega (arith, ints);
    })
sway_is (Some zs) z h =
    let t = sway zs z (there spots.Top keys.Sway (sway_of zs) z h) in
    record { least_x = t.x.0; most_x = t.x.1; least_y = t.y.0; most_y = t.y.1 }

head_steps : (b : Bool) (e : ModelError) (r : Result (ℤ × ℤ) ModelError) (z : ℤ × ℤ)
    → (unless b e >>= λ _. r) ≡ Ok z → (b ≡ true) × (r ≡ Ok z)
head_steps true e r z h = (refl, h)
head_steps false e r z h = absurd (cc)

pub head_is : (parts : PartLists) (z : ℤ × ℤ) → head_of parts ≡ Ok z → IsHead parts.version z
unfolding head_of
head_is parts z h =
    let s = head_steps (is_version parts.version) _ (sway_listed parts.sway) z h in
    record { known = s.0; limits = sway_is parts.sway z s.1 }

-- the head of a structure with this version and this sway, listed again
pub head_again : (s : Structure) → is_version s.version ≡ true → sway_of (s.sway.0 ∷ s.sway.1 ∷ []) ≡ Some s.sway
    → head_of (relisted s) ≡ Ok s.sway
unfolding head_of
head_again s known h =
    (λ i. unless (known i) (Range spots.Top keys.Version) >>= λ _. sway_listed (sway_relisted s.sway))
    ∙ again_by s.sway h

none_left : {A : Type 0} (xs : List A) → length xs ≡ 0 → xs ≡ []
none_left [] h = refl
none_left (x ∷ xs) h = absurd (cc)

-- without joints and a sway in another version than 2, where the parts had none
pub of_version : (parts : PartLists) (s : Structure) → s.version ≡ parts.version → IsOfVersion parts
    → IsHead parts.version s.sway → head_of parts ≡ Ok s.sway → length s.joints ≡ length parts.joints
    → IsOfItsVersion s
unfolding head_of
of_version parts s same p h head count = record {
  known = ap is_version same ∙ h.known;
  joints = λ ne. none_left s.joints (count ∙ ap length (p.joints (λ e. ne (same ∙ e))));
  sway = λ ne. let t = head_steps (is_version parts.version) _ (sway_listed parts.sway) s.sway head in
      nothing s.sway (sym (ap sway_listed (p.sway (λ e. ne (same ∙ e)))) ∙ t.1);
}
  where
    nothing : (z : ℤ × ℤ) → sway_listed None ≡ Ok z → z ≡ (pos 0, pos 0)
    nothing z h = let e : (pos 0, pos 0) ≡ z = cc in sym e

-- the parts of such a structure
pub relisted_of_version : (s : Structure) → IsOfItsVersion s → IsOfVersion (relisted s)
relisted_of_version s h = record {
  joints = λ ne. ap (map _) (h.joints ne);
  sway = λ ne. ap sway_relisted (h.sway ne);
}
