-- Names that are each new where they come are different, and bodies that come where there is room are few.
use Rattle.std.proofs.Common.{◌≡◌, sym, ◌∙◌, subst, ℕ, ◌+◌, ◌<◌, ◌≤◌, Bool, true, false, not, cond, inl, inr, List, []}
use Rattle.std.proofs.Common.{◌∷◌, ◌++◌, length, get_or, arith, count_by}
use Rattle.std.proofs.lemmas.Bool.{cases_lt}
use Rattle.std.specs.Str.{bytes_eq}
use Rattle.std.specs.List.{list_any}
use Rattle.std.proofs.lemmas.List.{map-append, length-append, get_or_append_left}
use Rattle.std.proofs.Math.Seq.{get_or-append_seam}
use Rattle.std.proofs.lemmas.List.Sums.{sum_by-append}
use Rattle.std.proofs.lemmas.List.Folds.{list_any_at}
use Rattle.std.proofs.lemmas.Slice.Eq.{bytes_eq-Decides}
use Rattle.stack_whole.specs.Limits.{most_free}
use Rattle.stack_model.specs.Structure.{NamedMaterial, NamedBody}
use Rattle.stack_model.specs.Content.{is_new, material_names, body_names}
use Rattle.stack_model.specs.Sound.{AreDifferent, fixed_among, free_among}

-- a new name is none of those before it
new_is_other : (name : List ℕ) (names : List (List ℕ)) (i : ℕ) → is_new name names ≡ true → i < length names
    → ¬ (get_or names i [] ≡ name)
new_is_other name names i new lt same =
    let found : list_any (bytes_eq name) names ≡ true =
    list_any_at (bytes_eq name) names i [] lt ((bytes_eq-Decides name (get_or names i [])).1 (sym same)) in
    absurd (cc)

pub no_names : AreDifferent []
no_names i j lt within = absurd (omega arith)

pub one_more_name : (names : List (List ℕ)) (name : List ℕ) → is_new name names ≡ true → AreDifferent names
    → AreDifferent (names ++ name ∷ [])
one_more_name names name new different i j lt within = elim (cases_lt j (length names)) [
  | inl earlier ↦ λ same. different i j lt earlier (sym (left i (omega arith)) ∙ same ∙ left j earlier)
  | inr last ↦ λ same. new_is_other name names i new (omega (arith, length-append names (name ∷ [])))
      (sym (left i (omega (arith, length-append names (name ∷ [])))) ∙ same
      ∙ at_end j (omega (arith, length-append names (name ∷ []))))
]
  where
    left : (k : ℕ) → k < length names → get_or (names ++ name ∷ []) k [] ≡ get_or names k []
    left k l = get_or_append_left names (name ∷ []) [] k l

    at_end : (k : ℕ) → k ≡ length names → get_or (names ++ name ∷ []) k [] ≡ name
    at_end k e = subst (λ n. get_or (names ++ name ∷ []) n [] ≡ name) (sym e)
        (get_or-append_seam names name [] [])

-- the names of one more material, and of one more body
pub one_more_material : (ms : List NamedMaterial) (m : NamedMaterial) → is_new m.name (material_names ms) ≡ true
    → AreDifferent (material_names ms) → AreDifferent (material_names (ms ++ m ∷ []))
one_more_material ms m new different = subst AreDifferent (sym (map-append (λ m. m.name) ms (m ∷ [])))
    (one_more_name (material_names ms) m.name new different)

-- what the bodies of a file keep, one after the other
pub record AreApart (bs : List NamedBody) : Type 0 where
  pub different : AreDifferent (body_names bs)
  pub few_free : free_among bs ≤ most_free
  pub few_fixed : fixed_among bs ≤ 64

pub no_bodies : AreApart []
no_bodies = record { different = no_names; few_free = omega arith; few_fixed = omega arith }

one_more_counted : (p : NamedBody → Bool) (bs : List NamedBody) (b : NamedBody)
    → count_by p (bs ++ b ∷ []) ≡ count_by p bs + cond (p b) 1 0
one_more_counted p bs b = sum_by-append (λ x. cond (p x) 1 0) bs (b ∷ []) ∙ once (cond (p b) 1 0)
  where
    once : (n : ℕ) → count_by p bs + (0 + n) ≡ count_by p bs + n
    once n = omega arith

-- there is room for it
abbrev pub HasRoom : Bool → List NamedBody → Type 0
HasRoom true bs = fixed_among bs < 64
HasRoom false bs = free_among bs < most_free

pub one_more_body : (bs : List NamedBody) (b : NamedBody) → is_new b.name (body_names bs) ≡ true
    → HasRoom b.fixed bs → AreApart bs → AreApart (bs ++ b ∷ [])
one_more_body bs b new room h = record {
  different = subst AreDifferent (sym (map-append (λ b. b.name) bs (b ∷ [])))
      (one_more_name (body_names bs) b.name new h.different);
  few_free = rw (one_more_counted (λ b. not b.fixed) bs b) (frees b.fixed room);
  few_fixed = rw (one_more_counted (λ b. b.fixed) bs b) (fixeds b.fixed room);
}
  where
    frees : (f : Bool) → HasRoom f bs → free_among bs + cond (not f) 1 0 ≤ most_free
    frees true r = let l = h.few_free in omega arith
    frees false r = omega (arith, r)

    fixeds : (f : Bool) → HasRoom f bs → fixed_among bs + cond f 1 0 ≤ 64
    fixeds true r = omega (arith, r)
    fixeds false r = let l = h.few_fixed in omega arith
