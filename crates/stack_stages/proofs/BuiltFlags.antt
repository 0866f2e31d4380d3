-- What is built, told by flags, and the survey of the part that they keep.
use Rattle.std.proofs.Common.{◌≡◌, sym, ap, ◌∙◌, ℕ, ◌≤◌, nat_lt, Bool, false, ◌&&◌, List, length, inl, inr, subst}
use Rattle.std.proofs.lemmas.Bool.{cases_lt, lt-ltb, le-ltb}
use Rattle.std.proofs.lemmas.List.{get_or_past}
use Rattle.stack_model.specs.Structure.{Structure}
use Rattle.stack_contact.specs.Surveyed.{Surveyed}
use Rattle.stack_model.specs.Keeping.{flag_at, AreFlags}
use Rattle.stack_part.specs.Part.{surveyed_part}
use Rattle.stack_stages.specs.Stage.{is_fixed_or_among, is_built}

-- below their number flags say what they store, and past it no
flags_say : (n : ℕ) (keeps : ℕ → Bool) (flags : List Bool) → AreFlags n keeps flags → (i : ℕ)
    → flag_at flags i ≡ (nat_lt i n && keeps i)
flags_say n keeps flags h i = elim (cases_lt i n) [
  | inl lt ↦ h.each i lt ∙ ap (λ t. t && keeps i) (sym (lt-ltb i n lt))
  | inr le ↦ get_or_past flags i false (subst (λ m. m ≤ i) (sym h.count) le)
      ∙ ap (λ t. t && keeps i) (sym (le-ltb i n le))
]

-- so the part that they keep is what is built
pub built_part : (v : Surveyed) (s : Structure) (first : List ℕ) (flags : List Bool) → s ≡ v.structure
    → AreFlags (length s.bodies) (is_fixed_or_among s first) flags
    → surveyed_part (flag_at flags) v ≡ surveyed_part (is_built v.structure first) v
built_part v s first flags e h =
    (λ j. surveyed_part (λ i. flags_say (length s.bodies) (is_fixed_or_among s first) flags h i j) v)
    ∙ ap (λ (t : Structure). surveyed_part (is_built t first) v) e

-- there is one flag for each body
pub one_each : (v : Surveyed) (s : Structure) (keeps : ℕ → Bool) (flags : List Bool) → s ≡ v.structure
    → AreFlags (length s.bodies) keeps flags → length flags ≡ length v.structure.bodies
one_each v s keeps flags e h = h.count ∙ ap (λ (t : Structure). length t.bodies) e
