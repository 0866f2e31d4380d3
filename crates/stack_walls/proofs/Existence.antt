-- A structure with a survey: where each two of its bodies have contacts, pair by pair, and the bearings are few.
use Rattle.std.proofs.Common.{◌≡◌, refl, subst, ℕ, zero, suc, ◌+◌, ◌-◌, ◌<◌, ◌≤◌, ◌⊎◌, inl, inr, List, length, arith}
use Rattle.stack_polygon.specs.Limits.{IsPolygon}
use Rattle.stack_overlap.specs.Separation.{Overlaps}
use Rattle.stack_model.specs.Structure.{Structure}
use Rattle.stack_contact.specs.declared.types.Bearing.{Bearing}
use Rattle.stack_contact.specs.declared.types.Touch.{Touch}
use Rattle.stack_contact.specs.declared.types.Contacts.{Contacts}
use Rattle.stack_contact.specs.ContactLists.{corners_of, IsPair, PairBefore}
use Rattle.stack_contact.specs.Found.{AreFound, AreAllFound}
use Rattle.stack_contact.specs.NearPairs.{AreFar}
use Rattle.stack_contact.specs.PairContacts.{AreContacts}
use Rattle.stack_contact.specs.Surveyed.{AreApart}
use Rattle.stack_contact.proofs.FoundPairs.{more-found}
use Rattle.stack_contact.proofs.FoundSteps.{start-found, skipped, all-found}

-- what is found of the pairs before k, l
abbrev Has : Structure → ℕ → ℕ → Type 0
Has s k l = (zs : List Bearing) × (ts : List Touch) × AreFound s k l zs ts

-- what a pair has in common
pub record IsClear (s : Structure) (i j : ℕ) : Type 0 where
  pub pair : IsPair s i j
  pub apart : AreApart s i j
  pub clear : ¬ (Overlaps (corners_of s i) (corners_of s j))
  pub contacts : Contacts
  pub are_contacts : AreContacts (corners_of s i) (corners_of s j) contacts

module _ (s : Structure) (polygons : (i : ℕ) → i < length s.bodies → IsPolygon (corners_of s i))
    (each : (i j : ℕ) → i < j → j < length s.bodies → IsClear s i j) where
  -- one body with those after it
  row : (i d : ℕ) → i + d < length s.bodies → Has s i (suc i) → Has s i (suc (i + d))
  row i zero lt h = let e : i ≡ i + 0 = omega arith in subst (λ k. Has s i (suc k)) e h
  row i (suc d) lt h =
      let before = row i d (omega (arith, lt)) h in
      let e : suc (i + d) ≡ i + suc d = omega arith in
      let c = each i (suc (i + d)) (omega arith) (omega (arith, lt)) in
      subst (λ k. Has s i (suc k)) e
      (_, _, more-found s i (suc (i + d)) c.pair c.contacts c.are_contacts before.0 before.1 c.apart c.clear before.2)

  -- past the last body the next row begins
  next_row : (i l : ℕ) → length s.bodies ≤ l → Has s i l → Has s (suc i) (suc (suc i))
  next_row i l past h =
      (h.0, h.1, skipped s polygons i l (suc i) (suc (suc i)) there back h.0 h.1 h.2)
    where
      there : (a b : ℕ) → IsPair s a b → PairBefore a b i l → PairBefore a b (suc i) (suc (suc i))
      there a b p (inl x) = inl (omega (arith, x))
      there a b p (inr (e, x)) = inl (omega (arith, e))

      at_most : (a i : ℕ) → a < suc i → (a < i) ⊎ (a ≡ i)
      at_most a i x = grind arith

      back : (a b : ℕ) → IsPair s a b → PairBefore a b (suc i) (suc (suc i)) → PairBefore a b i l ⊎ AreFar s a b
      back a b p (inl x) = elim (at_most a i x) [
        | inl y ↦ inl (inl y)
        | inr e ↦ let w = p.is_body in inl (inr (e, omega (arith, w, past)))
      ]
      back a b p (inr (e, x)) = let o = p.in_order in absurd (omega (arith, e, x, o))

  rows : (i : ℕ) → i ≤ length s.bodies → Has s i (suc i)
  rows zero lt = (_, _, start-found s)
  rows (suc i) lt =
      let d = rest i (length s.bodies) lt in
      let all = row i d.0 (omega (arith, d.1)) (rows i (omega (arith, lt))) in
      next_row i (suc (i + d.0)) (omega (arith, d.1)) all
    where
      rest : (i n : ℕ) → suc i ≤ n → (d : ℕ) × (suc (i + d) ≡ n)
      rest i n lt = (n - suc i, omega (arith, lt))

  pub all_contacts : (zs : List Bearing) × (ts : List Touch) × AreAllFound s zs ts
  all_contacts =
      let found = rows (length s.bodies) (omega arith) in (
        found.0,
        found.1,
        all-found s (length s.bodies) (suc (length s.bodies)) (length s.bodies) refl (omega arith)
            found.0 found.1 found.2,
      )
