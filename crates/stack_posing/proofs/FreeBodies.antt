-- The free bodies of a scene by their numbers, and sums over them.
use Rattle.std.proofs.Common.{◌≡◌, refl, sym, ap, ◌∙◌, ℕ, zero, suc, ◌+◌, ◌<◌, Bool, true, false, not, cond, ◌&&◌, eqb}
use Rattle.std.proofs.Common.{arith, eq-eqb, T, eqb→eq, ℤ, pos, ◌+ℤ◌}
use native.Mathlib.Decide.{ℕ_discrete}
use Rattle.stack_equilibrium.proofs.Common.{Scene, free_before, integers, scene_of, sum_same, sum_to, sums}
use Rattle.stack_algebra.proofs.Sums.{sum_more}
use Rattle.stack_equilibrium.proofs.FreeNumbers.{before_is, all_before}
use Rattle.stack_contact.specs.FreeBlocks.{free_of}
use Rattle.stack_contact.proofs.Frees.{free_block}
use Rattle.stack_posing.specs.FreeBodies.{free_below, free_at, FreeBodiesAreFound, FreeNumbersAreThoseOfSurveys}

pub eqb-other : (a b : ℕ) → (a ≡ b → ⊥) → eqb a b ≡ false
eqb-other a b d = go (eqb a b) (eqb→eq a b)
  where
    go : (t : Bool) → (T t → a ≡ b) → t ≡ false
    go true e = absurd (d (e tt))
    go false e = refl

module _ (s : Scene) where
  -- a free body comes before what is counted after it
  pub before_less : (n i : ℕ) → i < n → (s.body i).free ≡ true → free_before s i < free_before s n
  before_less zero i l f = absurd (omega (arith, l))
  before_less (suc n) i l f = go (ℕ_discrete i n) (before_less n i)
    where
      one : free_before s i + cond (s.body i).free 1 0 ≡ free_before s i + 1
      one = ap (λ t. free_before s i + cond t 1 0) f

      more : (b : Bool) → free_before s i < free_before s n → free_before s i < free_before s n + cond b 1 0
      more true h = omega (arith, h)
      more false h = omega (arith, h)

      go : Dec (i ≡ n) → (i < n → (s.body i).free ≡ true → free_before s i < free_before s n) →
          free_before s i < free_before s n + cond (s.body n).free 1 0
      go (yes e) r =
          let h : free_before s i + cond (s.body i).free 1 0 ≡ free_before s n + cond (s.body n).free 1 0 =
          ap (λ k. free_before s k + cond (s.body k).free 1 0) e in omega (arith, one, h)
      go (no d) r = more (s.body n).free (r (omega (arith, l, d)) f)

  -- the body of a free body's number
  pub free_found : (n i : ℕ) → i < n → (s.body i).free ≡ true → free_below s n (free_before s i) ≡ i
  free_found zero i l f = absurd (omega (arith, l))
  free_found (suc n) i l f = go (ℕ_discrete i n) (free_found n i)
    where
      here : (b t : Bool) → b ≡ true → t ≡ true → cond (b && t) n (free_below s n (free_before s i)) ≡ n
      here b t p q = λ j. cond (p j && q j) n (free_below s n (free_before s i))

      past : (b : Bool) → (s.body n).free ≡ b → i < n →
          cond (b && eqb (free_before s i) (free_before s n)) n (free_below s n (free_before s i))
          ≡ free_below s n (free_before s i)
      past false e m = refl
      past true e m = ap (λ t. cond t n (free_below s n (free_before s i)))
          (eqb-other _ _ (λ p. omega (arith, p, before_less n i m f)))

      go : Dec (i ≡ n) → (i < n → (s.body i).free ≡ true → free_below s n (free_before s i) ≡ i) →
          cond ((s.body n).free && eqb (free_before s i) (free_before s n)) n (free_below s n (free_before s i))
          ≡ i
      go (yes e) r = here (s.body n).free (eqb (free_before s i) (free_before s n))
          (ap (λ k. (s.body k).free) (sym e) ∙ f) (eq-eqb _ _ (ap (free_before s) e)) ∙ sym e
      go (no d) r = past (s.body n).free refl (omega (arith, l, d)) ∙ r (omega (arith, l, d)) f

  -- a number of each free body, summed over all bodies
  pub over_free : (n : ℕ) (h : ℕ → ℕ → ℤ) → sum_to (free_before s n) (λ b. h b (free_below s n b))
      ≡ sum_to n (λ i. cond (s.body i).free (h (free_before s i) i) (pos 0))
  over_free zero h = refl
  over_free (suc n) h = go (s.body n).free (over_free n h)
    where
      none : (a : ℤ) → a ≡ a +ℤ pos 0
      none a = omega (arith, sums)

      at_end : cond (eqb (free_before s n) (free_before s n)) n (free_below s n (free_before s n)) ≡ n
      at_end = ap (λ t. cond t n (free_below s n (free_before s n))) (eq-eqb _ _ refl)

      go : (t : Bool) → sum_to (free_before s n) (λ b. h b (free_below s n b))
          ≡ sum_to n (λ i. cond (s.body i).free (h (free_before s i) i) (pos 0)) →
          sum_to (free_before s n + cond t 1 0)
          (λ b. h b (cond (t && eqb b (free_before s n)) n (free_below s n b)))
          ≡ sum_to n (λ i. cond (s.body i).free (h (free_before s i) i) (pos 0))
          +ℤ cond t (h (free_before s n) n) (pos 0)
      go true r = sum_more integers (free_before s n) _
          ∙ (λ j. sum_same integers (free_before s n)
          (λ b. h b (cond (eqb b (free_before s n)) n (free_below s n b))) (λ b. h b (free_below s n b))
          (λ b l i. h b (cond (eqb-other b (free_before s n) (λ p. omega (arith, p, l)) i) n
          (free_below s n b)))
          j +ℤ h (free_before s n) (at_end j))
          ∙ ap (λ z. z +ℤ h (free_before s n) n) r
      go false r = (let e : free_before s n + 0 ≡ free_before s n = omega arith in
          ap (λ k. sum_to k (λ b. h b (free_below s n b))) e)
          ∙ r ∙ none _

pub free_bodies_are_found : FreeBodiesAreFound
free_bodies_are_found s i l f = record {
  numbered = before_less s s.bodies i l f;
  found = free_found s s.bodies i l f;
}

pub free_numbers_are_those_of_surveys : FreeNumbersAreThoseOfSurveys
free_numbers_are_those_of_surveys v = record {
  count = all_before v;
  body = λ b l. let h = free_block v.structure.bodies b l in let i = free_of v.structure.bodies b in
      ap (free_at (scene_of v)) (sym (before_is v i ∙ h.again))
      ∙ free_found (scene_of v) (scene_of v).bodies i h.within (ap not h.free);
}
