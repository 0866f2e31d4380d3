-- The row found as best: none has a lesser ratio, and none of the same ratio a lesser basic column.
use Rattle.std.proofs.Common.{◌≡◌, ◌≢◌, refl, sym, ap, subst, ◌∙◌, ℕ, zero, suc, ◌<◌, Bool, true, false, cond, ltb}
use Rattle.std.proofs.Common.{Option, Some, None, arith, ltb-true, ltb-false, pos}
use Rattle.stack_rational.proofs.Common.{ℕ_discrete, Exp, num, ◌⊕◌, ◌⊖◌, ring1, ring2, ring3, Ordered, Sign, minus}
use Rattle.stack_rational.proofs.Common.{nought, plus, less, NonNeg, nonneg_by, nonneg_zero, nonneg_add}
use Rattle.stack_algebra.proofs.Signs.{zero_between, nonneg_neg}
use Rattle.stack_bland.specs.Choice.{is_plus, goes_first, better, best}
use Rattle.stack_run.specs.LeavingRow.{NoWorse, IsBest}

-- the item of Some
some_same : {P : Type 0} {x y : P} → Some x ≡ Some y → x ≡ y
some_same e = cc

module _ (F : Ordered) where
  -- no worse than itself, and than what a row that is no worse is no worse than
  no_worse-self : (ratio : ℕ → F.C) (basic : ℕ → ℕ) (r : ℕ) → NoWorse F ratio basic r r
  no_worse-self ratio basic r = record {
    no_greater = nonneg_by F (F.of (pos 0)) (less F (ratio r) (ratio r))
        (sym (ring1 F.ring (λ x. (x ⊖ x, num (pos 0))) refl (ratio r)))
        (nonneg_zero F);
    tied = λ e. omega arith;
  }

  -- numbers whose difference is 0, and a difference the other way round
  less-zero : (x y : F.C) → less F x y ≡ F.of (pos 0) → x ≡ y
  less-zero x y e = ring2 F.ring (λ x y. (x, (x ⊖ y) ⊕ y)) refl x y ∙ ap (λ z. F.add z y) e ∙ F.zero_add y

  less-swap : (x y : F.C) → F.neg (less F x y) ≡ less F y x
  less-swap = ring2 F.ring (λ x y. (Exp.neg (x ⊖ y), y ⊖ x)) refl

  no_worse-trans : (ratio : ℕ → F.C) (basic : ℕ → ℕ) (a b c : ℕ) → NoWorse F ratio basic a b →
      NoWorse F ratio basic b c → NoWorse F ratio basic a c
  no_worse-trans ratio basic a b c h k = record {
    no_greater = nonneg_by F _ (less F (ratio c) (ratio a)) (ring3 F.ring (λ x y z. ((z ⊖ y) ⊕ (y ⊖ x), z ⊖ x))
        refl (ratio a) (ratio b) (ratio c)) (nonneg_add F _ _ k.no_greater h.no_greater);
    tied = λ e.
        let same : ratio b ≡ ratio a =
        less-zero (ratio b) (ratio a) (zero_between F _ h.no_greater
        (nonneg_by F _ _ (ap (λ z. less F z (ratio b)) e ∙ sym (less-swap (ratio b) (ratio a))) k.no_greater))
        in
        omega (arith, h.tied same, k.tied (e ∙ sym same));
  }

  -- which of the rows n and r is better
  different : (ratio : ℕ → F.C) (n r : ℕ) (s : Sign) → F.sign (less F (ratio n) (ratio r)) ≡ s →
      ratio n ≡ ratio r → s ≡ nought
  different ratio n r s e d = sym e ∙ ap (λ z. F.sign (less F z (ratio r))) d
      ∙ ap F.sign (ring1 F.ring (λ x. (x ⊖ x, num (pos 0))) refl (ratio r)) ∙ F.sign-zero

  -- a difference the other way round
  swapped : (ratio : ℕ → F.C) (n r : ℕ) → F.sign (less F (ratio n) (ratio r)) ≢ plus →
      NonNeg F (less F (ratio r) (ratio n))
  swapped ratio n r d = nonneg_by F _ _ (less-swap (ratio n) (ratio r)) (nonneg_neg F _ d)

  -- what the test of two rows says
  compared : (ratio : ℕ → F.C) (basic : ℕ → ℕ) (n r : ℕ) (s : Sign) (t : Bool) →
      F.sign (less F (ratio n) (ratio r)) ≡ s → ltb (basic n) (basic r) ≡ t →
      (goes_first s (basic n) (basic r) ≡ true → NoWorse F ratio basic n r)
      × (goes_first s (basic n) (basic r) ≡ false → NoWorse F ratio basic r n)
  compared ratio basic n r minus t e g = (
    λ _. record {
      no_greater = swapped ratio n r (λ p. cc);
      tied = λ d. absurd (let z = different ratio n r minus e (sym d) in cc);
    },
    λ p. absurd cc,
  )
  compared ratio basic n r nought true e g = (
    λ _. record { no_greater = swapped ratio n r (λ p. cc); tied = λ d. omega (arith, ltb-true _ _ g) },
    λ p. absurd cc,
  )
  compared ratio basic n r nought false e g =
      (λ p. absurd cc, λ _. record { no_greater = record { fact = λ p. cc }; tied = λ d. ltb-false _ _ g })
  compared ratio basic n r plus t e g = (
    λ p. absurd cc,
    λ _. record {
      no_greater = record { fact = λ p. cc };
      tied = λ d. absurd (let z = different ratio n r plus e d in cc);
    },
  )

  -- the best row so far and one row more
  best_more : (cell ratio : ℕ → F.C) (basic : ℕ → ℕ) (n : ℕ) (o : Option ℕ) (r : ℕ) → F.sign (cell n) ≡ plus →
      (o ≡ None → (i : ℕ) → i < n → F.sign (cell i) ≢ plus) →
      ((q : ℕ) → o ≡ Some q → IsBest F cell ratio basic n q) →
      better F ratio basic n o ≡ Some r → IsBest F cell ratio basic (suc n) r
  best_more cell ratio basic n None r p h k e = subst (λ i. IsBest F cell ratio basic (suc n) i) (some_same e)
      (record { below = omega arith; positive = p; no_worse = λ i l q. go i l q (ℕ_discrete i n) })
    where
      go : (i : ℕ) → i < suc n → F.sign (cell i) ≡ plus → Dec (i ≡ n) → NoWorse F ratio basic n i
      go i l q (yes d) = subst (λ k. NoWorse F ratio basic n k) (sym d) (no_worse-self ratio basic n)
      go i l q (no d) = absurd (h refl i (omega arith) q)
  best_more cell ratio basic n (Some b) r p h k e =
      go (goes_first (F.sign (less F (ratio n) (ratio b))) (basic n) (basic b))
      (compared ratio basic n b _ _ refl refl) (k b refl) e
    where
      go : (t : Bool) → (t ≡ true → NoWorse F ratio basic n b) × (t ≡ false → NoWorse F ratio basic b n) →
          IsBest F cell ratio basic n b → Some (cond t n b) ≡ Some r → IsBest F cell ratio basic (suc n) r
      go true w s e = subst (λ i. IsBest F cell ratio basic (suc n) i) (some_same e)
          (record { below = omega arith; positive = p; no_worse = λ i l q. each i l q (ℕ_discrete i n) })
        where
          each : (i : ℕ) → i < suc n → F.sign (cell i) ≡ plus → Dec (i ≡ n) → NoWorse F ratio basic n i
          each i l q (yes d) = subst (λ k. NoWorse F ratio basic n k) (sym d) (no_worse-self ratio basic n)
          each i l q (no d) = no_worse-trans ratio basic n b i (w.0 refl) (s.no_worse i (omega arith) q)
      go false w s e = subst (λ i. IsBest F cell ratio basic (suc n) i) (some_same e)
          (record {
            below = omega (arith, s.below);
            positive = s.positive;
            no_worse = λ i l q. each i l q (ℕ_discrete i n);
          })
        where
          each : (i : ℕ) → i < suc n → F.sign (cell i) ≡ plus → Dec (i ≡ n) → NoWorse F ratio basic b i
          each i l q (yes d) = subst (λ k. NoWorse F ratio basic b k) (sym d) (w.1 refl)
          each i l q (no d) = s.no_worse i (omega arith) q

  -- no row has a positive cell
  pub best-none : (cell ratio : ℕ → F.C) (basic : ℕ → ℕ) (n : ℕ) → best F cell ratio basic n ≡ None → (i : ℕ) →
      i < n → F.sign (cell i) ≢ plus
  best-none cell ratio basic zero e i l p = absurd (omega arith)
  best-none cell ratio basic (suc n) e i l p = go (F.sign (cell n)) refl (best F cell ratio basic n)
      (best-none cell ratio basic n) e (ℕ_discrete i n)
    where
      go : (s : Sign) → F.sign (cell n) ≡ s → (o : Option ℕ) →
          (o ≡ None → (i : ℕ) → i < n → F.sign (cell i) ≢ plus) → cond (is_plus s) (better F ratio basic n o) o
          ≡ None → Dec (i ≡ n) → ⊥
      go plus q None h e d = cc
      go plus q (Some r) h e d = cc
      go minus q o h e (yes d) = let t = sym q ∙ ap (λ k. F.sign (cell k)) (sym d) ∙ p in cc
      go minus q o h e (no d) = h e i (omega arith) p
      go nought q o h e (yes d) = let t = sym q ∙ ap (λ k. F.sign (cell k)) (sym d) ∙ p in cc
      go nought q o h e (no d) = h e i (omega arith) p

  -- a row that is found is the best
  pub best-some : (cell ratio : ℕ → F.C) (basic : ℕ → ℕ) (n r : ℕ) → best F cell ratio basic n ≡ Some r →
      IsBest F cell ratio basic n r
  best-some cell ratio basic zero r e = absurd cc
  best-some cell ratio basic (suc n) r e = go (F.sign (cell n)) refl (best F cell ratio basic n)
      (best-none cell ratio basic n) (best-some cell ratio basic n) e
    where
      kept : (s : Sign) → F.sign (cell n) ≡ s → s ≢ plus → IsBest F cell ratio basic n r →
          IsBest F cell ratio basic (suc n) r
      kept s q d h = record {
        below = omega (arith, h.below);
        positive = h.positive;
        no_worse = λ i l p. each i l p (ℕ_discrete i n);
      }
        where
          each : (i : ℕ) → i < suc n → F.sign (cell i) ≡ plus → Dec (i ≡ n) → NoWorse F ratio basic r i
          each i l p (yes t) = absurd (d (sym q ∙ ap (λ k. F.sign (cell k)) (sym t) ∙ p))
          each i l p (no t) = h.no_worse i (omega arith) p

      go : (s : Sign) → F.sign (cell n) ≡ s → (o : Option ℕ) →
          (o ≡ None → (i : ℕ) → i < n → F.sign (cell i) ≢ plus) →
          ((q : ℕ) → o ≡ Some q → IsBest F cell ratio basic n q) →
          cond (is_plus s) (better F ratio basic n o) o ≡ Some r → IsBest F cell ratio basic (suc n) r
      go plus q o h k e = best_more cell ratio basic n o r q h k e
      go minus q o h k e = kept minus q (λ d. cc) (k r e)
      go nought q o h k e = kept nought q (λ d. cc) (k r e)
