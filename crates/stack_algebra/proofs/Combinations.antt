-- Rows of a table as combinations of the first rows, and what all first rows annul. Over any ring; the right
-- side is a column like the others.
use Rattle.std.proofs.Common.{◌≡◌, ◌≢◌, refl, sym, ap, subst, ◌∙◌, ℕ, ◌<◌, ◌+◌}
use native.Mathlib.Decide.{ℕ_discrete}
use lib.IntN.{pos}
use Rattle.stack_algebra.proofs.Ring.{Ring, Exp, num, ◌⊕◌, ◌⊖◌, ◌⊗◌, ring2, ring3, ring4, ring5, mul-zero, add-zero}
use Rattle.stack_algebra.proofs.Sums.{sum, sum_same, sum_add, sum_scale, sum_swap, sum_one, sum_zero, at, at-other}
use Rattle.stack_algebra.proofs.Sums.{at-same}
use Rattle.stack_algebra.specs.Rows.{pivoted, dot, none, Annuls, Combination, spread}
use Rattle.stack_algebra.proofs.Pivots.{pivoted-own, pivoted-other}

module _ (R : Ring) where
  pub dot_scaled : (n : ℕ) (q : R.C) (s x : ℕ → R.C) → dot R n (λ j. R.mul q (s j)) x ≡ R.mul q (dot R n s x)
  dot_scaled n q s x = (λ i. sum R n (λ j. R.mul_assoc q (s j) (x j) i))
      ∙ sum_scale R n q (λ j. R.mul (s j) (x j))

  pub dot_less : (n : ℕ) (f q : R.C) (t s x : ℕ → R.C) →
      dot R n (λ j. R.add (t j) (R.neg (R.mul f (R.mul q (s j))))) x
      ≡ R.add (dot R n t x) (R.neg (R.mul f (R.mul q (dot R n s x))))
  dot_less n f q t s x = (λ i. sum R n
      (λ j. ring5 R (λ t f q s x. ((t ⊖ f ⊗ (q ⊗ s)) ⊗ x, t ⊗ x ⊕ Exp.neg (f ⊗ q) ⊗ (s ⊗ x))) refl (t j) f q
      (s j) (x j) i))
      ∙ sum_add R n (λ j. R.mul (t j) (x j)) (λ j. R.mul (R.neg (R.mul f q)) (R.mul (s j) (x j)))
      ∙ ap (λ z. R.add (dot R n t x) z) (sum_scale R n (R.neg (R.mul f q)) (λ j. R.mul (s j) (x j)))
      ∙ ring4 R (λ u f q v. (u ⊕ Exp.neg (f ⊗ q) ⊗ v, u ⊖ f ⊗ (q ⊗ v))) refl (dot R n t x) f q (dot R n s x)

  dot-own : (n : ℕ) (T : ℕ → ℕ → R.C) (q : R.C) (r c : ℕ) (x : ℕ → R.C) → dot R n (pivoted R T q r c r) x
      ≡ R.mul q (dot R n (T r) x)
  dot-own n T q r c x = ap (λ (s : ℕ → R.C). dot R n s x) (pivoted-own R T q r c) ∙ dot_scaled n q (T r) x

  dot-other : (n : ℕ) (T : ℕ → ℕ → R.C) (q : R.C) (r c i : ℕ) (x : ℕ → R.C) → i ≢ r →
      dot R n (pivoted R T q r c i) x
      ≡ R.add (dot R n (T i) x) (R.neg (R.mul (T i c) (R.mul q (dot R n (T r) x))))
  dot-other n T q r c i x d = ap (λ (s : ℕ → R.C). dot R n s x) (pivoted-other R T q r c i d)
      ∙ dot_less n (T i c) q (T i) (T r) x

  -- what the rows after a pivot annul, the rows before it annul too
  pub annuls_before : (m n : ℕ) (T : ℕ → ℕ → R.C) (q : R.C) (r c : ℕ) (x : ℕ → R.C) → r < m → R.mul q (T r c)
      ≡ R.of (pos 1) → Annuls R m n (pivoted R T q r c) x → Annuls R m n T x
  annuls_before m n T q r c x l one h i k = go (ℕ_discrete i r)
    where
      own : dot R n (T r) x ≡ R.of (pos 0)
      own = sym (R.one_mul (dot R n (T r) x)) ∙ ap (λ z. R.mul z (dot R n (T r) x)) (sym one)
          ∙ ring3 R (λ q p g. (q ⊗ p ⊗ g, p ⊗ (q ⊗ g))) refl q (T r c) (dot R n (T r) x)
          ∙ ap (R.mul (T r c)) (sym (dot-own n T q r c x) ∙ h r l) ∙ mul-zero R (T r c)

      go : Dec (i ≡ r) → dot R n (T i) x ≡ R.of (pos 0)
      go (yes e) = ap (λ k. dot R n (T k) x) e ∙ own
      go (no d) = ring4 R (λ g f q s. (g, (g ⊖ f ⊗ (q ⊗ s)) ⊕ f ⊗ (q ⊗ s))) refl (dot R n (T i) x) (T i c) q
          (dot R n (T r) x)
          ∙ (λ z. R.add ((sym (dot-other n T q r c i x d) ∙ h i k) z) (R.mul (T i c) (R.mul q (own z))))
          ∙ ring2 R (λ f q. (num (pos 0) ⊕ f ⊗ (q ⊗ num (pos 0)), num (pos 0))) refl (T i c) q

  pub combination_first : (m : ℕ) (A : ℕ → ℕ → R.C) (i : ℕ) → i < m → Combination R m A (none R) (A i)
  combination_first m A i l = record {
    multiplier = at R i (R.of (pos 1));
    cell = λ j. sym (R.zero_add _ ∙ sum_one R m i (λ k. R.mul (at R i (R.of (pos 1)) k) (A k j)) l
        (λ k _ d. ap (λ z. R.mul z (A k j)) (at-other R i k (R.of (pos 1)) d) ∙ R.zero_mul (A k j))
        ∙ ap (λ z. R.mul z (A i j)) (at-same R i (R.of (pos 1))) ∙ R.one_mul (A i j));
  }

  pub combination_scaled : (m : ℕ) (A : ℕ → ℕ → R.C) (s : ℕ → R.C) (q : R.C) → Combination R m A (none R) s →
      Combination R m A (none R) (λ j. R.mul q (s j))
  combination_scaled m A s q h = record {
    multiplier = λ k. R.mul q (h.multiplier k);
    cell = λ j. ap (R.mul q) (h.cell j ∙ R.zero_add _)
        ∙ sym (sum_scale R m q (λ k. R.mul (h.multiplier k) (A k j)))
        ∙ sum_same R m _ _ (λ k l. sym (R.mul_assoc q (h.multiplier k) (A k j))) ∙ sym (R.zero_add _);
  }

  pub combination_less : (m : ℕ) (A : ℕ → ℕ → R.C) (own t s : ℕ → R.C) (f q : R.C) → Combination R m A own t →
      Combination R m A (none R) s → Combination R m A own
      (λ j. R.add (t j) (R.neg (R.mul f (R.mul q (s j)))))
  combination_less m A own t s f q h g = record {
    multiplier = λ k. R.add (h.multiplier k) (R.neg (R.mul f (R.mul q (g.multiplier k))));
    cell = λ j. (λ z. R.add (h.cell j z) (R.neg (R.mul f (R.mul q ((g.cell j ∙ R.zero_add _) z)))))
        ∙ ring5 R (λ w u f q v. ((w ⊕ u) ⊖ f ⊗ (q ⊗ v), w ⊕ (u ⊕ Exp.neg (f ⊗ q) ⊗ v))) refl (own j)
        (sum R m (λ k. R.mul (h.multiplier k) (A k j))) f q
        (sum R m (λ k. R.mul (g.multiplier k) (A k j)))
        ∙ ap (R.add (own j)) (ap (R.add (sum R m (λ k. R.mul (h.multiplier k) (A k j))))
        (sym (sum_scale R m (R.neg (R.mul f q)) (λ k. R.mul (g.multiplier k) (A k j))))
        ∙ sym (sum_add R m (λ k. R.mul (h.multiplier k) (A k j))
        (λ k. R.mul (R.neg (R.mul f q)) (R.mul (g.multiplier k) (A k j))))
        ∙ sum_same R m _ _ (λ k l. ring5 R
        (λ u a f q v. (u ⊗ a ⊕ Exp.neg (f ⊗ q) ⊗ (v ⊗ a), (u ⊖ f ⊗ (q ⊗ v)) ⊗ a)) refl (h.multiplier k)
        (A k j) f q (g.multiplier k)));
  }

  pub combination_pivoted : (m : ℕ) (A : ℕ → ℕ → R.C) (own : ℕ → R.C) (T : ℕ → ℕ → R.C) (q : R.C)
      (r c i : ℕ) → (i ≡ r → ◌≡◌ {A = ℕ → R.C} (none R) own) →
      Combination R m A own (T i) → Combination R m A (none R) (T r) →
      Combination R m A own (pivoted R T q r c i)
  combination_pivoted m A own T q r c i same h g = go (ℕ_discrete i r)
    where
      go : Dec (i ≡ r) → Combination R m A own (pivoted R T q r c i)
      go (yes e) = subst (λ (o : ℕ → R.C). Combination R m A o (pivoted R T q r c i)) (same e)
          (subst (λ k. Combination R m A (none R) (pivoted R T q r c k)) (sym e)
          (subst (λ (t : ℕ → R.C). Combination R m A (none R) t) (sym (pivoted-own R T q r c))
          (combination_scaled m A (T r) q g)))
      go (no d) = subst (λ (t : ℕ → R.C). Combination R m A own t) (sym (pivoted-other R T q r c i d))
          (combination_less m A own (T i) (T r) (T i c) q h g)

  -- a row on what the first rows annul: only its own cells count
  pub dot_own_cells : (m n : ℕ) (A : ℕ → ℕ → R.C) (own t x : ℕ → R.C) → Combination R m A own t →
      Annuls R m n A x → dot R n t x ≡ dot R n own x
  dot_own_cells m n A own t x h a = (λ z. sum R n (λ j. R.mul (h.cell j z) (x j)))
      ∙ (λ z. sum R n (λ j. R.add_mul (own j) (sum R m (λ k. R.mul (h.multiplier k) (A k j))) (x j) z))
      ∙ sum_add R n (λ j. R.mul (own j) (x j))
      (λ j. R.mul (sum R m (λ k. R.mul (h.multiplier k) (A k j))) (x j))
      ∙ ap (R.add (dot R n own x)) rest ∙ add-zero R _
    where
      rest : sum R n (λ j. R.mul (sum R m (λ k. R.mul (h.multiplier k) (A k j))) (x j)) ≡ R.of (pos 0)
      rest = sum_same R n _ _ (λ j l. R.mul_comm _ (x j)
          ∙ sym (sum_scale R m (x j) (λ k. R.mul (h.multiplier k) (A k j))))
          ∙ sum_swap R n m (λ j k. R.mul (x j) (R.mul (h.multiplier k) (A k j)))
          ∙ sum_zero R m _ (λ k l. sum_same R n _ _
          (λ j _. ring3 R (λ x y a. (x ⊗ (y ⊗ a), y ⊗ (a ⊗ x))) refl (x j) (h.multiplier k) (A k j))
          ∙ sum_scale R n (h.multiplier k) (λ j. R.mul (A k j) (x j)) ∙ ap (R.mul (h.multiplier k)) (a k l)
          ∙ mul-zero R (h.multiplier k))

  -- the artificial columns from w on hold own cells plus multipliers
  pub multiplier_is : (m w : ℕ) (A : ℕ → ℕ → R.C) (own t : ℕ → R.C) →
      ((l k : ℕ) → k < m → A l (w + k) ≡ at R k (R.of (pos 1)) l) → (h : Combination R m A own t) → (k : ℕ) →
      k < m → h.multiplier k ≡ R.add (t (w + k)) (R.neg (own (w + k)))
  multiplier_is m w A own t a h k l = sym
      ((λ z. R.add (h.cell (w + k) z) (R.neg (own (w + k))))
      ∙ (λ z. R.add (R.add (own (w + k)) (column z)) (R.neg (own (w + k))))
      ∙ ring2 R (λ o y. ((o ⊕ y) ⊖ o, y)) refl (own (w + k)) (h.multiplier k))
    where
      column : sum R m (λ j. R.mul (h.multiplier j) (A j (w + k))) ≡ h.multiplier k
      column = sum_one R m k (λ j. R.mul (h.multiplier j) (A j (w + k))) l
          (λ j _ d. ap (R.mul (h.multiplier j)) (a j k l ∙ at-other R k j (R.of (pos 1)) d)
          ∙ mul-zero R (h.multiplier j))
          ∙ ap (R.mul (h.multiplier k)) (a k k l ∙ at-same R k (R.of (pos 1)))
          ∙ R.mul_comm (h.multiplier k) (R.of (pos 1)) ∙ R.one_mul (h.multiplier k)

  pub dot_spread : (m n : ℕ) (basic : ℕ → ℕ) (g v : ℕ → R.C) → ((i : ℕ) → i < m → basic i < n) →
      dot R n g (spread R m basic v) ≡ sum R m (λ i. R.mul (g (basic i)) (v i))
  dot_spread m n basic g v b = sum_same R n _ _
      (λ j l. sym (sum_scale R m (g j) (λ i. at R (basic i) (v i) j)))
      ∙ sum_swap R n m (λ j i. R.mul (g j) (at R (basic i) (v i) j))
      ∙ sum_same R m _ _ (λ i l. sum_one R n (basic i) (λ j. R.mul (g j) (at R (basic i) (v i) j)) (b i l)
      (λ j _ d. ap (R.mul (g j)) (at-other R (basic i) j (v i) d) ∙ mul-zero R (g j))
      ∙ ap (R.mul (g (basic i))) (at-same R (basic i) (v i)))
