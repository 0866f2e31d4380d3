-- What every pivot keeps, and right sides under the ratio rule.
use Rattle.std.proofs.Common.{◌≡◌, ◌≢◌, refl, sym, ap, subst, ◌∙◌, ℕ, suc, ◌<◌, arith}
use native.Mathlib.Decide.{ℕ_discrete}
use lib.IntN.{pos}
use Rattle.stack_algebra.specs.Ordered.{Ordered, Sign, minus, nought, plus}
use Rattle.stack_algebra.specs.Sums.{at}
use Rattle.stack_algebra.specs.Rows.{changed, next, none, Tableau, HasLeastRatio, NonNeg}
use Rattle.stack_algebra.proofs.Ring.{Exp, num, ◌⊕◌, ◌⊖◌, ◌⊗◌, ring4, ring5}
use Rattle.stack_algebra.proofs.Sums.{at-other}
use Rattle.stack_algebra.proofs.Pivots.{changed-same, changed-other, pivoted-own, pivoted-other, column_of_pivot}
use Rattle.stack_algebra.proofs.Pivots.{column_kept}
use Rattle.stack_algebra.proofs.Signs.{nonneg_add, nonneg_mul, nonneg_neg, nonneg_by, nonneg_plus, inv-plus}
use Rattle.stack_algebra.proofs.Combinations.{annuls_before, combination_pivoted}

-- m rows, n columns and then the right side, the first rows A
module _ (F : Ordered) (m n : ℕ) (A : ℕ → ℕ → F.C) where
  pub tableau_after : (own : ℕ → F.C) (cell : ℕ → ℕ → F.C) (basic : ℕ → ℕ) (r c : ℕ) → r < m → c < n →
      F.sign (cell r c) ≢ nought →
      ((i : ℕ) → i < m → NonNeg F (next F cell r c i n)) → Tableau F m n A own cell basic →
      Tableau F m n A own (next F cell r c) (changed basic r c)
  tableau_after own cell basic r c lr lc h f t = record {
    row = λ i l. combination_pivoted F.ring m A (none F.ring) cell q r c i (λ e. refl) (t.row i l)
        (t.row r lr);
    objective = combination_pivoted F.ring m A own cell q r c m (λ e. absurd (omega arith)) t.objective
        (t.row r lr);
    back = λ x k. t.back x (annuls_before F.ring m (suc n) cell q r c x lr one k);
    basic_below = λ i l. below i l (ℕ_discrete i r);
    unit = λ i s li ls. kept i s ls (ℕ_discrete s r) (t.unit i s li ls);
    objective_unit = λ s ls. out s ls (ℕ_discrete s r);
    feasible = f;
  }
    where
      q : F.C
      q = F.inv (cell r c)

      one : F.mul (F.inv (cell r c)) (cell r c) ≡ F.of (pos 1)
      one = F.inv-mul (cell r c) h

      below : (i : ℕ) → i < m → Dec (i ≡ r) → changed basic r c i < n
      below i l (yes e) = subst (λ z. z < n) (sym (ap (changed basic r c) e ∙ changed-same basic r c)) lc
      below i l (no d) = subst (λ z. z < n) (sym (changed-other basic r c i d)) (t.basic_below i l)

      zero_there : (s : ℕ) → s < m → s ≢ r → cell r (basic s) ≡ F.of (pos 0)
      zero_there s ls d = t.unit r s lr ls ∙ at-other F.ring s r (F.of (pos 1)) (λ e. d (sym e))

      kept : (i s : ℕ) → s < m → Dec (s ≡ r) → cell i (basic s) ≡ at F.ring s (F.of (pos 1)) i →
          next F cell r c i (changed basic r c s) ≡ at F.ring s (F.of (pos 1)) i
      kept i s ls (yes e) u = ap (next F cell r c i) (ap (changed basic r c) e ∙ changed-same basic r c)
          ∙ column_of_pivot F.ring cell (F.inv (cell r c)) r c i one
          ∙ ap (λ k. at F.ring k (F.of (pos 1)) i) (sym e)
      kept i s ls (no d) u = ap (next F cell r c i) (changed-other basic r c s d)
          ∙ column_kept F.ring cell (F.inv (cell r c)) r c i (basic s) (zero_there s ls d) ∙ u

      out : (s : ℕ) → s < m → Dec (s ≡ r) → next F cell r c m (changed basic r c s) ≡ F.of (pos 0)
      out s ls (yes e) = ap (next F cell r c m) (ap (changed basic r c) e ∙ changed-same basic r c)
          ∙ column_of_pivot F.ring cell (F.inv (cell r c)) r c m one
          ∙ at-other F.ring r m (F.of (pos 1)) (λ p. omega arith)
      out s ls (no d) = ap (next F cell r c m) (changed-other basic r c s d)
          ∙ column_kept F.ring cell (F.inv (cell r c)) r c m (basic s) (zero_there s ls d)
          ∙ t.objective_unit s ls

  -- right sides after a pivot at a row with the least ratio
  pub right_sides : (cell : ℕ → ℕ → F.C) (r c : ℕ) → HasLeastRatio F m n cell r c →
      ((i : ℕ) → i < m → NonNeg F (cell i n)) →
      (i : ℕ) → i < m → NonNeg F (next F cell r c i n)
  right_sides cell r c b f i l = go (ℕ_discrete i r) (F.sign (cell i c)) refl
    where
      q : F.C
      q = F.inv (cell r c)

      own : NonNeg F (F.mul (F.inv (cell r c)) (cell r n))
      own = nonneg_mul F _ _ (nonneg_plus F _ (inv-plus F (cell r c) b.positive)) (f r b.below)

      down : F.sign (cell i c) ≢ plus →
          NonNeg F (F.add (cell i n) (F.neg (F.mul (cell i c) (F.mul (F.inv (cell r c)) (cell r n)))))
      down d = nonneg_by F _ _ (ring4 F.ring (λ t f q b. (t ⊕ Exp.neg f ⊗ (q ⊗ b), t ⊖ f ⊗ (q ⊗ b))) refl
          (cell i n) (cell i c) (F.inv (cell r c)) (cell r n))
          (nonneg_add F _ _ (f i l) (nonneg_mul F _ _ (nonneg_neg F (cell i c) d) own))

      other : (s : Sign) → F.sign (cell i c) ≡ s →
          NonNeg F (F.add (cell i n) (F.neg (F.mul (cell i c) (F.mul (F.inv (cell r c)) (cell r n)))))
      other plus e = nonneg_by F _ _
          (ring5 F.ring (λ t f q b g. (f ⊗ (g ⊗ t ⊖ q ⊗ b), (g ⊗ f) ⊗ t ⊖ f ⊗ (q ⊗ b))) refl (cell i n)
          (cell i c) (F.inv (cell r c)) (cell r n) (F.inv (cell i c))
          ∙ ap (λ z. F.add (F.mul z (cell i n))
          (F.neg (F.mul (cell i c) (F.mul (F.inv (cell r c)) (cell r n)))))
          (F.inv-mul (cell i c) (λ d. cc))
          ∙ ring4 F.ring (λ t f q b. (num (pos 1) ⊗ t ⊖ f ⊗ (q ⊗ b), t ⊖ f ⊗ (q ⊗ b))) refl (cell i n)
          (cell i c) (F.inv (cell r c)) (cell r n))
          (nonneg_mul F (cell i c) _ (nonneg_plus F _ e) (b.least i l e))
      other minus e = down (λ p. cc)
      other nought e = down (λ p. cc)

      go : Dec (i ≡ r) → (s : Sign) → F.sign (cell i c) ≡ s → NonNeg F (next F cell r c i n)
      go (yes e) s h = nonneg_by F _ _
          (sym (ap (λ k. next F cell r c k n) e
          ∙ ap (λ (z : ℕ → F.C). z n) (pivoted-own F.ring cell (F.inv (cell r c)) r c))) own
      go (no d) s h = nonneg_by F _ _
          (sym (ap (λ (z : ℕ → F.C). z n) (pivoted-other F.ring cell (F.inv (cell r c)) r c i d))) (other s h)
