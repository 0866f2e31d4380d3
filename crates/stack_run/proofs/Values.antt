-- The value and the rate of a column, by the row in which it is basic, are those of the sums over all rows.
use Rattle.std.proofs.Common.{◌≡◌, ◌≢◌, refl, sym, ap, ◌∙◌, ℕ, ◌<◌, Bool, true, false, cond, eqb, Option, Some, None}
use Rattle.std.proofs.Common.{arith, eqb-true, pos, negsuc}
use Rattle.stack_rational.proofs.Common.{ℕ_discrete, Ordered, minus, Tableau, sum_zero, at, at-other, at-same}
use Rattle.stack_rational.proofs.Common.{least-some, eqb-false, spread, sum_one, least-none}
use Rattle.stack_algebra.proofs.Ring.{add-zero}
use Rattle.stack_table.specs.Table.{Shape, Tabled, columns}
use Rattle.stack_run.specs.EndNumbers.{basic_row, value_in, column_value, rate_in, rate}
use Rattle.stack_run.proofs.Solutions.{solution, ray_of}

module _ (F : Ordered) (S : Shape) (A : ℕ → ℕ → F.C) (own : ℕ → F.C) (T : Tabled F.C)
    (t : Tableau F S.rows (columns S) A own T.cell T.basic) where
  abbrev m : ℕ
  m = S.rows

  -- no column is basic in two rows
  different : (i s : ℕ) → i < m → s < m → i ≢ s → T.basic i ≢ T.basic s
  different i s li ls d e = let one = sym F.sign-one
      ∙ ap F.sign (sym (at-same F.ring i (F.of (pos 1))) ∙ sym (t.unit i i li li) ∙ ap (T.cell i) e
      ∙ t.unit i s li ls ∙ at-other F.ring s i (F.of (pos 1)) d) ∙ F.sign-zero in cc

  -- a spread at a basic column, and at another
  spread_basic : (v : ℕ → F.C) (i j : ℕ) → i < m → T.basic i ≡ j → spread F.ring m T.basic v j ≡ v i
  spread_basic v i j l e = sum_one F.ring m i (λ s. at F.ring (T.basic s) (v s) j) l
      (λ s k d. at-other F.ring (T.basic s) j (v s) (λ p. different s i k l d (sym p ∙ sym e)))
      ∙ ap (at F.ring (T.basic i) (v i)) (sym e) ∙ at-same F.ring (T.basic i) (v i)

  spread_none : (v : ℕ → F.C) (j : ℕ) → ((i : ℕ) → i < m → T.basic i ≢ j) →
      spread F.ring m T.basic v j ≡ F.of (pos 0)
  spread_none v j h = sum_zero F.ring m (λ i. at F.ring (T.basic i) (v i) j)
      (λ i l. at-other F.ring (T.basic i) j (v i) (λ p. h i l (sym p)))

  -- a column without a row
  not_basic : (j : ℕ) → basic_row F S T j ≡ None → (i : ℕ) → i < m → T.basic i ≢ j
  not_basic j e i l = eqb-false (T.basic i) j (least-none m (λ i. eqb (T.basic i) j) e i l)

  -- the solution at each column but the right side
  pub value-is : (j : ℕ) → j < columns S → column_value F S T j ≡ solution F m (columns S) T.cell T.basic j
  value-is j l = go (basic_row F S T j) refl
      ∙ sym (ap (F.add (spread F.ring m T.basic (λ i. T.cell i (columns S)) j))
      (at-other F.ring (columns S) j (F.of (negsuc 0)) (λ e. omega (arith, l, e))) ∙ add-zero F.ring _)
    where
      go : (o : Option ℕ) → basic_row F S T j ≡ o →
          value_in F S T o ≡ spread F.ring m T.basic (λ i. T.cell i (columns S)) j
      go None e = sym (spread_none (λ i. T.cell i (columns S)) j (not_basic j e))
      go (Some i) e = let b = least-some m (λ i. eqb (T.basic i) j) i e in
          sym (spread_basic (λ i. T.cell i (columns S)) i j b.below (eqb-true _ _ b.has))

  -- the ray of an entering column, which isn't basic
  module _ (c : ℕ) (enters : F.sign (T.cell m c) ≡ minus) where
    entering_not_basic : (i : ℕ) → i < m → T.basic i ≢ c
    entering_not_basic i l e = let z = sym enters ∙ ap (λ k. F.sign (T.cell m k)) (sym e)
        ∙ ap F.sign (t.objective_unit i l) ∙ F.sign-zero in cc

    -- so the rates are those of the ray
    pub rate-is : (j : ℕ) → rate F S T c j ≡ ray_of F m (columns S) T.cell T.basic c j
    rate-is j = go (ℕ_discrete j c) (eqb j c) refl
      where
        by_row : (o : Option ℕ) → basic_row F S T j ≡ o →
            rate_in F S T c o ≡ spread F.ring m T.basic (λ i. F.neg (T.cell i c)) j
        by_row None e = sym (spread_none (λ i. F.neg (T.cell i c)) j (not_basic j e))
        by_row (Some i) e = let b = least-some m (λ i. eqb (T.basic i) j) i e in
            sym (spread_basic (λ i. F.neg (T.cell i c)) i j b.below (eqb-true _ _ b.has))

        go : Dec (j ≡ c) → (b : Bool) → eqb j c ≡ b →
            cond b (F.of (pos 1)) (rate_in F S T c (basic_row F S T j))
            ≡ F.add (cond b (F.of (pos 1)) (F.of (pos 0))) (spread F.ring m T.basic (λ i. F.neg (T.cell i c)) j)
        go d true e = sym (ap (F.add (F.of (pos 1))) (spread_none (λ i. F.neg (T.cell i c)) j
            (λ i l p. entering_not_basic i l (p ∙ eqb-true _ _ e))) ∙ add-zero F.ring (F.of (pos 1)))
        go d false e = by_row (basic_row F S T j) refl ∙ sym (F.zero_add _)
