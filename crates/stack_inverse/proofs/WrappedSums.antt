-- A sum of products with words, made without a test whether it fits on the way.
use Rattle.std.proofs.Common.{◌≡◌, refl, sym, ap, subst, ◌∙◌, ℕ, ◌+◌, ◌*◌, ◌^◌, ◌<◌, ◌≤◌, leb, cond, List, [], ◌∷◌}
use Rattle.std.proofs.Common.{length, get_or, drop, arith, mul-le-mul, ℤ, pos, nat_abs, ◌+ℤ◌, ◌*ℤ◌, SFits}
use Rattle.std.specs.Int.{w128, int_wrap}
use Rattle.std.specs.List.{AllByRecursion}
use Rattle.std.proofs.lemmas.Bool.Decides.{nat_tests}
use Rattle.std.proofs.lemmas.Int.{int_wrap_fits, int_wrap-add_left, fits_signed_from_abs}
use Rattle.std.proofs.lemmas.List.{at_drop_all}
use Rattle.stack_rational.proofs.Common.{ints, sum_of}
use Rattle.stack_inverse.specs.declared.columns.Cell.{Cell}
use Rattle.stack_inverse.specs.declared.columns.FirstColumn.{FirstColumn}
use Rattle.stack_rows.specs.RowForm.{number_at}
use Rattle.stack_inverse.specs.Columns.{multipliers, combined, entry_of, sizes, cells_at, AreFirst}
use Rattle.stack_inverse.proofs.Entered.{Rises, rises_of, over_entries}
use Rattle.stack_inverse.proofs.Linear.{combined_within}
use Rattle.stack_inverse.proofs.Made.{one_more}

-- one cell more
pub one_wrapped : (f : Cell → ℤ) (cells : List Cell) (k : ℕ) (d : Cell) (sum next total : ℤ) → k < length cells →
    next ≡ int_wrap w128 (sum +ℤ f (get_or cells k d)) →
    int_wrap w128 (sum +ℤ sum_of f (drop k cells)) ≡ total →
    int_wrap w128 (next +ℤ sum_of f (drop (k + 1) cells)) ≡ total
one_wrapped f cells k d sum next total l e h =
    let more = sum +ℤ f (get_or cells k d) in
    ap (λ z. int_wrap w128 (z +ℤ sum_of f (drop (k + 1) cells))) e
    ∙ int_wrap-add_left w128 more (sum_of f (drop (k + 1) cells))
    ∙ ap (int_wrap w128) (one_more f cells k d sum more (sum +ℤ sum_of f (drop k cells)) l refl refl)
    ∙ h

-- no cell is left
pub all_wrapped : (f : Cell → ℤ) (cells : List Cell) (k : ℕ) (sum : ℤ) → SFits w128 sum → length cells ≤ k →
    int_wrap w128 (sum +ℤ sum_of f (drop k cells)) ≡ int_wrap w128 (sum_of f cells) →
    sum ≡ int_wrap w128 (sum_of f cells)
all_wrapped f cells k sum fits done h = sym (int_wrap_fits w128 sum fits)
    ∙ ap (int_wrap w128) (omega (arith, ints, at_drop_all (sum_of f) cells k done)) ∙ h

module _ (row : List ℤ) where
  -- the words of a row, and 0 for what isn't one
  abbrev word_at : ℕ → ℤ
  word_at r = cond (leb (nat_abs (number_at row r)) (2 ^ 63)) (number_at row r) (pos 0)

  -- over cells that stand at words the sum is the same
  same_sum : (cells : List Cell) → AllByRecursion (λ x. nat_abs (number_at row x.row) ≤ 2 ^ 63) cells →
      sum_of (λ x. number_at row x.row *ℤ x.value) cells ≡ sum_of (λ x. word_at x.row *ℤ x.value) cells
  same_sum [] h = refl
  same_sum (x ∷ xs) h = let here : number_at row x.row ≡ word_at x.row = grind (arith, nat_tests, h.0) in
      λ i. here i *ℤ x.value +ℤ same_sum xs h.1 i

  -- what is made of words and a narrow column fits
  pub unwrapped : (m column_top : ℕ) (cells : List Cell) → Rises m 0 cells →
      AllByRecursion (λ x. nat_abs (number_at row x.row) ≤ 2 ^ 63) cells → sizes m (entry_of cells) ≤ column_top →
      column_top ≤ 2 ^ 62 →
      int_wrap w128 (sum_of (λ x. number_at row x.row *ℤ x.value) cells)
      ≡ sum_of (λ x. number_at row x.row *ℤ x.value) cells
  unwrapped m column_top cells rises words within narrow =
      let each : (r : ℕ) → r < m → nat_abs (word_at r) ≤ 2 ^ 63 = λ r l. grind (arith, nat_tests) in
      let made : sum_of (λ x. number_at row x.row *ℤ x.value) cells ≡ combined m word_at (entry_of cells) =
      same_sum cells words ∙ sym (over_entries m 0 word_at cells rises) in
      let small : sizes m (entry_of cells) ≤ 2 ^ 62 = omega (arith, within, narrow) in
      let size : 2 ^ 63 * sizes m (entry_of cells) ≤ 2 ^ 63 * 2 ^ 62 =
      mul-le-mul {n₁ = 2 ^ 63} {n₂ = 2 ^ 63} (omega arith) small in
      int_wrap_fits w128 _ (fits_signed_from_abs w128 _ (omega (
        arith,
        ap nat_abs made,
        combined_within m (2 ^ 63) word_at (entry_of cells) each,
        size,
      )))

-- so it is the sum itself, over the cells of a column that are lent
pub narrow_sum : (m column_top : ℕ) (columns : List FirstColumn) → AreFirst m (length columns) columns column_top →
    column_top ≤ 2 ^ 62 → (row : List ℤ) (j : ℕ) → j < length columns → (cells : List Cell) →
    cells ≡ cells_at columns j → AllByRecursion (λ x. nat_abs (number_at row x.row) ≤ 2 ^ 63) cells →
    int_wrap w128 (sum_of (λ x. number_at row x.row *ℤ x.value) cells)
    ≡ sum_of (λ x. number_at row x.row *ℤ x.value) cells
narrow_sum m column_top columns first narrow row j l cells is words =
    let M = multipliers m in
    let at = subst (λ cs. Rises M 0 cs) (sym is) (rises_of M 0 (cells_at columns j) (first.rising j l)) in
    let within = subst (λ cs. sizes M (entry_of cs) ≤ column_top) (sym is) (first.within j l) in
    unwrapped row M column_top cells at words within narrow
