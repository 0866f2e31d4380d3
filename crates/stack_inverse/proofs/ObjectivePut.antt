-- A new objective row that is put into the block.
use Rattle.std.proofs.Common.{◌≡◌, ◌≢◌, refl, sym, ap, ◌∙◌, ℕ, ◌<◌, ◌+◌, ◌-◌, List, length, Bool, true, false, cond}
use Rattle.std.proofs.Common.{eqb, ltb, Option, Some, None, arith, IfSome, ℤ, pos, negsuc, ◌+ℤ◌}
use Rattle.std.proofs.Common.{◌*ℤ◌, suc, subst₂, set, eq-eqb, ne_eqb}
use Rattle.std.proofs.lemmas.Bool.Decides.{nat_tests}
use Rattle.stack_rational.proofs.Common.{least, least-some, Fraction, changed, of, over, of-over, ◌≺◌, at, integers}
use Rattle.stack_rational.proofs.Common.{sum_same, expand, sums, ℕ_discrete}
use Rattle.stack_rows.proofs.Numbers.{at-set_same, at-set_other}
use Rattle.stack_rational.proofs.Common.{ordered_fractions, with_items, widest}
use Rattle.stack_inverse.specs.declared.columns.FirstColumn.{FirstColumn}
use Rattle.stack_inverse.specs.declared.row.TableRow.{TableRow}
use Rattle.stack_inverse.specs.declared.revised_table.RevisedTable.{RevisedTable}
use Rattle.stack_rows.specs.RowForm.{number_at}
use Rattle.stack_inverse.specs.RowBlock.{AreFitting}
use Rattle.stack_inverse.specs.Columns.{multipliers, combined, by_place, number, first_at, AreFactorCosts, RowSeen}
use Rattle.stack_inverse.specs.Columns.{IsPut, number_with, cell_with, revised_number, revised_cell, IsFactorRow}
use Rattle.stack_inverse.specs.Columns.{HaveWidths}
use Rattle.stack_inverse.specs.RowsSeen.{seen_at}
use Rattle.stack_inverse.specs.Seen.{shape_of_revised, table_of_revised}
use Rattle.stack_inverse.proofs.PutRow.{written, written_long, widths_put, fitting_put}
use Rattle.stack_inverse.proofs.FirstRows.{unit_row, nothing_row}
use Rattle.stack_inverse.proofs.Steps.{over_zero}
use Rattle.stack_table.specs.Table.{Tabled, factor_row, with_objective}

-- a number of a row is added to
pub costs_added : (xs ys zs : List ℤ) (q : ℕ) (y e : ℤ) → ys ≡ xs → q < length ys → y ≡ number_at ys q +ℤ e →
    zs ≡ set ys q y → (j : ℕ) → number_at zs j ≡ cond (eqb j q) (number_at xs j +ℤ e) (number_at xs j)
costs_added xs ys zs q y e same lt hy hz j = ap (λ (ws : List ℤ). number_at ws j) hz ∙ elim (ℕ_discrete j q) [
  | yes p ↦ ap (λ k. number_at (set ys q y) k) p ∙ at-set_same ys q y lt ∙ hy
      ∙ (λ z. number_at (same z) (sym p z) +ℤ e)
      ∙ ap (λ b. cond b (number_at xs j +ℤ e) (number_at xs j)) (sym (eq-eqb j q p))
  | no n ↦ at-set_other ys q j y n ∙ ap (λ (ws : List ℤ). number_at ws j) same
      ∙ ap (λ b. cond b (number_at xs j +ℤ e) (number_at xs j)) (sym (ne_eqb j q n))
]

-- a row with once more its multiplier of the last costs
more_costs : (m : ℕ) (x a f : ℕ → ℤ) (e : ℤ) → ((r : ℕ) → r < suc m → x r ≡ a r) → x (suc m) ≡ a (suc m) +ℤ e →
    combined (multipliers m) x f ≡ combined (multipliers m) a f +ℤ e *ℤ f (suc m)
more_costs m x a f e h last = (λ z. sum_same integers (suc m) (λ r. x r *ℤ f r) (λ r. a r *ℤ f r)
    (λ r l. ap (λ y. y *ℤ f r) (h r l)) z +ℤ last z *ℤ f (suc m))
    ∙ turn (combined (suc m) a f) (a (suc m)) e (f (suc m))
  where
    turn : (s y e f : ℤ) → s +ℤ (y +ℤ e) *ℤ f ≡ (s +ℤ y *ℤ f) +ℤ e *ℤ f
    turn s y e f = simp expand (omega (arith, sums))

-- which is -1 in the factor's column, where the number is e
less_factor : (b : Bool) (x e f : ℤ) → f ≡ cond b (negsuc 0) (pos 0) → (b ≡ true → x ≡ e) →
    x +ℤ e *ℤ f ≡ cond b (pos 0) x
less_factor true x e f h u = (λ z. u refl z +ℤ e *ℤ h z) ∙ none e
  where
    none : (e : ℤ) → e +ℤ e *ℤ negsuc 0 ≡ pos 0
    none e = simp expand (omega (arith, sums))
less_factor false x e f h u = ap (λ z. x +ℤ e *ℤ z) h ∙ same x e
  where
    same : (x e : ℤ) → x +ℤ e *ℤ pos 0 ≡ x
    same x e = simp expand (omega (arith, sums))

module _ (m : ℕ) (columns : List FirstColumn) where
  module _ (s t : ℕ → RowSeen) (row : List ℤ) (d : ℤ) (p : IsPut s m row d false t) where
    -- the other rows stay
    pub others_stay : (k j : ℕ) → k ≢ m → revised_cell m columns t k j ≡ revised_cell m columns s k j
    others_stay k j n = λ z. cell_with m columns (p.other k n z).numbers (p.other k n z).under j

    -- the table with the new objective row
    pub objective_put : (f : ℕ → Fraction) → ((j : ℕ) → cell_with m columns row d j ≡ f j) → (i j : ℕ) →
        revised_cell m columns t i j ≡ changed (revised_cell m columns s) m f i j
    objective_put f is i j =
        let at_m : revised_cell m columns t m j ≡ cell_with m columns row d j =
        λ z. cell_with m columns (p.own_numbers z) (p.own_under z) j in
        grind (arith, nat_tests, at_m, is j, others_stay i j)

  -- a row that is 0
  pub zero_row_is : (row : List ℤ) → ((j : ℕ) → number_at row j ≡ pos 0) → (j : ℕ) →
      cell_with m columns row (pos 1) j ≡ of (pos 0)
  zero_row_is row hr j =
      (λ z. over (number m (length columns) (first_at columns) (λ k. hr k z) (hr (multipliers m) z) j) (pos 1))
      ∙ ap (λ z. over z (pos 1)) (nothing_row m (length columns) (first_at columns) j)
      ∙ of-over (pos 0)

  module _ (s : ℕ → RowSeen) (row : List ℤ) (d : ℤ) (column : ℕ) (lt : column < length columns)
      (positive : (i : ℕ) → pos 0 ≺ (s i).under) (costs : AreFactorCosts m columns column) where
    -- without a row the costs of phase 3 stand alone
    factor_alone : ((j : ℕ) → number_at row j ≡ cond (eqb j (suc m)) (pos 1) (pos 0)) → d ≡ pos 1 → (j : ℕ) →
        cell_with m columns row d j ≡ factor_row ordered_fractions (revised_cell m columns s) column None j
    factor_alone hr hd j =
        let n = length columns in
        let F = first_at columns in
        let unit = at integers (suc m) (pos 1) in
        let alone : by_place (ltb j n) (ltb j (n + m)) (eqb j (n + m)) (F (suc m) j) (unit (j - n))
        (unit (multipliers m)) ≡ cond (eqb j column) (negsuc 0) (pos 0) =
        grind (arith, nat_tests, costs j) in
        let apart : of (cond (eqb j column) (negsuc 0) (pos 0)) ≡ cond (eqb j column) (of (negsuc 0)) (of (pos 0)) =
        grind (arith, nat_tests) in
        (λ z. over (number m n F (λ k. hr k z) (hr (multipliers m) z) j) (hd z))
        ∙ ap (λ z. over z (pos 1)) (unit_row m n F (suc m) (unit (multipliers m)) j (omega arith) ∙ alone)
        ∙ of-over (cond (eqb j column) (negsuc 0) (pos 0)) ∙ apart

    -- row r without its cell in the factor's column
    factor_less : (r : ℕ) → ((j : ℕ) → number_at row j ≡ cond (eqb j (suc m)) (number_at (s r).numbers j +ℤ (s r).under)
        (number_at (s r).numbers j)) → d ≡ (s r).under → revised_number m columns s r column ≡ (s r).under → (j : ℕ) →
        cell_with m columns row d j ≡ factor_row ordered_fractions (revised_cell m columns s) column (Some r) j
    factor_less r hr hd h j =
        let e = (s r).under in
        let a : ℕ → ℤ = number_at (s r).numbers in
        let f : ℕ → ℤ = λ i. first_at columns i j in
        let M = multipliers m in
        let same : (q : ℕ) → q ≢ suc m → number_at row q ≡ a q = λ q n. grind (arith, nat_tests, hr q) in
        let last : number_at row (suc m) ≡ a (suc m) +ℤ e = grind (arith, nat_tests, hr (suc m)) in
        let unit : combined M a (λ i. first_at columns i column) ≡ e = grind (arith, nat_tests, h, lt) in
        let here : eqb j column ≡ true → combined M a f ≡ e = λ t.
        let at_it : j ≡ column = grind (arith, nat_tests, t) in
        (λ z. combined M a (λ i. first_at columns i (at_it z))) ∙ unit in
        let plain : j < length columns → combined M (number_at row) f ≡ cond (eqb j column) (pos 0) (combined M a f) =
        λ l. more_costs m (number_at row) a f e (λ q b. same q (λ z. omega (arith, b, z))) last
        ∙ less_factor (eqb j column) (combined M a f) e (f (suc m)) (costs j l) here in
        let right : number_at row M ≡ a M = same M (λ z. omega (arith, z)) in
        let artificial : j - length columns < m → number_at row (j - length columns) ≡ a (j - length columns) =
        λ l. same (j - length columns) (λ z. omega (arith, l, z)) in
        let numbers : number_with m columns row j ≡ cond (eqb j column) (pos 0) (revised_number m columns s r j) =
        grind (arith, nat_tests, plain, artificial, right, lt) in
        let apart : over (cond (eqb j column) (pos 0) (revised_number m columns s r j)) e
        ≡ cond (eqb j column) (of (pos 0)) (revised_cell m columns s r j) =
        grind (arith, nat_tests, over_zero e (positive r)) in
        (λ z. over (number_with m columns row j) (hd z)) ∙ ap (λ z. over z e) numbers ∙ apart

    -- the factor's row without its own cell is the objective row of phase 3
    pub factor_is : (o : Option ℕ) → IsFactorRow m columns s column o row d → (j : ℕ) →
        cell_with m columns row d j ≡ factor_row ordered_fractions (revised_cell m columns s) column o j
    factor_is None h j = factor_alone h.0 h.1 j
    factor_is (Some r) h j = factor_less r h.0 h.1 h.2 j

-- a row that is found is one of the rows
pub found_below : (m : ℕ) (p : ℕ → Bool) (o : Option ℕ) → o ≡ least m p → (P : ℕ → Type 0) → ((r : ℕ) → r < m → P r) →
    IfSome o P
found_below m p None e P h = tt
found_below m p (Some r) e P h = h r (least-some m p r (sym e)).below

-- a table with other rows
abbrev pub table_with : RevisedTable → List TableRow → Tabled Fraction
table_with t rows = record {
  cell = revised_cell t.first.rows t.first.columns.items (seen_at rows);
  basic = (table_of_revised t).basic;
}

-- rows in place of those of a table: they have its height and widths, those that are known to fit do, and in their
-- table only the objective row is another, that of these numbers
pub record HaveObjective (t : RevisedTable) (row : List ℤ) (d : ℤ) (rows : List TableRow) : Type 0 where
  pub height : length rows ≡ suc t.first.rows
  pub widths : HaveWidths t.first.rows (seen_at rows)
  pub fitting : AreFitting widest (table_with t rows).cell (seen_at rows)
  pub same : (k : ℕ) → k < t.first.rows → seen_at rows k ≡ seen_at t.rows.items k
  pub table : (f : ℕ → Fraction) →
      ((j : ℕ) → cell_with t.first.rows t.first.columns.items row d j ≡ f j) →
      table_with t rows ≡ with_objective ordered_fractions (shape_of_revised t) (table_of_revised t) f

-- so are its rows once that objective row is put, not known to fit
pub objective_written : (t : RevisedTable) {row : List ℤ} {d : ℤ} {lent : List TableRow}
    (new : List TableRow) → lent ≡ t.rows.items → length new ≡ length lent →
    length row ≡ suc (multipliers t.first.rows) → IsPut (seen_at lent) t.first.rows row d false (seen_at new) →
    HaveObjective t row d (with_items t.rows new).items
objective_written t {row = row} {d = d} new kept tall long put =
    let m = t.first.rows in
    let columns = t.first.columns.items in
    let s = seen_at t.rows.items in
    let after = seen_at (with_items t.rows new).items in
    let is : IsPut s m row d false after =
    subst₂ (λ (xs ys : List TableRow). IsPut (seen_at xs) m row d false (seen_at ys)) kept
    (sym (written t.rows new kept tall)) put in
    record {
      height = written_long t.rows new kept tall ∙ t.height;
      widths = widths_put m is long t.widths;
      fitting = fitting_put widest (revised_cell m columns s) (revised_cell m columns after) is
          (others_stay m columns s after row d is) t.fitting;
      same = λ k l. is.other k (λ e. omega (arith, l, e));
      table = λ f h z. record {
        cell = λ i j. objective_put m columns s after row d is f h i j z;
        basic = (table_of_revised t).basic;
      };
    }
