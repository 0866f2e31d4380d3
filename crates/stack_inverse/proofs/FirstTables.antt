-- The table with which a run begins is the written table of its problem.
use Rattle.std.proofs.Common.{◌≡◌, refl, sym, ap, ◌∙◌, ℕ, zero, suc, ◌+◌, ◌-◌, ◌<◌, ◌≤◌, cond}
use Rattle.std.proofs.Common.{eqb, ltb, List, length, get_or, arith, Option, Some, None, is_some}
use Rattle.std.proofs.Common.{ℤ, pos, negsuc, neg_ℤ, ◌+ℤ◌, ◌-ℤ◌}
use Rattle.std.proofs.Common.{◌*ℤ◌}
use Rattle.stack_rational.proofs.Common.{get_or_past, ints, changed, at, expand, sums, integers, of}
use Rattle.stack_rational.proofs.Common.{add, neg, over, of-over, sum_same, ordered_fractions, sum_to, neg_is}
use Rattle.stack_algebra.proofs.Fractions.{of_add, of_mul}
use Rattle.std.proofs.lemmas.Bool.Decides.{nat_tests}
use Rattle.stack_table.specs.declared.problem.Column.{Column as Given}
use Rattle.stack_table.specs.declared.problem.Problem.{Problem as Lent}
use Rattle.stack_table.specs.Table.{Shape, plain, columns}
use Rattle.stack_table.specs.Problem.{Problem, turned, flipped}
use Rattle.stack_table.specs.Lent.{IsProblem, shape_of_problem, problem_of, entries_at, factor_count}
use Rattle.stack_table.specs.WrittenTable.{written_number as number_in, first_row, first_objective, less_all}
use Rattle.stack_table.specs.WrittenTable.{first_basic}
use Rattle.stack_table.proofs.Numbers.{number_past}
use Rattle.stack_table.proofs.FirstObjective.{artificial_yes, artificial_not}
use Rattle.stack_table.proofs.RowByRow.{objective_beyond}
use Rattle.stack_inverse.specs.declared.columns.FirstColumn.{FirstColumn}
use Rattle.stack_rows.specs.RowForm.{number_at}
use Rattle.stack_inverse.specs.Columns.{multipliers, combined, by_place, number, cells_at, first_at, RowSeen, no_row}
use Rattle.stack_inverse.specs.Columns.{cell_with, revised_cell}
use Rattle.stack_inverse.specs.FirstTable.{load_at, AreFirstColumns, less_loads, AreFilled}
use Rattle.stack_inverse.proofs.FirstRows.{unit_row, nothing_row}
use Rattle.stack_inverse.proofs.TurnedColumns.{entries_are, entry_is, first_cost}

-- the opposite of an integer
neg_of : (z : ℤ) → neg (of z) ≡ of (neg_ℤ z)
neg_of z = neg_is (of z) ∙ sym (of_mul (negsuc 0) z) ∙ ap of (minus_one z)
  where
    minus_one : (z : ℤ) → negsuc 0 *ℤ z ≡ neg_ℤ z
    minus_one z = simp expand (omega (arith, sums))

-- 0 less integers one by one is 0 less their sum
less_all_of : (n : ℕ) (f : ℕ → ℤ) → less_all ordered_fractions n (λ i. of (f i)) ≡ of (pos 0 -ℤ sum_to n f)
less_all_of zero f = refl
less_all_of (suc n) f = (λ z. add (less_all_of n f z) (neg_of (f n) z))
    ∙ sym (of_add (pos 0 -ℤ sum_to n f) (neg_ℤ (f n))) ∙ ap of (together (sum_to n f) (f n))
  where
    together : (s x : ℤ) → (pos 0 -ℤ s) +ℤ neg_ℤ x ≡ pos 0 -ℤ (s +ℤ x)
    together s x = omega (arith, ints)

-- a number depends on the multipliers that are there
number_same : (m n : ℕ) (F : ℕ → ℕ → ℤ) (a b : ℕ → ℤ) (s t : ℤ) → ((r : ℕ) → r < multipliers m → a r ≡ b r) → s ≡ t →
    (j : ℕ) → number m n F a s j ≡ number m n F b t j
number_same m n F a b s t h hs j =
    let plain : combined (multipliers m) a (λ r. F r j) ≡ combined (multipliers m) b (λ r. F r j) =
    sum_same integers (multipliers m) (λ r. a r *ℤ F r j) (λ r. b r *ℤ F r j) (λ r l. ap (λ z. z *ℤ F r j) (h r l)) in
    grind (arith, nat_tests, h (j - n))

-- the numbers of the first table by row and column, of a problem whose columns are turned
module _ (P : Lent) (problem : IsProblem P) (cs : List FirstColumn) (s : ℕ → RowSeen)
    (long : length cs ≡ plain (shape_of_problem P)) (are : AreFirstColumns P cs)
    (past : (i : ℕ) → P.rows < i → s i ≡ no_row)
    (filled : AreFilled P.rows P.right.items s) where
  abbrev S : Shape
  S = shape_of_problem P

  abbrev m : ℕ
  m = P.rows

  abbrev n : ℕ
  n = length cs

  abbrev F : ℕ → ℕ → ℤ
  F = first_at cs

  abbrev Q : Problem
  Q = problem_of P

  -- what the first rows have in a plain column
  plain_number : (i j : ℕ) → i < m → j < n → F i j ≡ turned (flipped Q i) (Q.entry i j)
  plain_number i j k l = entry_is m P.right.items (eqb j (length P.contact.items)) (entries_at P j) (cells_at cs j)
      (are j l) (entries_are P problem j) i k

  -- the cell by its row's numbers
  cell_of_row : (i : ℕ) (a : ℕ → ℤ) (x : ℤ) → ((r : ℕ) → r < multipliers m → number_at (s i).numbers r ≡ a r) →
      number_at (s i).numbers (multipliers m) ≡ x → (s i).under ≡ pos 1 → (j : ℕ) →
      revised_cell m cs s i j ≡ of (number m n F a x j)
  cell_of_row i a x ha hs hd j = (λ z. cell_with m cs (s i).numbers (hd z) j)
      ∙ ap (λ z. over z (pos 1)) (number_same m n F (number_at (s i).numbers) a
      (number_at (s i).numbers (multipliers m)) x ha hs j)
      ∙ of-over (number m n F a x j)

  number_of_row : (i j : ℕ) → i < m → number m n F (at integers i (pos 1)) (load_at P.right.items i) j
      ≡ number_in Q i j
  number_of_row i j l =
      let placed : by_place (ltb j n) (ltb j (n + m)) (eqb j (n + m)) (F i j) (at integers i (pos 1) (j - n))
      (load_at P.right.items i) ≡ number_in Q i j = grind (arith, nat_tests, plain_number i j l) in
      unit_row m n F i (load_at P.right.items i) j (omega (arith, l)) ∙ placed

  above : (i j : ℕ) → i < m → revised_cell m cs s i j ≡ first_row ordered_fractions Q i j
  above i j l =
      let units : (r : ℕ) → r < multipliers m → number_at (s i).numbers r ≡ at integers i (pos 1) r =
      λ r k. grind (arith, nat_tests, (filled.rows i l).number r) in
      let load : number_at (s i).numbers (multipliers m) ≡ load_at P.right.items i =
      grind (arith, nat_tests, (filled.rows i l).number (multipliers m)) in
      cell_of_row i (at integers i (pos 1)) (load_at P.right.items i) units load (filled.rows i l).under j
      ∙ ap of (number_of_row i j l)

  below : (i j : ℕ) → m < i → revised_cell m cs s i j ≡ first_row ordered_fractions Q i j
  below i j l = cell_of_row i (λ r. pos 0) (pos 0) (λ r k. ap (λ (x : RowSeen). number_at x.numbers r) (past i l))
      (ap (λ (x : RowSeen). number_at x.numbers (multipliers m)) (past i l))
      (ap (λ (x : RowSeen). x.under) (past i l)) j
      ∙ ap of (nothing_row m n F j)
      ∙ sym (ap of (number_past P problem i (omega (arith, l)) j))

  -- outside the artificial columns the objective row has 0 less the sum of a column
  summed : (j : ℕ) → (plain S ≤ j → columns S ≤ j) → (f : ℕ → ℤ) → ((i : ℕ) → number_in Q i j ≡ f i) →
      first_objective ordered_fractions Q j ≡ of (pos 0 -ℤ sum_to m f)
  summed j h f is = ap (λ b. cond b (of (pos 0)) (less_all ordered_fractions m
      (λ i. first_row ordered_fractions Q i j))) (artificial_not S j h)
      ∙ (λ z. less_all ordered_fractions m (λ i. of (is i z))) ∙ less_all_of m f

  -- the number of the objective row
  abbrev placed : ℕ → ℤ
  placed j = by_place (ltb j n) (ltb j (n + m)) (eqb j (n + m)) (F m j) (at integers m (pos 1) (j - n))
      (less_loads P.right.items m)

  in_plain : (j : ℕ) → j < n → of (placed j) ≡ first_objective ordered_fractions Q j
  in_plain j l =
      let here : placed j ≡ F m j = grind (arith, nat_tests) in
      let entries : (i : ℕ) → number_in Q i j ≡ turned (flipped Q i) (Q.entry i j) = λ i. grind (arith, nat_tests) in
      ap of (here ∙ first_cost m P.right.items (eqb j (length P.contact.items)) (entries_at P j) (cells_at cs j)
      (are j l) (entries_are P problem j))
      ∙ sym (summed j (λ k. omega (arith, k, l, long)) (λ i. turned (flipped Q i) (Q.entry i j)) entries)

  in_artificial : (j : ℕ) → n ≤ j → j < n + m → of (placed j) ≡ first_objective ordered_fractions Q j
  in_artificial j k l =
      let here : placed j ≡ pos 0 = grind (arith, nat_tests) in
      ap of here
      ∙ sym (ap (λ b. cond b (of (pos 0)) (less_all ordered_fractions m (λ i. first_row ordered_fractions Q i j)))
      (artificial_yes S j (omega (arith, k, long)) (omega (arith, l, long))))

  in_last : (j : ℕ) → j ≡ n + m → of (placed j) ≡ first_objective ordered_fractions Q j
  in_last j e =
      let here : placed j ≡ less_loads P.right.items m = grind (arith, nat_tests) in
      let loads : (i : ℕ) → number_in Q i j ≡ load_at P.right.items i = λ i. grind (arith, nat_tests) in
      ap of here ∙ sym (summed j (λ k. omega (arith, e, long)) (load_at P.right.items) loads)

  beyond : (j : ℕ) → n + m < j → of (placed j) ≡ first_objective ordered_fractions Q j
  beyond j l =
      let here : placed j ≡ pos 0 = grind (arith, nat_tests) in
      ap of here ∙ sym (objective_beyond Q j (omega (arith, l, long)))

  objective_is : (j : ℕ) → revised_cell m cs s m j ≡ first_objective ordered_fractions Q j
  objective_is j =
      let unit : (r : ℕ) → r < multipliers m → number_at (s m).numbers r ≡ at integers m (pos 1) r =
      λ r k. grind (arith, nat_tests, filled.last r) in
      let load : number_at (s m).numbers (multipliers m) ≡ less_loads P.right.items m =
      grind (arith, nat_tests, filled.last (multipliers m)) in
      cell_of_row m (at integers m (pos 1)) (less_loads P.right.items m) unit load filled.under j
      ∙ ap of (unit_row m n F m (less_loads P.right.items m) j (omega arith))
      ∙ grind (arith, in_plain j, in_artificial j, in_last j, beyond j)

  -- each cell is that of the written table
  pub first_cell : (i j : ℕ) → revised_cell m cs s i j
      ≡ changed (first_row ordered_fractions Q) m (first_objective ordered_fractions Q) i j
  first_cell i j = grind (arith, nat_tests, objective_is j, above i j, below i j)

-- the first basic columns
pub first_basics : (P : Lent) (bs : List ℕ) → length bs ≡ P.rows →
    ((i : ℕ) → i < P.rows → get_or bs i 0 ≡ plain (shape_of_problem P) + i) → (i : ℕ) →
    get_or bs i 0 ≡ first_basic (problem_of P) i
first_basics P bs long h i = grind (arith, nat_tests, get_or_past, h i)

-- how many factor columns there are
pub factor_is : (o : Option Given) → cond (is_some o) 1 0 ≡ factor_count o
factor_is None = refl
factor_is (Some c) = refl
