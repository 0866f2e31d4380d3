-- Columns of cells that are made of columns of entries.
use Rattle.std.proofs.Common.{◌≡◌, refl, sym, ap, ◌∙◌, ℕ, zero, suc, ◌+◌, ◌<◌, ◌≤◌, Bool, true, false, cond, eqb}
use Rattle.std.proofs.Common.{ltb, List, [], ◌∷◌, ◌++◌, map, length, get_or, unsigned_abs, add-one, arith, subst}
use Rattle.std.proofs.Common.{ℤ, pos, negsuc, ◌-ℤ◌, ne_eqb, eq-eqb, ltb-true, leb-true, append_assoc}
use Rattle.std.proofs.lemmas.Bool.Decides.{nat_tests}
use Rattle.stack_rational.proofs.Common.{length-map, left_true, right_true, sum_of, sum_to}
use Rattle.std.specs.List.{AllByRecursion, slice_index}
use Rattle.stack_algebra.proofs.Integers.{one_mul}
use Rattle.stack_table.specs.declared.problem.Entry.{Entry}
use Rattle.stack_table.specs.Problem.{turned}
use Rattle.stack_table.specs.declared.problem.Column.{Column as Given}
use Rattle.stack_table.specs.declared.problem.Problem.{Problem as Lent}
use Rattle.stack_table.specs.Lent.{entry_in, entries_at, factor_entries, IsColumn, IsProblem}
use Rattle.stack_inverse.specs.declared.columns.Cell.{Cell}
use Rattle.stack_inverse.specs.declared.columns.FirstColumn.{FirstColumn}
use Rattle.stack_inverse.specs.Columns.{multipliers, sizes, entry_of, rises, cells_at, AreFirst, AreFactorCosts}
use Rattle.stack_inverse.specs.FirstTable.{flips, AreTurned, costs_of, HasCosts, AreFirstColumns, sizes_in, less_cells}
use Rattle.stack_inverse.proofs.Entered.{rises_of, cells_below, over_entries}

-- 0 stays 0
turned_zero : (b : Bool) → turned b (pos 0) ≡ pos 0
turned_zero true = refl
turned_zero false = refl

-- each entry stands in row `from` or later, and before those after it
IsFrom : ℕ → List Entry → Type 0
IsFrom from [] = Unit {0}
IsFrom from (x ∷ xs) = (from ≤ x.row) × IsFrom (suc x.row) xs

-- rows that rise by their places
chain : (from : ℕ) (xs : List Entry) → ((k : ℕ) → suc k < length xs →
    slice_index (map (λ x. x.row) xs) k < slice_index (map (λ x. x.row) xs) (suc k)) →
    (0 < length xs → from ≤ slice_index (map (λ x. x.row) xs) 0) → IsFrom from xs
unfolding IsFrom
chain from [] h b = tt
chain from (x ∷ []) h b = (b (omega arith), tt)
chain from (x ∷ (y ∷ ys)) h b = (
  b (omega arith),
  chain (suc x.row) (y ∷ ys) (λ k l. h (suc k) (omega (arith, l)))
      (λ l. h zero (omega arith)),
)

-- the rows of a column rise
column_from : (rows : ℕ) (xs : List Entry) → IsColumn rows xs → IsFrom 0 xs
column_from rows xs h = chain 0 xs (λ k l. subst
    (λ n. slice_index (map (λ x. x.row) xs) k < slice_index (map (λ x. x.row) xs) n) (add-one k)
    (h.rising k (omega (arith, l, length-map xs (λ x. x.row))))) (λ l. omega arith)

module _ (right : List ℤ) where
  -- one entry more
  pub turned_more : (xs : List Entry) (cs : List Cell) (x : Entry) (c : Cell) → AreTurned right xs cs →
      c.row ≡ x.row → c.value ≡ turned (flips right x.row) x.value →
      AreTurned right (xs ++ x ∷ []) (cs ++ c ∷ [])
  turned_more [] [] x c h hr hv = (hr, hv, tt)
  turned_more [] (d ∷ ds) x c h hr hv = absurd h
  turned_more (y ∷ ys) [] x c h hr hv = absurd h
  turned_more (y ∷ ys) (d ∷ ds) x c h hr hv = (h.0, h.1, turned_more ys ds x c h.2 hr hv)

  -- the number in each row
  entry_more : (x : Entry) (c : Cell) (i : ℕ) (y z : ℤ) → c.row ≡ x.row → c.value ≡ turned (flips right x.row) x.value →
      y ≡ turned (flips right i) z →
      cond (eqb c.row i) c.value y ≡ turned (flips right i) (cond (eqb x.row i) x.value z)
  entry_more x c i y z hr hv h = grind (arith, nat_tests)

  pub entry_turned : (xs : List Entry) (cs : List Cell) → AreTurned right xs cs → (i : ℕ) →
      entry_of cs i ≡ turned (flips right i) (entry_in xs i)
  entry_turned [] [] h i = sym (turned_zero (flips right i))
  entry_turned [] (c ∷ cs) h i = absurd h
  entry_turned (x ∷ xs) [] h i = absurd h
  entry_turned (x ∷ xs) (c ∷ cs) h i =
      entry_more x c i (entry_of cs i) (entry_in xs i) h.0 h.1 (entry_turned xs cs h.2 i)

  -- the cells rise as the entries do
  rises_from : (m from : ℕ) (xs : List Entry) (cs : List Cell) → AreTurned right xs cs →
      AllByRecursion (λ x. x.row < m) xs → IsFrom from xs → rises m from cs ≡ true
  unfolding IsFrom
  rises_from m from [] [] h b f = refl
  rises_from m from [] (c ∷ cs) h b f = absurd h
  rises_from m from (x ∷ xs) [] h b f = absurd h
  rises_from m from (x ∷ xs) (c ∷ cs) h b f =
      let rest : rises m (suc x.row) cs ≡ true = rises_from m (suc x.row) xs cs h.2 b.1 f.1 in
      grind (arith, nat_tests, f.0, b.0, h.0)

  -- so do those of a column
  pub column_rises : (m : ℕ) (xs : List Entry) (cs : List Cell) → AreTurned right xs cs → IsColumn m xs →
      rises m 0 cs ≡ true
  column_rises m xs cs h k = rises_from m 0 xs cs h k.below (column_from m xs k)

-- no size in the rows of no column
nothing : (m : ℕ) → sizes m (entry_of []) ≤ 0
nothing zero = omega arith
nothing (suc m) = omega (arith, nothing m)

-- the size of a cell counts once its row is one of the rows
size_more : (r k : ℕ) (x y : ℤ) (s t : ℕ) → s ≤ cond (ltb r k) (unsigned_abs x) 0 + t →
    s + unsigned_abs (cond (eqb r k) x y) ≤ cond (ltb r (suc k)) (unsigned_abs x) 0 + (t + unsigned_abs y)
size_more r k x y s t h = grind (arith, nat_tests)

sizes_more : (c : Cell) (cs : List Cell) (k : ℕ) → sizes k (entry_of (c ∷ cs))
    ≤ cond (ltb c.row k) (unsigned_abs c.value) 0 + sizes k (entry_of cs)
sizes_more c cs zero = omega arith
sizes_more c cs (suc k) = size_more c.row k c.value (entry_of cs k) (sizes k (entry_of (c ∷ cs)))
    (sizes k (entry_of cs)) (sizes_more c cs k)

at_most : (b : Bool) (n : ℕ) → cond b n 0 ≤ n
at_most true n = omega arith
at_most false n = omega arith

-- the sum of the sizes in its rows is no greater than that of all its cells
pub sizes_within : (m : ℕ) (cs : List Cell) → sizes m (entry_of cs) ≤ sizes_in cs
sizes_within m [] = nothing m
sizes_within m (c ∷ cs) = omega (
  arith,
  sizes_more c cs m,
  sizes_within m cs,
  at_most (ltb c.row m) (unsigned_abs c.value),
)

-- 0 less its numbers in all rows is 0 less the values of all its cells
pub less_rows : (m : ℕ) (cs : List Cell) → rises m 0 cs ≡ true →
    pos 0 -ℤ sum_to m (entry_of cs) ≡ less_cells cs
less_rows m cs h = ap (λ z. pos 0 -ℤ z) (sym (λ i. sum_to m (λ r. one_mul (entry_of cs r) i))
    ∙ over_entries m 0 (λ r. pos 1) cs (rises_of m 0 cs h) ∙ (λ i. sum_of (λ x. one_mul (x.value) i) cs))

-- each column of a problem meets the condition of one
column_at : (rows : ℕ) (xs : List Given) (j : ℕ) → AllByRecursion (λ c. IsColumn rows c.entries.items) xs →
    IsColumn rows (get_or (map (λ c. c.entries.items) xs) j [])
column_at rows [] j h = record { below = tt; rising = λ k l. absurd (omega (arith, l)); small = tt }
column_at rows (x ∷ xs) zero h = h.0
column_at rows (x ∷ xs) (suc j) h = column_at rows xs j h.1

-- by the place of a column
either_column : (rows : ℕ) (b : Bool) (xs ys : List Entry) → IsColumn rows xs → IsColumn rows ys →
    IsColumn rows (cond b xs ys)
either_column rows true xs ys h k = h
either_column rows false xs ys h k = k

-- of each column
pub entries_are : (P : Lent) → IsProblem P → (j : ℕ) → IsColumn P.rows (entries_at P j)
entries_are P h j = either_column P.rows (ltb j (length P.contact.items)) _ _
    (column_at P.rows P.contact.items j h.contact_columns)
    (either_column P.rows (eqb j (length P.contact.items)) (factor_entries P.factor) [] h.factor_column
    (record { below = tt; rising = λ k l. absurd (omega (arith, l)); small = tt }))

-- costs stand below the first rows
no_costs : (m i : ℕ) (b : Bool) (v : ℤ) → i < m → entry_of (costs_of m b v) i ≡ pos 0
no_costs m i true v l = grind (arith, nat_tests)
no_costs m i false v l = grind (arith, nat_tests)

-- so in those a column has its values
above_costs : (m i : ℕ) (b : Bool) (v : ℤ) (xs : List Cell) → i < m →
    entry_of (xs ++ costs_of m b v) i ≡ entry_of xs i
above_costs m i b v [] l = no_costs m i b v l
above_costs m i b v (x ∷ xs) l = ap (cond (eqb x.row i) x.value) (above_costs m i b v xs l)

-- and below them its costs
at_costs : (m i : ℕ) (b : Bool) (v : ℤ) (xs : List Cell) → AllByRecursion (λ x. x.row < m) xs → m ≤ i →
    entry_of (xs ++ costs_of m b v) i ≡ entry_of (costs_of m b v) i
at_costs m i b v [] h l = refl
at_costs m i b v (x ∷ xs) h l =
    ap (λ t. cond t x.value (entry_of (xs ++ costs_of m b v) i)) (ne_eqb x.row i (λ e. omega (arith, h.0, l, e)))
    ∙ at_costs m i b v xs h.1 l

-- the cost of phase 1, and that of phase 3
one_cost : (m : ℕ) (b : Bool) (v : ℤ) → entry_of (costs_of m b v) m ≡ v
one_cost m b v = grind (arith, nat_tests)

other_cost : (m : ℕ) (b : Bool) (v : ℤ) → entry_of (costs_of m b v) (suc m) ≡ cond b (negsuc 0) (pos 0)
other_cost m true v = grind (arith, nat_tests)
other_cost m false v = grind (arith, nat_tests)

-- costs rise after the first rows
costs_rise : (m from : ℕ) (b : Bool) (v : ℤ) → from ≤ m → rises (multipliers m) from (costs_of m b v) ≡ true
costs_rise m from true v l = grind (arith, nat_tests)
costs_rise m from false v l = grind (arith, nat_tests)

rises_on : (m from : ℕ) (b : Bool) (v : ℤ) (xs : List Cell) → rises m from xs ≡ true → from ≤ m →
    rises (multipliers m) from (xs ++ costs_of m b v) ≡ true
rises_on m from b v [] h l = costs_rise m from b v l
rises_on m from b v (x ∷ xs) h l =
    let first = leb-true from x.row (left_true _ _ h) in
    let lt = ltb-true x.row m (left_true _ _ (right_true _ _ h)) in
    let rest = rises_on m (suc x.row) b v xs (right_true _ _ (right_true _ _ h)) (omega (arith, lt)) in
    grind (arith, nat_tests, first, lt, rest)

-- a column with its costs
module _ (m : ℕ) (right : List ℤ) (b : Bool) (xs : List Entry) (cs : List Cell) (h : HasCosts m right b xs cs)
    (column : IsColumn m xs) where
  values_rise : rises m 0 h.values ≡ true
  values_rise = column_rises right m xs h.values h.turned column

  values_below : AllByRecursion (λ x. x.row < m) h.values
  values_below = cells_below m 0 h.values (rises_of m 0 h.values values_rise)

  -- rises
  pub cells_rise : rises (multipliers m) 0 cs ≡ true
  cells_rise = subst (λ ys. rises (multipliers m) 0 ys ≡ true) (sym h.costs)
      (rises_on m 0 b (less_cells h.values) h.values values_rise (omega arith))

  -- has its entries in the first rows
  pub entry_is : (i : ℕ) → i < m → entry_of cs i ≡ turned (flips right i) (entry_in xs i)
  entry_is i l = ap (λ ys. entry_of ys i) h.costs ∙ above_costs m i b (less_cells h.values) h.values l
      ∙ entry_turned right xs h.values h.turned i

  -- and then minus their sum
  pub first_cost : entry_of cs m ≡ pos 0 -ℤ sum_to m (λ i. turned (flips right i) (entry_in xs i))
  first_cost = ap (λ ys. entry_of ys m) h.costs
      ∙ at_costs m m b (less_cells h.values) h.values values_below (omega arith)
      ∙ one_cost m b (less_cells h.values) ∙ sym (less_rows m h.values values_rise)
      ∙ (λ z. pos 0 -ℤ sum_to m (λ i. entry_turned right xs h.values h.turned i z))

  -- and last -1 if it is the factor's
  pub last_cost : entry_of cs (suc m) ≡ cond b (negsuc 0) (pos 0)
  last_cost = ap (λ ys. entry_of ys (suc m)) h.costs
      ∙ at_costs m (suc m) b (less_cells h.values) h.values values_below (omega arith)
      ∙ other_cost m b (less_cells h.values)

-- the columns of a problem's first rows, and a number that covers their sizes
pub first_columns : (P : Lent) → IsProblem P →
    (cs : List FirstColumn) (column_top : ℕ) →
    AreFirstColumns P cs → 0 < column_top →
    ((j : ℕ) → j < length cs → sizes_in (cells_at cs j) ≤ column_top) →
    AreFirst P.rows (length cs) cs column_top
first_columns P h cs column_top are some covers = record {
  rising = λ j l. cells_rise P.rows P.right.items (eqb j (length P.contact.items)) (entries_at P j) (cells_at cs j)
      (are j l) (entries_are P h j);
  within = λ j l. omega (arith, sizes_within (multipliers P.rows) (cells_at cs j), covers j l);
  some = some;
}

-- their costs of phase 3
pub factor_costs : (P : Lent) → IsProblem P → (cs : List FirstColumn) → AreFirstColumns P cs →
    AreFactorCosts P.rows cs (length P.contact.items)
factor_costs P h cs are j l = last_cost P.rows P.right.items (eqb j (length P.contact.items)) (entries_at P j)
    (cells_at cs j) (are j l) (entries_are P h j)

-- a cell
abbrev placed : ℕ → ℤ → Cell
placed r v = record { row = r; value = v }

-- cells of a column with its first cost, and with its last one
pub with_first : (m : ℕ) (right : List ℤ) (xs : List Entry) (values cs : List Cell) (x : Cell) →
    AreTurned right xs values → x.row ≡ m → x.value ≡ less_cells values → cs ≡ values ++ x ∷ [] →
    HasCosts m right false xs cs
with_first m right xs values cs x h hr hv e = record {
  values = values;
  turned = h;
  costs = e ∙ (λ z. values ++ placed (hr z) (hv z) ∷ []);
}

pub with_last : (m : ℕ) (right : List ℤ) (xs : List Entry) (cs ds : List Cell) (x : Cell) →
    HasCosts m right false xs cs → x.row ≡ suc m → x.value ≡ negsuc 0 → ds ≡ cs ++ x ∷ [] → HasCosts m right true xs ds
with_last m right xs cs ds x h hr hv e = record {
  values = h.values;
  turned = h.turned;
  costs = e ∙ (λ z. h.costs z ++ placed (hr z) (hv z) ∷ [])
      ∙ append_assoc h.values (placed m (less_cells h.values) ∷ []) (placed (suc m) (negsuc 0) ∷ []);
}

-- told of equal places and entries
transport_costs : (right : List ℤ) (cs : List Cell) {m n : ℕ} {b c : Bool} {xs ys : List Entry} → m ≡ n → b ≡ c →
    xs ≡ ys → HasCosts m right b xs cs → HasCosts n right c ys cs
transport_costs right cs {m} {n} {b} {c} {xs} {ys} e f g h = subst (λ k. HasCosts k right c ys cs) e
    (subst (λ t. HasCosts m right t ys cs) f (subst (λ es. HasCosts m right b es cs) g h))

-- the columns of a problem, by their places: a contact column, and the factor's
module _ (P : Lent) (cs : List Cell) (long : length P.right.items ≡ P.rows) where
  pub contact_has : (j : ℕ) → j < length P.contact.items → HasCosts (length P.right.items) P.right.items false
      (get_or (map (λ c. c.entries.items) P.contact.items) j []) cs → HasCosts P.rows P.right.items
      (eqb j (length P.contact.items)) (entries_at P j) cs
  contact_has j l h =
      let first : get_or (map (λ c. c.entries.items) P.contact.items) j [] ≡ entries_at P j =
      grind (arith, nat_tests) in
      let b : false ≡ eqb j (length P.contact.items) =
      sym (ne_eqb j (length P.contact.items) (λ e. omega (arith, l, e))) in
      transport_costs P.right.items cs long b first h

  pub factor_has : HasCosts (length P.right.items) P.right.items true (factor_entries P.factor) cs →
      HasCosts P.rows P.right.items (eqb (length P.contact.items) (length P.contact.items))
      (entries_at P (length P.contact.items)) cs
  factor_has h =
      let n = length P.contact.items in
      let last : factor_entries P.factor ≡ entries_at P n = grind (arith, nat_tests) in
      transport_costs P.right.items cs long (sym (eq-eqb n n refl)) last h
