-- A number that is made over the cells of its column.
use Rattle.std.proofs.Common.{◌≡◌, refl, sym, ap, ◌∙◌, ℕ, ◌+◌, ◌-◌, suc, ◌<◌, ◌≤◌, List, length, get_or, [], ◌∷◌, true}
use Rattle.std.proofs.Common.{◌++◌, arith, ℤ, ◌+ℤ◌, ◌*ℤ◌, pos, drop, drop-cons, add-one, Option, Some, None, OnSome}
use Rattle.std.proofs.Common.{IfSome, nat_abs}
use Rattle.std.specs.List.{AllByRecursion}
use Rattle.std.proofs.lemmas.Bool.Decides.{nat_tests}
use Rattle.std.proofs.lemmas.List.{length_push}
use Rattle.stack_rational.proofs.Common.{ints, expand, sums, sum_of, get_or-map, ℕ_discrete, dec_lt}
use Rattle.stack_inverse.specs.declared.columns.Cell.{Cell}
use Rattle.stack_inverse.specs.declared.columns.FirstColumn.{FirstColumn}
use Rattle.stack_rows.specs.RowForm.{number_at, IsTopped}
use Rattle.stack_inverse.specs.Columns.{multipliers, rises, cells_at, number_with}
use Rattle.stack_rows.proofs.Items.{at-index}
use Rattle.stack_rows.proofs.Sided.{before_is, side_is, after_is}
use Rattle.stack_inverse.proofs.Entered.{rises_of, over_entries}

-- what follows from four clauses
pub all_four : {X : Type 0} (r : Option X) {P Q R S T : Type 0} → OnSome r P → OnSome r Q → OnSome r R → OnSome r S →
    (P → Q → R → S → T) → OnSome r T
all_four None p q r s f = tt
all_four (Some x) p q r s f = f p q r s

-- what follows from two clauses
pub if_both : {P : Type 0} (r : Option ℤ) (x y : ℤ) → IfSome r (λ z. z ≡ x) → OnSome r P → (P → x ≡ y) →
    IfSome r (λ z. z ≡ y)
if_both None x y h p f = tt
if_both (Some z) x y h p f = h ∙ f p

-- and from three
pub if_three : {P Q : Type 0} (r : Option ℤ) (x y : ℤ) → IfSome r (λ z. z ≡ x) → OnSome r P → OnSome r Q →
    (P → Q → x ≡ y) → IfSome r (λ z. z ≡ y)
if_three None x y h p q f = tt
if_three (Some z) x y h p q f = h ∙ f p q

-- one cell more
pub one_more : (f : Cell → ℤ) (cells : List Cell) (k : ℕ) (d : Cell) (sum next total : ℤ) → k < length cells →
    next ≡ sum +ℤ f (get_or cells k d) → sum +ℤ sum_of f (drop k cells) ≡ total →
    next +ℤ sum_of f (drop (k + 1) cells) ≡ total
one_more f cells k d sum next total l e h =
    rw add-one (omega (arith, ints, ap (sum_of f) (drop-cons cells k d l), e, h))

-- the sum over the cells of its column makes a number
pub number_made : (m : ℕ) (columns : List FirstColumn) (row : List ℤ) (j : ℕ) → j < length columns →
    rises (multipliers m) 0 (cells_at columns j) ≡ true → (cells : List Cell) → cells ≡ cells_at columns j →
    sum_of (λ x. number_at row x.row *ℤ x.value) cells ≡ number_with m columns row j
number_made m columns row j lt rising cells is =
    let M = multipliers m in
    let f = λ (x : Cell). number_at row x.row *ℤ x.value in
    let all = over_entries M 0 (number_at row) (cells_at columns j) (rises_of M 0 (cells_at columns j) rising) in
    grind (arith, nat_tests, all, ap (sum_of f) is)

-- so does the sum over those before the right side, if the cells stand there
before_side : (xs : List ℤ) (r : ℤ) (cells : List Cell) → AllByRecursion (λ x. x.row < length xs) cells →
    sum_of (λ x. number_at xs x.row *ℤ x.value) cells ≡ sum_of (λ x. number_at (xs ++ r ∷ []) x.row *ℤ x.value) cells
before_side xs r [] h = refl
before_side xs r (x ∷ rest) h = λ i. sym (before_is xs r x.row h.0) i *ℤ x.value +ℤ before_side xs r rest h.1 i

pub entries_made : (m : ℕ) (columns : List FirstColumn) (xs : List ℤ) (r : ℤ) (j : ℕ) → j < length columns →
    rises (multipliers m) 0 (cells_at columns j) ≡ true → (cells : List Cell) → cells ≡ cells_at columns j →
    AllByRecursion (λ x. x.row < length xs) cells →
    sum_of (λ x. number_at xs x.row *ℤ x.value) cells ≡ number_with m columns (xs ++ r ∷ []) j
entries_made m columns xs r j lt rising cells is below = before_side xs r cells below
    ∙ number_made m columns (xs ++ r ∷ []) j lt rising cells is

-- an entry makes a number too
pub entry_made : (m : ℕ) (columns : List FirstColumn) (xs : List ℤ) (r : ℤ) (j : ℕ) →
    length (xs ++ r ∷ []) ≡ suc (multipliers m) → length columns ≤ j → j - length columns < m →
    number_at xs (j - length columns) ≡ number_with m columns (xs ++ r ∷ []) j
entry_made m columns xs r j long k l =
    let e = before_is xs r (j - length columns) (omega (arith, l, long, length_push xs r)) in
    grind (arith, nat_tests, k, l, e)

-- and the right side
pub right_is : (xs : List ℤ) (r : ℤ) (k : ℕ) → length (xs ++ r ∷ []) ≡ suc k → number_at (xs ++ r ∷ []) k ≡ r
right_is xs r k long = side_is xs r k (omega (arith, long, length_push xs r))

pub right_made : (m : ℕ) (columns : List FirstColumn) (xs : List ℤ) (r : ℤ) (j : ℕ) →
    length (xs ++ r ∷ []) ≡ suc (multipliers m) → j ≡ length columns + m →
    r ≡ number_with m columns (xs ++ r ∷ []) j
right_made m columns xs r j long e =
    let s = right_is xs r (multipliers m) long in
    grind (arith, nat_tests, e, s)

-- a row's numbers are no greater in size than its top and its right side
pub all_within : (xs : List ℤ) (r : ℤ) (top b : ℕ) → IsTopped (xs ++ r ∷ []) top → top ≤ b → nat_abs r ≤ b →
    (j : ℕ) → nat_abs (number_at (xs ++ r ∷ []) j) ≤ b
all_within xs r top b h t s j = elim (dec_lt j (length xs)) [
  | yes l ↦ omega (arith, h j (omega (arith, l, length_push xs r)), t)
  | no d ↦ elim (ℕ_discrete j (length xs)) [
    | yes e ↦ omega (arith, ap nat_abs (side_is xs r j e), s)
    | no n ↦ omega (arith, ap nat_abs (after_is xs r j (omega (arith, d, n))))
  ]
]

-- the sum of products with nothing
none_of : (row : List ℤ) (cells : List Cell) → AllByRecursion (λ x. number_at row x.row ≡ pos 0) cells →
    sum_of (λ x. number_at row x.row *ℤ x.value) cells ≡ pos 0
none_of row [] h = refl
none_of row (x ∷ xs) h = (λ z. h.0 z *ℤ x.value +ℤ none_of row xs h.1 z) ∙ zero_times x.value
  where
    zero_times : (v : ℤ) → pos 0 *ℤ v +ℤ pos 0 ≡ pos 0
    zero_times v = simp expand (omega (arith, sums))

-- a row has nothing in a column if it has nothing at the column's cells
pub nothing_made : (m : ℕ) (columns : List FirstColumn) (row : List ℤ) (j : ℕ) → j < length columns →
    rises (multipliers m) 0 (cells_at columns j) ≡ true →
    AllByRecursion (λ x. number_at row x.row ≡ pos 0) (cells_at columns j) → pos 0 ≡ number_with m columns row j
nothing_made m columns row j lt rising h = sym (none_of row (cells_at columns j) h)
    ∙ number_made m columns row j lt rising (cells_at columns j) refl

-- the cells of a column that is lent
pub cells_of : (columns : List FirstColumn) (j : ℕ) (x : FirstColumn) → j < length columns →
    x ≡ get_or columns j x → x.cells.items ≡ cells_at columns j
cells_of columns j x l h = sym (at-index (λ c. c.cells.items) [] columns j x l h)

-- and by a default
pub cells_lent : (columns : List FirstColumn) (j : ℕ) (d : FirstColumn) → j < length columns →
    (get_or columns j d).cells.items ≡ cells_at columns j
cells_lent columns j d l = sym (get_or-map (λ c. c.cells.items) columns j d [] l)
