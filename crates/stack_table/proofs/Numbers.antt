-- The numbers of a problem: below the bound in size, and 0 past its rows and columns.
use Rattle.std.proofs.Common.{◌≡◌, refl, ap, ◌∙◌, ℕ, zero, suc, ◌+◌, ◌<◌, ◌≤◌, Bool, true, false, cond, eqb, ltb, List}
use Rattle.std.proofs.Common.{[], ◌∷◌, map, length, get_or, arith, SFits, to_z, of_z, to_z-of_z, ltb-true, le-ltb}
use Rattle.std.proofs.Common.{ne_eqb, ℤ, pos, Option, None, Some, Result, Ok, Err, IfOk, IfErr}
use Rattle.stack_rational.proofs.Common.{ints, get_or_past, w128}
use Rattle.std.specs.List.{AllByRecursion}
use Rattle.std.proofs.lemmas.Int.{fits_signed_from_abs}
use Rattle.stack_table.specs.declared.problem.Entry.{Entry}
use Rattle.stack_table.specs.declared.problem.Column.{Column}
use Rattle.stack_table.specs.declared.problem.Problem.{Problem as Lent}
use Rattle.stack_table.specs.Table.{plain, columns}
use Rattle.stack_table.specs.Problem.{Problem, is_below_zero, flipped, turned}
use Rattle.stack_table.specs.Lent.{IsColumn, IsProblem, entry_in, entries_at, factor_count, factor_entries}
use Rattle.stack_table.specs.Lent.{problem_of, shape_of_problem}
use Rattle.stack_whole.specs.Limits.{IsBelowBound}
use Rattle.stack_table.specs.WrittenTable.{written_number}

-- an entry is small, and there is none past the rows
entry_small : (xs : List Entry) (i : ℕ) → AllByRecursion (λ x. IsBelowBound x.value) xs →
    IsBelowBound (entry_in xs i)
entry_small [] i h = omega arith
entry_small (x ∷ xs) i h = go (eqb x.row i) (entry_small xs i h.1)
  where
    go : (b : Bool) → IsBelowBound (entry_in xs i) → IsBelowBound (cond b x.value (entry_in xs i))
    go true k = h.0
    go false k = k

entry_past : (rows : ℕ) (xs : List Entry) (i : ℕ) → AllByRecursion (λ x. x.row < rows) xs → rows ≤ i →
    entry_in xs i ≡ pos 0
entry_past rows [] i h l = refl
entry_past rows (x ∷ xs) i h l =
    ap (λ b. cond b x.value (entry_in xs i)) (ne_eqb x.row i (λ e. omega (arith, h.0, l, e)))
    ∙ entry_past rows xs i h.1 l

pub right_small : (xs : List ℤ) (i : ℕ) → AllByRecursion IsBelowBound xs → IsBelowBound (get_or xs i (pos 0))
right_small [] i h = omega arith
right_small (x ∷ xs) zero h = h.0
right_small (x ∷ xs) (suc i) h = right_small xs i h.1

-- a column without entries meets the condition, and so does each of a list
no_entries : (rows : ℕ) → IsColumn rows []
no_entries rows = record { below = tt; rising = λ k l. absurd (omega (arith, l)); small = tt }

column_at : (rows : ℕ) (xs : List Column) (j : ℕ) → AllByRecursion (λ c. IsColumn rows c.entries.items) xs →
    IsColumn rows (get_or (map (λ c. c.entries.items) xs) j [])
column_at rows [] j h = no_entries rows
column_at rows (x ∷ xs) zero h = h.0
column_at rows (x ∷ xs) (suc j) h = column_at rows xs j h.1

either_column : (rows : ℕ) (b : Bool) (xs ys : List Entry) → IsColumn rows xs → IsColumn rows ys →
    IsColumn rows (cond b xs ys)
either_column rows true xs ys h k = h
either_column rows false xs ys h k = k

pub column_of : (P : Lent) → IsProblem P → (j : ℕ) → IsColumn P.rows (entries_at P j)
column_of P h j = either_column P.rows (ltb j (length P.contact.items)) _ _
    (column_at P.rows P.contact.items j h.contact_columns)
    (either_column P.rows (eqb j (length P.contact.items)) (factor_entries P.factor) [] h.factor_column
    (no_entries P.rows))

-- a problem has few columns
few_factors : (o : Option Column) → factor_count o ≤ 1
few_factors None = omega arith
few_factors (Some c) = omega arith

pub few_columns : (P : Lent) → IsProblem P → (a : ℕ) → a ≡ plain (shape_of_problem P) → a + P.rows ≤ 2433
few_columns P h a e = omega (arith, h.contacts_few, h.rows_few, e, few_factors P.factor)

-- all numbers of the table are small
either : (b : Bool) (x y : ℤ) → IsBelowBound x → IsBelowBound y → IsBelowBound (cond b x y)
either true x y h k = h
either false x y h k = k

turned_small : (b : Bool) (z : ℤ) → IsBelowBound z → IsBelowBound (turned b z)
turned_small true z h = omega (arith, ints, h)
turned_small false z h = h

-- a number of three cases is 0
all_zero : (a b c : Bool) (x y z : ℤ) → x ≡ pos 0 → (b ≡ true → y ≡ pos 0) → z ≡ pos 0 →
    cond a x (cond b y (cond c z (pos 0))) ≡ pos 0
all_zero true b c x y z hx hy hz = hx
all_zero false true c x y z hx hy hz = hy refl
all_zero false false true x y z hx hy hz = hz
all_zero false false false x y z hx hy hz = refl

cond_false : (b : Bool) (x y : ℤ) → b ≡ false → cond b x y ≡ y
cond_false b x y e = ap (λ a. cond a x y) e

module _ (P : Lent) (h : IsProblem P) (i : ℕ) where
  pub entry_is_small : (j : ℕ) → IsBelowBound ((problem_of P).entry i j)
  entry_is_small j = entry_small (entries_at P j) i (column_of P h j).small

  pub load_is_small : IsBelowBound ((problem_of P).load i)
  load_is_small = right_small P.right.items i h.right_small

  pub number_small : (j : ℕ) → IsBelowBound (written_number (problem_of P) i j)
  number_small j = let S = shape_of_problem P in let b = flipped (problem_of P) i in
      either (ltb j (plain S)) (turned b ((problem_of P).entry i j)) _
      (turned_small b ((problem_of P).entry i j) (entry_is_small j))
      (either (ltb j (columns S)) (cond (eqb j (plain S + i)) (pos 1) (pos 0)) _
      (either (eqb j (plain S + i)) (pos 1) (pos 0) (omega arith) (omega arith))
      (either (eqb j (columns S)) (turned b ((problem_of P).load i)) (pos 0)
      (turned_small b ((problem_of P).load i) load_is_small) (omega arith)))

  -- numbers past the rows are 0
  module _ (past : P.rows ≤ i) where
    pub no_load : (problem_of P).load i ≡ pos 0
    no_load = get_or_past P.right.items i (pos 0) (omega (arith, h.right_long, past))

    turned_none : (z : ℤ) → z ≡ pos 0 → turned (flipped (problem_of P) i) z ≡ pos 0
    turned_none z e = ap (turned (flipped (problem_of P) i)) e
        ∙ ap (λ v. turned (is_below_zero v) (pos 0)) no_load

    pub number_past : (j : ℕ) → written_number (problem_of P) i j ≡ pos 0
    number_past j = let S = shape_of_problem P in
        all_zero (ltb j (plain S)) (ltb j (columns S)) (eqb j (columns S))
        (turned (flipped (problem_of P) i) ((problem_of P).entry i j))
        (cond (eqb j (plain S + i)) (pos 1) (pos 0))
        (turned (flipped (problem_of P) i) ((problem_of P).load i))
        (turned_none _ (entry_past P.rows (entries_at P j) i (column_of P h j).below past))
        (λ e. ap (λ b. cond b (pos 1) (pos 0))
        (ne_eqb j (plain S + i) (λ d. let l = ltb-true j (columns S) e in
        omega (arith, past, d, l)))) (turned_none _ no_load)

-- numbers past the columns are 0
pub number_beyond : (P : Problem) (i j : ℕ) → columns P.shape < j → written_number P i j ≡ pos 0
number_beyond P i j l = cond_false (ltb j (plain P.shape)) _ _ (le-ltb j (plain P.shape) (omega (arith, l)))
    ∙ cond_false (ltb j (columns P.shape)) _ _ (le-ltb j (columns P.shape) (omega (arith, l)))
    ∙ cond_false (eqb j (columns P.shape)) _ _ (ne_eqb j (columns P.shape) (λ e. omega (arith, l, e)))

pub small_fits : (z : ℤ) → IsBelowBound z → SFits w128 z
small_fits z h = fits_signed_from_abs w128 z (omega (arith, h))

pub small_back : (z v : ℤ) → z ≡ v → IsBelowBound v → to_z w128 (of_z w128 z) ≡ v
small_back z v e h = ap (λ t. to_z w128 (of_z w128 t)) e ∙ to_z-of_z (small_fits v h)

-- what follows from what an answer tells, and from what a refusal tells
pub then_ok : {V E : Type 0} (P Q R : V → Type 0) (r : Result V E) → ((x : V) → P x → Q x → R x) → IfOk r P
    → IfOk r Q → IfOk r R
then_ok P Q R (Ok x) f h k = f x h k
then_ok P Q R (Err e) f h k = tt

pub then_err : {V E : Type 0} (P Q : E → Type 0) (r : Result V E) → ((e : E) → P e → Q e) → IfErr r P → IfErr r Q
then_err P Q (Ok x) f h = tt
then_err P Q (Err e) f h = f e h
