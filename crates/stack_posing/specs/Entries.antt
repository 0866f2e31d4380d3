-- A column of entries as it grows by rows: what it says of the first n rows.
use Rattle.std.specs.Prelude.{◌≡◌, ◌≢◌, ℕ, ◌+◌, ◌*◌, List, [], ◌∷◌, ◌++◌, cond, ltb, ℤ, pos, neg_ℤ, true}
use Rattle.std.specs.Prelude.{if◌then◌else◌}
use Rattle.std.specs.List.{AllByRecursion}
use Rattle.std.specs.Ordering.{int_eq}
use Rattle.stack_statics.specs.declared.wrench.Wrench.{Wrench}
use Rattle.stack_table.specs.declared.problem.Entry.{Entry}
use Rattle.stack_table.specs.Lent.{entry_in}
use Rattle.stack_table.specs.Sound.{is_column}

-- no entry is 0
abbrev pub IsSomething : Entry → Type 0
IsSomething x = x.value ≢ pos 0

-- none of these entries is 0
abbrev pub AreSomething : List Entry → Type 0
AreSomething xs = AllByRecursion IsSomething xs

-- entries of the first n rows, in rising rows, with small values: the value in row i is f i, and 0 is left out
pub record AreEntries (n : ℕ) (f : ℕ → ℤ) (xs : List Entry) : Type 0 where
  pub values : (i : ℕ) → entry_in xs i ≡ cond (ltb i n) (f i) (pos 0)
  pub column : is_column n 0 xs ≡ true
  pub something : AreSomething xs

-- one more entry, unless it is 0
abbrev pub with_value : List Entry → ℕ → ℤ → List Entry
with_value xs row value = if int_eq value (pos 0) then xs else xs ++ record { row = row; value = value } ∷ []

-- the three entries of a wrench on free block b, each unless it is 0, behind those before
abbrev pub with_wrench : List Entry → ℕ → Wrench → List Entry
with_wrench xs b w = with_value (with_value (with_value xs (3 * b) w.fx) (3 * b + 1) w.fy) (3 * b + 2) w.m

-- the opposite of a wrench, as right sides
abbrev pub opposites : Wrench → List ℤ
opposites w = neg_ℤ w.fx ∷ neg_ℤ w.fy ∷ neg_ℤ w.m ∷ []
