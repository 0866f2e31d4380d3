-- The numbers of a row that are kept.
use Rattle.std.proofs.Common.{◌≡◌, refl, ℕ, ◌+◌, ◌^◌, ◌<◌, arith, List, length}
use Rattle.std.proofs.Common.{ℤ, Bool, true, false}
use Rattle.std.proofs.lemmas.Bool.Decides.{nat_tests}
use Rattle.std.proofs.lemmas.List.{length_push}
use Rattle.stack_rows.specs.declared.row.Row.{Row}
use Rattle.stack_rows.specs.EntriesSeen.{entries_of}
use Rattle.stack_rows.specs.RowSeen.{numbers_of}
use Rattle.stack_inverse.specs.declared.columns.FirstColumn.{FirstColumn}
use Rattle.stack_rows.specs.RowForm.{number_at, entries_in}
use Rattle.stack_inverse.specs.Columns.{multipliers, number_with}

-- the number in a row's artificial column
pub artificial_is : (m : ℕ) (columns : List FirstColumn) (row : List ℤ) (j r : ℕ) →
    j ≡ length columns + r → r < m → number_with m columns row j ≡ number_at row r
artificial_is m columns row j r e l = grind (arith, nat_tests)

-- and its right side
pub right_is : (m : ℕ) (columns : List FirstColumn) (row : List ℤ) (j : ℕ) →
    j ≡ length columns + m → number_with m columns row j ≡ number_at row (multipliers m)
right_is m columns row j e = grind (arith, nat_tests)

-- either list has as many numbers
either_long : (wide : Bool) (numbers words : List ℤ) → length words ≡ length numbers →
    length (entries_in wide numbers words) ≡ length numbers
either_long true numbers words e = refl
either_long false numbers words e = e

-- a row has few numbers
pub few_numbers : (r : Row) → length (numbers_of r) < 2 ^ 16
few_numbers r =
    let e = r.entries in
    omega (
      arith,
      e.few,
      either_long e.wide e.numbers.items e.words.items e.long,
      length_push (entries_of e) r.right,
    )
