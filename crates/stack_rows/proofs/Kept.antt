-- Numbers that are kept in one of two lists.
use Rattle.std.proofs.Common.{◌≡◌, ap, ℕ, ◌<◌, List, length, ℤ, pos, Bool, true}
use Rattle.std.proofs.lemmas.List.{ext_get_or}
use Rattle.stack_rows.specs.RowForm.{number_at, entries_in}

-- the first one
pub is_wide : {wide : Bool} (numbers words : List ℤ) → wide ≡ true → entries_in wide numbers words ≡ numbers
is_wide numbers words e = ap (λ w. entries_in w numbers words) e

-- lists with the same numbers are the same
pub same_numbers : (xs ys : List ℤ) → length xs ≡ length ys →
    ((k : ℕ) → k < length xs → number_at xs k ≡ number_at ys k) → xs ≡ ys
same_numbers xs ys e each = ext_get_or (pos 0) xs ys e each
