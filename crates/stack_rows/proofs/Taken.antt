-- A row that is divided by a number.
use Rattle.std.proofs.Common.{◌≢◌, List, ℤ, pos, nat_abs}
use Rattle.std.specs.Int.{int_signum}
use Rattle.stack_rows.specs.RowForm.{number_at, IsTaken, IsSameRow}
use Rattle.stack_rows.proofs.Combined.{over_signed}

-- with the sign of a number and over its size, it is the row over the number
pub taken_whole : (old pivot new : List ℤ) (n after : ℤ) → n ≢ pos 0 →
    IsTaken old (pos (nat_abs n)) pivot (int_signum n) (pos 0) new after → IsSameRow old n new after
taken_whole old pivot new n after d t = record {
  positive = t.positive;
  cross = λ r. over_signed n (number_at new r) (number_at old r) (number_at pivot r) after d (t.number r);
}
