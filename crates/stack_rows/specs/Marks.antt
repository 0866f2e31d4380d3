-- Marks of places, a bit each.
use Rattle.std.specs.Prelude.{ℕ, ◌/◌, ◌%◌, List, get_or}
use Rattle.std.specs.Int.{bit_at}

-- the mark of place j, which is 0 past the last word
unfoldable pub mark_in : (words : List ℕ) (j : ℕ) → ℕ
mark_in words j = bit_at (get_or words (j / 64) 0) (j % 64)
