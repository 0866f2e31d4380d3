-- The whole numbers of a list of fractions: each times the list's common scale. What stands at an index.
use Rattle.std.specs.Prelude.{ℕ, ℤ, pos, List, map, get_or}
use Rattle.stack_algebra.specs.Fraction.{Fraction}
use Rattle.stack_algebra.specs.IntegerOrder.{◌≼◌}
use Rattle.stack_rational.specs.CommonScale.{scale_of, times_scale}
use Rattle.stack_table.specs.Problem.{Problem, flipped, turned}

-- the fractions of a list, each times the common scale of all
abbrev pub whole_list : List Fraction → List ℤ
whole_list xs = map (times_scale (scale_of xs)) xs

-- the amount of column j; 0 past the end
abbrev pub amount : List ℤ → ℕ → ℤ
amount zs j = get_or zs j (pos 0)

-- the multiplier of row k of the problem: with the other sign if the row is flipped
abbrev pub multiplier : Problem → List ℤ → ℕ → ℤ
multiplier P zs k = turned (flipped P k) (amount zs k)

-- no amount is negative
abbrev pub NonePulls : List ℤ → Type 0
NonePulls zs = (j : ℕ) → pos 0 ≼ amount zs j
