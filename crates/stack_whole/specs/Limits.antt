-- Limits that more than one crate needs.
use Rattle.std.specs.Prelude.{ℕ, ◌*◌, ◌<◌, ◌^◌, ℤ, pos, nat_abs}

-- how many bearings a survey may have, and so how many parts a list of forces
abbrev pub most_bearings : ℕ
most_bearings = 1024

-- how many free blocks a model may have, and so how many moves a motion
abbrev pub most_free : ℕ
most_free = 128

-- how many rows the problem of a survey may have: three for each free block
abbrev pub most_rows : ℕ
most_rows = 3 * most_free

-- how many contact columns the problem of a survey may have: two for each bearing
abbrev pub most_contact_columns : ℕ
most_contact_columns = 2 * most_bearings

-- the greatest weight that a material may have
abbrev pub greatest_weight : ℤ
greatest_weight = pos 1000000

-- loads and columns are below this in size, within the limits of a model
abbrev pub load_bound : ℕ
load_bound = 2 ^ 100

-- a number is less than 2^100 in size
abbrev pub IsBelowBound : ℤ → Type 0
IsBelowBound z = nat_abs z < load_bound
