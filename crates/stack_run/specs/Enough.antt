-- A budget that is never spent.
use Rattle.std.specs.Prelude.{ℕ, ◌*◌, ◌^◌, leb, cond, Option, Some, None}

-- 3*2^columns, as far as it fits 32 bits
abbrev pub enough_of : ℕ → Option ℕ
enough_of columns = cond (leb columns 30) (Some (3 * 2 ^ columns)) None
