-- What clauses see of a table: its shape, its value, and which rows are flipped.
use Rattle.std.specs.Prelude.{ℕ, Bool, false, get_or}
use Rattle.stack_algebra.specs.Fraction.{Fraction}
use Rattle.stack_rational.specs.declared.exact.Exact.{Ghosts}
use Rattle.stack_table.specs.declared.table.Table.{Table}
use Rattle.stack_table.specs.Table.{Shape, Tabled}
use Rattle.stack_table.specs.Block.{shape_of, tabled}

-- a table's numbers of rows, of contact columns and of factor columns
abbrev pub shape_of_table : {V : Type 0} {number : Ghosts V} → Table V number → Shape
shape_of_table t = shape_of t.rows t.contacts t.has_factor

-- a table's cells as exact fractions by row and column, and the basic column of each row
abbrev pub table_of : {V : Type 0} {number : Ghosts V} → Table V number → Tabled Fraction
table_of {number = number} t = tabled number.exact (shape_of_table t) t.cells.items t.basic.items

-- whether a row was flipped
abbrev pub flips_of : {V : Type 0} {number : Ghosts V} → Table V number → ℕ → Bool
flips_of t i = get_or t.flipped.items i false
