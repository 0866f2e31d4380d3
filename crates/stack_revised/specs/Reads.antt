-- What is read from a last table, row by row.
use Rattle.std.specs.Prelude.{ℕ, ◌+◌, ◌<◌, ⊤}
use Rattle.stack_algebra.specs.Fraction.{Fraction}
use Rattle.stack_table.specs.Table.{Shape, plain, columns}
use Rattle.stack_inverse.specs.declared.revised_table.RevisedTable.{RevisedTable}
use Rattle.stack_inverse.specs.Seen.{shape_of_revised, table_of_revised}
use Rattle.stack_revised.specs.declared.read.Read.{Read}
use Rattle.stack_revised.specs.declared.read.Read.TheVariants.{Column, Right, Multipliers}

-- a column that is read is plain
abbrev pub IsPlain : Shape → Read → Type 0
IsPlain S (Column c) = c < plain S
IsPlain S Right = ⊤
IsPlain S Multipliers = ⊤

-- the cell of row i that is read
abbrev pub read_at : RevisedTable → Read → ℕ → Fraction
read_at t (Column c) i = (table_of_revised t).cell i c
read_at t Right i = (table_of_revised t).cell i (columns (shape_of_revised t))
read_at t Multipliers i = (table_of_revised t).cell (shape_of_revised t).rows (plain (shape_of_revised t) + i)
