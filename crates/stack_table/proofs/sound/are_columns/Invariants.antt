use Rattle.std.proofs.Common.{◌≡◌, drop}
use Rattle.stack_table.specs.Sound.{are_columns}
use Rattle.stack_table.proofs.sound.are_columns.Given as goal

abbrev pub invariant-loop-column : goal.invariant-loop-column
invariant-loop-column l = are_columns l.rows (drop l.column-index l.columns) ≡ are_columns l.rows l.columns
