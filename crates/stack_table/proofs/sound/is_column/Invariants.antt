use Rattle.std.proofs.Common.{◌≡◌, drop}
use Rattle.stack_table.specs.Sound.{is_column}
use Rattle.stack_table.proofs.sound.is_column.Given as goal

abbrev pub invariant-loop-entry : goal.invariant-loop-entry
invariant-loop-entry l = is_column l.rows l.from (drop l.entry-index l.entries) ≡ is_column l.rows 0 l.entries
