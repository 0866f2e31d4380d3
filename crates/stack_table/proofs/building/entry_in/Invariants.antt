use Rattle.std.proofs.Common.{◌≡◌, drop}
use Rattle.stack_table.specs.Lent.{entry_in}
use Rattle.stack_table.proofs.building.entry_in.Given as goal

abbrev pub invariant-loop-entry : goal.invariant-loop-entry
invariant-loop-entry l = entry_in (drop l.entry-index l.entries) l.row ≡ entry_in l.entries l.row
