use Rattle.std.proofs.Common.{take}
use Rattle.stack_inverse.specs.FirstTable.{AreTurned}
use Rattle.stack_inverse.proofs.building.cells_of.Given as goal

-- the entries so far
abbrev pub invariant-loop-entry : goal.invariant-loop-entry
invariant-loop-entry l = AreTurned l.right (take l.entry-index l.entries) l.cells.items
