use Rattle.std.proofs.Common.{◌≡◌, ◌+◌, drop}
use Rattle.stack_inverse.specs.FirstTable.{sizes_in}
use Rattle.stack_inverse.proofs.building.sizes_of.Given as goal

-- the sizes so far, and those of the cells that are left
abbrev pub invariant-loop-cell : goal.invariant-loop-cell
invariant-loop-cell l = l.sum + sizes_in (drop l.cell-index l.cells) ≡ sizes_in l.cells
