use Rattle.std.proofs.Common.{◌≡◌, drop, ◌-ℤ◌}
use Rattle.stack_rational.proofs.Common.{sum_of}
use Rattle.stack_inverse.specs.FirstTable.{less_cells}
use Rattle.stack_inverse.proofs.building.first_cost.Given as goal

-- what is left less the values of the cells that are left
abbrev pub invariant-loop-cell : goal.invariant-loop-cell
invariant-loop-cell l = l.rest -ℤ sum_of (λ x. x.value) (drop l.cell-index l.cells) ≡ less_cells l.cells
