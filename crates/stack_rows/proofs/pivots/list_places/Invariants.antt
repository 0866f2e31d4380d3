use Rattle.std.proofs.Common.{◌-◌, ◌≤◌, length}
use Rattle.stack_rows.proofs.Listed.{IsListing}
use Rattle.stack_rows.proofs.pivots.list_places.Given as goal

abbrev pub invariant-loop-j : goal.invariant-loop-j
invariant-loop-j l = record {
  within : l.j ≤ length l.row;
  listing : IsListing l.row l.list l.count l.j;
}

abbrev pub decreases-loop-j : goal.decreases-loop-j
decreases-loop-j l = length l.row - l.j
