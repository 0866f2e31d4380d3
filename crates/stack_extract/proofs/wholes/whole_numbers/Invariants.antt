use Rattle.std.proofs.Common.{◌≤◌, length}
use Rattle.stack_extract.proofs.WrittenPlaces.{AreSoFar}
use Rattle.stack_extract.proofs.wholes.whole_numbers.Given as goal

abbrev pub invariant-loop-index : goal.invariant-loop-index
invariant-loop-index l = AreSoFar l.which l.list l.index l.numbers.items × (l.index ≤ length l.list)
