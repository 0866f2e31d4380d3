use Rattle.std.proofs.Common.{◌≤◌, length}
use Rattle.stack_extract.proofs.PartPlaces.{PartsSoFar}
use Rattle.stack_extract.proofs.parts.force_parts.Given as goal

abbrev pub invariant-loop-k : goal.invariant-loop-k
invariant-loop-k l = PartsSoFar l.which l.bearings l.numbers l.k l.parts.items × (l.k ≤ length l.bearings)
