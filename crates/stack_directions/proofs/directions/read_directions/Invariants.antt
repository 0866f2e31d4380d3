use Rattle.std.proofs.Common.{◌≡◌, ◌+◌, ◌≤◌, length}
use Rattle.stack_directions.specs.Directions.{directions_of, directions_from}
use Rattle.stack_certificate.specs.FaultLine.{cut}
use Rattle.stack_directions.proofs.DirectionLists.{onto}
use Rattle.stack_directions.proofs.directions.read_directions.Given as goal

abbrev pub invariant-loop-rest : goal.invariant-loop-rest
invariant-loop-rest l = (directions_of l.text ≡ onto l.directions.items (directions_from l.number (cut l.rest)))
    × (l.number + length l.rest ≤ length l.text + 1)

abbrev pub decreases-loop-rest : goal.decreases-loop-rest
decreases-loop-rest l = length l.rest
