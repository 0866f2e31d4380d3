use Rattle.std.proofs.Common.{◌≤◌, ◌+◌, length}
use Rattle.stack_certificate.specs.Stages.{stage_view}
use Rattle.stack_certificate.proofs.ReadSoFar.{IsRead}
use Rattle.stack_certificate.proofs.reading.read_certificate.Given as goal

abbrev pub invariant-loop-rest : goal.invariant-loop-rest
invariant-loop-rest l =
    IsRead l.text (stage_view l.stage) l.rest l.number × (l.number + length l.rest ≤ length l.text + 1)

abbrev pub decreases-loop-rest : goal.decreases-loop-rest
decreases-loop-rest l = length l.rest
