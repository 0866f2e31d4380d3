use Rattle.stack_certificate.proofs.OtherLines.{no_forces, no_part, no_moves}
use Rattle.stack_certificate.proofs.line.read_body.Goals as goal

pub returns-in-None-clause-none : goal.returns-in-None-clause-none
returns-in-None-clause-none c =
    no_forces _ _ c.in_default.ensures.none c.in-Some-after.ensures.some c.in-None.ensures.none

pub returns-in-None-read_two-clause-none : goal.returns-in-None-read_two-clause-none
returns-in-None-read_two-clause-none c =
    no_part _ _ c.in_default.ensures.none c.in-Some-after-2.ensures.some c.in-None-read_two.ensures.none

pub returns-in-None-read_three-clause-none : goal.returns-in-None-read_three-clause-none
returns-in-None-read_three-clause-none c =
    no_moves _ _ c.in_default.ensures.none c.in-Some-after-3.ensures.some c.in-None-read_three.ensures.none
