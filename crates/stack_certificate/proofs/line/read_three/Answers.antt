use Rattle.stack_certificate.proofs.CutLines.{three_parts}
use Rattle.stack_certificate.proofs.line.read_three.Goals as goal

pub returns-in_default-read_number-clause-none : goal.returns-in_default-read_number-clause-none
returns-in_default-read_number-clause-none c = λ x y z is.
    let parts = three_parts x y z _ _ _ c.in-Some.ensures.some.0 c.in-Some.ensures.some.1 is in
    c.in_default-read_number.ensures.none x parts.0

pub returns-in_default-read_two-clause-none : goal.returns-in_default-read_two-clause-none
returns-in_default-read_two-clause-none c = λ x y z is.
    let parts = three_parts x y z _ _ _ c.in-Some.ensures.some.0 c.in-Some.ensures.some.1 is in
    c.in_default-read_two.ensures.none y z parts.1
