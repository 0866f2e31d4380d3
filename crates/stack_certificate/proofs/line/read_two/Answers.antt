use Rattle.stack_certificate.proofs.CutLines.{two_parts}
use Rattle.stack_certificate.proofs.line.read_two.Goals as goal

pub returns-in_default-read_number-clause-none : goal.returns-in_default-read_number-clause-none
returns-in_default-read_number-clause-none c = λ a b is.
    let two = two_parts a b _ _ _ c.in-Some.ensures.some.0 c.in-Some.ensures.some.1 is in
    c.in_default-read_number.ensures.none a two.0

pub returns-in_default-read_number-2-clause-none : goal.returns-in_default-read_number-2-clause-none
returns-in_default-read_number-2-clause-none c = λ a b is.
    let two = two_parts a b _ _ _ c.in-Some.ensures.some.0 c.in-Some.ensures.some.1 is in
    c.in_default-read_number-2.ensures.none b two.1
