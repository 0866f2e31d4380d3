use Rattle.std.proofs.Common.{ap, ◌∙◌}
use Rattle.stack_rational.proofs.Common.{of}
use Rattle.stack_rational.proofs.OverParts.{is_held, divisor_some, quotient_never_too_wide, quotient_of}
use Rattle.stack_rational.proofs.of_wholes.over.Goals as goal

pub quotient-requires : goal.quotient-requires
quotient-requires c = divisor_some c.args.d c.whole-2.result
    (c.whole-2.ensures ∙ ap of (is_held c.args.d c.requires.denominator)) c.requires.positive

pub unreachable-requires : goal.unreachable-requires
unreachable-requires c = quotient_never_too_wide c.args.n c.args.d c.whole.result c.whole-2.result
    (c.whole.ensures ∙ ap of (is_held c.args.n c.requires.numerator))
    (c.whole-2.ensures ∙ ap of (is_held c.args.d c.requires.denominator)) c.requires.positive
    c.requires.numerator c.requires.denominator c.in-Err.ensures.wide

pub returns : goal.returns
returns c = c.in-Ok.ensures.ok ∙ quotient_of c.args.n c.args.d c.whole.result c.whole-2.result
    (c.whole.ensures ∙ ap of (is_held c.args.n c.requires.numerator))
    (c.whole-2.ensures ∙ ap of (is_held c.args.d c.requires.denominator)) c.requires.positive
