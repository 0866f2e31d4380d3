use Rattle.std.proofs.Common.{◌≡◌, true, false, sym, subst, ◌∙◌}
use Rattle.std.specs.Str.{bytes_eq}
use Rattle.stack_cli.proofs.WordNumbers.{is_number, fits, unparsed, parsed_other}
use Rattle.stack_cli.proofs.words.number_of.Goals as goal

pub returns-in_default : goal.returns-in_default
returns-in_default c = unparsed c.args.word.now c.parse.result c.parse.ensures.value.0 c.in_default.field-0
    c.in_default.is

pub returns-then-eq : goal.returns-then-eq
returns-then-eq c = is_number c.args.word.now c.in-Ok.number
    (fits c.args.word.now c.parse.result c.parse.ensures.value.0 c.in-Ok.number c.in-Ok.is)
    (subst (λ t. bytes_eq t c.args.word.now ≡ true) c.format.ensures.text (sym c.eq.ensures ∙ c.if-eq.true))

pub returns-else-eq : goal.returns-else-eq
returns-else-eq c = parsed_other c.args.word.now c.parse.result c.parse.ensures.value.0
    c.in-Ok.number c.in-Ok.is
    (subst (λ t. bytes_eq t c.args.word.now ≡ false) c.format.ensures.text (sym c.eq.ensures ∙ c.if-eq.false))
