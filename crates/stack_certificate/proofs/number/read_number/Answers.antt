use Rattle.std.proofs.Common.{sym, ap, ◌∙◌, of_z}
use Rattle.std.specs.Int.{w128}
use Rattle.stack_certificate.proofs.Spellings.{is_text, is_parsed, not_parsed, not_least, differ, spelled_through}
use Rattle.stack_certificate.proofs.number.read_number.Goals as goal

pub returns-in_default-clause-none : goal.returns-in_default-clause-none
returns-in_default-clause-none c = λ z is. c.in_default.ensures.cases.0 (is_text z _ is)

pub returns-in_default-parse-clause-none : goal.returns-in_default-parse-clause-none
returns-in_default-parse-clause-none c = λ z is.
    not_parsed z _ _ _ c.parse.result c.in-Ok.ensures.cases.0 c.parse.ensures.value.0 c.in_default-parse.is is

pub returns-then-number-clause-none : goal.returns-then-number-clause-none
returns-then-number-clause-none c = λ z is.
    let text = c.in-Ok.ensures.cases.0 in
    let parsed = c.parse.ensures.value.0 in
    let same = is_parsed z c.in-Ok-parse.number _ _ c.parse.result text parsed c.in-Ok-parse.is is in
    not_least z is.0 (ap (of_z w128) (sym same) ∙ c.if-number.true)

pub returns-else-eq-clause-none : goal.returns-else-eq-clause-none
returns-else-eq-clause-none c = λ z is.
    let text = c.in-Ok.ensures.cases.0 in
    let parsed = c.parse.ensures.value.0 in
    let same = is_parsed z c.in-Ok-parse.number _ _ c.parse.result text parsed c.in-Ok-parse.is is in
    let spelled = spelled_through c.in-Ok-parse.number z is.0 same ∙ sym is.1 in
    let printed = c.as_bytes.ensures.value ∙ (c.format.ensures.text ∙ spelled) in
    differ c.as_bytes.result.now c.args.bytes.now c.eq.result c.eq.ensures c.if-eq.false printed
