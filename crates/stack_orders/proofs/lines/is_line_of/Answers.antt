use Rattle.std.proofs.Common.{ap, ◌∙◌, ◌++◌, ◌∷◌, [], Some, None}
use Rattle.std.specs.Str.{bytes_eq}
use Rattle.std.proofs.lemmas.Slice.Eq.{strip_prefix_is}
use Rattle.std.proofs.lemmas.Bool.Decides.{Decides-eqb}
use Rattle.stack_orders.proofs.OrderLines.{tail_told, no_tail}
use Rattle.stack_orders.proofs.lines.is_line_of.Goals as goal

pub returns-in-Some : goal.returns-in-Some
returns-in-Some c =
    let is = strip_prefix_is Decides-eqb c.args.line.now c.as_bytes.result.now (Some c.in-Some.rest)
    c.in-Some.ensures.cases in
    c.eq.ensures ∙ (ap (λ ys. bytes_eq c.in-Some.rest.now ys) c.as_slice.ensures
    ∙ (tail_told c.args.line.now c.as_bytes.result.now c.in-Some.rest.now is
    ∙ ap (λ name. bytes_eq c.args.line.now (name ++ 10 ∷ [])) c.as_bytes.ensures.value))

pub returns-in-None : goal.returns-in-None
returns-in-None c =
    let is = strip_prefix_is Decides-eqb c.args.line.now c.as_bytes.result.now None c.in-None.ensures.cases in
    no_tail c.args.line.now c.as_bytes.result.now is
    ∙ ap (λ name. bytes_eq c.args.line.now (name ++ 10 ∷ [])) c.as_bytes.ensures.value
