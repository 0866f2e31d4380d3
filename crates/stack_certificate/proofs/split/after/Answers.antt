use Rattle.std.proofs.lemmas.Slice.Eq.{strip_prefix_is}
use Rattle.std.proofs.lemmas.Bool.Decides.{Decides-eqb}
use Rattle.stack_certificate.proofs.CutLines.{after_some, after_none}
use Rattle.stack_certificate.proofs.split.after.Goals as goal

pub returns-clause-some : goal.returns-clause-some
returns-clause-some c =
    let cases = c.strip_prefix.ensures.cases in
    let is = strip_prefix_is Decides-eqb c.args.bytes.now c.args.word.now c.strip_prefix.result cases in
    after_some c.strip_prefix.result c.args.bytes.now c.args.word.now is

pub returns-clause-none : goal.returns-clause-none
returns-clause-none c =
    let cases = c.strip_prefix.ensures.cases in
    let is = strip_prefix_is Decides-eqb c.args.bytes.now c.args.word.now c.strip_prefix.result cases in
    after_none c.strip_prefix.result c.args.bytes.now c.args.word.now is
