use Rattle.std.proofs.Common.{rules, ◌≡◌, ◌∙◌, sym, subst, ap, length, map-id}
use Rattle.std.proofs.lemmas.Iterator.{items_from_drains}
use Rattle.std.proofs.lemmas.Iterator.Adapters.{YieldsList-from_vec, YieldsList-from_skip}
use Rattle.std.specs.Vec.Iter.{into_iter_items, into_iter_len}
use Rattle.stack_cli.specs.declared.given.Given.TheVariants.{Words}
use Rattle.stack_cli.specs.Words.{AreWordsAfterName}
use Rattle.stack_cli.proofs.standard.words_given.Goals as goal

pub returns-in-Ok-collect : goal.returns-in-Ok-collect
returns-in-Ok-collect c =
    let all = c.in-Ok.args in
    let counted : into_iter_len all ≡ length (into_iter_items all) = search rules in
    let source = c.skip.ensures.source in
    let ran = c.in-Ok-collect.ensures.ran in
    let whole = YieldsList-from_vec {s = c.skip.result.iter} (into_iter_items all) (ap into_iter_items source)
    (ap into_iter_len source ∙ counted) in
    let rest = YieldsList-from_skip {s = c.skip.result} 1 whole c.skip.ensures.count in
    subst (λ a. AreWordsAfterName a (Words c.in-Ok-collect.words)) (sym c.in-Ok.is)
    (ran.2.0 ∙ sym (map-id ran.0) ∙ items_from_drains ran.0 ran.1 rest)
