use Rattle.std.proofs.Common.{sym, ap, subst, ◌∙◌, ◌<◌, [], ◌∷◌, ◌++◌, map, if◌then◌else◌}
use Rattle.std.proofs.lemmas.List.{length-map, get_or-map}
use Rattle.stack_model.specs.Kept.{body_view}
use Rattle.stack_model.specs.Keeping.{flag_at}
use Rattle.stack_model.proofs.KeptLists.{kept_more}
use Rattle.stack_model.proofs.parting.kept_bodies.Goals as goal

pub loop-i-preserved : goal.loop-i-preserved
loop-i-preserved c =
    let bodies = c.args.bodies.now in
    let body = body_view c.index-bodies-i.result in
    kept_more (flag_at c.args.keeps.now) (map body_view c.loop-i.list.items) (map body_view c.in_ok-list.list.items)
    (map body_view bodies) c.loop-i.i body body
    (c.in_ok-list.ensures
    ∙ ap (λ t. map body_view c.loop-i.list.items ++ (if t then body ∷ [] else [])) c.flag.ensures)
    (ap body_view c.index-bodies-i.is ∙ sym (get_or-map body_view bodies c.loop-i.i _ body c.loop-i-test.true))
    (subst (λ n. c.loop-i.i < n) (sym (length-map bodies body_view)) c.loop-i-test.true) c.loop-i.invariant
