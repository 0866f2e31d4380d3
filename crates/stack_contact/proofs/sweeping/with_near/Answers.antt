use Rattle.std.proofs.Common.{rules, ◌≡◌, [], ◌∷◌, ◌++◌, sym, ◌∙◌, subst}
use Rattle.stack_model.specs.ModelView.{model_view}
use Rattle.stack_contact.specs.NearPairs.{IsSwept}
use Rattle.stack_contact.proofs.SweepSteps.{spans-apart, with-itself, added}
use Rattle.stack_contact.proofs.sweeping.with_near.Goals as goal

pub returns-then-apart : goal.returns-then-apart
returns-then-apart c = spans-apart (model_view c.args.model.now) c.args.one c.args.other c.args.pairs.items
    c.polygon.result.now c.polygon-2.result.now c.polygon.ensures.value c.polygon-2.ensures.value
    c.polygon.ensures.polygon c.polygon-2.ensures.polygon c.span.result c.span-2.result c.span.ensures.span
    c.span-2.ensures.span (c.apart.ensures.0 c.if-apart.true)

pub returns-in-None : goal.returns-in-None
returns-in-None c = with-itself (model_view c.args.model.now) c.args.one c.args.other c.args.pairs.items
    c.in-None.ensures

pub returns-in_ok-push-in-Some : goal.returns-in_ok-push-in-Some
returns-in_ok-push-in-Some c =
    let items : c.push.new.self.items ≡ c.args.pairs.items ++ c.in-Some.pair ∷ [] = search rules in
    subst (IsSwept (model_view c.args.model.now) c.args.one c.args.other c.args.pairs.items) (sym items)
    (added (model_view c.args.model.now) c.args.one c.args.other c.args.pairs.items c.in-Some.pair
    c.in-Some.ensures c.requires.one c.requires.other (sym c.are_fixed.ensures ∙ c.if-are_fixed.false))
