use Rattle.std.proofs.Common.{rules, ◌≡◌, [], ◌∷◌, ◌++◌, length, sym, subst}
use Rattle.stack_model.specs.ModelView.{model_view}
use Rattle.stack_contact.proofs.FromLeft.{ArePlacedTo, one-placed, more-placed, sorted-bodies}
use Rattle.stack_contact.proofs.sweeping.from_left.Goals as goal

pub loop-body-preserved : goal.loop-body-preserved
loop-body-preserved c =
    let items : c.push.new.self.items ≡ c.loop-body.bodies.items ++ c.place_of.result ∷ [] = search rules in
    subst (ArePlacedTo (model_view c.args.model.now) _) (sym items)
    (more-placed (model_view c.args.model.now) c.loop-body.body c.loop-body.bodies.items c.place_of.result
    (one-placed (model_view c.args.model.now) c.loop-body.body c.polygon.result.now c.span.result
    c.place_of.result (search rules) c.polygon.ensures.value c.polygon.ensures.polygon c.span.ensures.span
    c.place_of.ensures.x0 c.place_of.ensures.body) c.place_of.ensures.body c.loop-body.invariant)

pub returns : goal.returns
returns c =
    let all : c.loop-body.body ≡ length (model_view c.args.model.now).bodies = search rules in
    sorted-bodies (model_view c.args.model.now) c.loop-body.body c.loop-body.bodies.items c.sort.new.self.items
    all c.loop-body.invariant c.sort.ensures.permutation c.in_ok-sort.ensures.sorted
