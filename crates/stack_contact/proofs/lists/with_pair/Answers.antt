use Rattle.stack_model.specs.ModelView.{model_view}
use Rattle.stack_contact.proofs.PairCases.{first-overlap, pair-found}
use Rattle.stack_contact.proofs.lists.with_pair.Goals as goal

pub returns-in-None : goal.returns-in-None
returns-in-None c = first-overlap (model_view c.args.model.now) c.args.pair.first c.args.pair.second
    c.requires.pair c.polygon.result.now c.polygon-2.result.now c.polygon.ensures.value
    c.polygon-2.ensures.value c.in-None.ensures.separated c.in-None.ensures.overlap
    c.args.lists.bearings.items c.args.lists.touches.items c.requires.found

pub returns-in_ok-more-in-Some : goal.returns-in_ok-more-in-Some
returns-in_ok-more-in-Some c = pair-found (model_view c.args.model.now) c.args.pair.first c.args.pair.second
    c.requires.pair c.polygon.result.now c.polygon-2.result.now c.polygon.ensures.value
    c.polygon-2.ensures.value c.in-Some.ensures.separated c.in-Some.ensures.overlap c.in-Some.found
    c.in-Some.ensures.found c.joint_friction-cone.result c.joint_friction-cone.ensures
    c.args.lists.bearings.items c.args.lists.touches.items c.requires.found
    c.in_ok-more-in-Some.more.bearings.items c.in_ok-more-in-Some.more.touches.items
    c.in_ok-more-in-Some.ensures.bearings c.in_ok-more-in-Some.ensures.touches
