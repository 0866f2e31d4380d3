use Rattle.std.proofs.Common.{ap, ◌∙◌}
use Rattle.stack_polygon.specs.Corners.{origin}
use Rattle.stack_model.specs.Raw.{numbers_view}
use Rattle.stack_model.specs.Relisted.{coordinates}
use Rattle.stack_model.proofs.Filled.{more, all}
use Rattle.stack_model.proofs.listing.corners.Goals as goal

pub loop-i-preserved : goal.loop-i-preserved
loop-i-preserved c =
    more numbers_view coordinates _ _ c.args.outline.now c.loop-i.i _ origin
    c.in_ok-push.ensures.items (c.in_ok-place.ensures ∙ ap coordinates c.corner.ensures.value)
    c.len-i-end.ensures.value c.loop-i-test.true c.loop-i.invariant

pub returns : goal.returns
returns c =
    all numbers_view coordinates c.loop-i.list.items c.args.outline.now c.loop-i.i
    c.len-i-end.ensures.value c.loop-i-test.false c.loop-i.invariant
