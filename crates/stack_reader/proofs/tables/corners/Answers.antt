use Rattle.std.proofs.Common.{ap, ◌∙◌}
use Rattle.stack_polygon.specs.Corners.{origin}
use Rattle.stack_model.specs.Relisted.{coordinates}
use Rattle.stack_reader.specs.Writing.{wholes_data}
use Rattle.stack_model.proofs.Filled.{more}
use Rattle.stack_reader.proofs.Filled.{all}
use Rattle.toml.specs.View.{view}
use Rattle.stack_reader.proofs.tables.corners.Goals as goal

pub loop-i-preserved : goal.loop-i-preserved
loop-i-preserved c =
    more view (λ c. wholes_data (coordinates c)) _ _ c.args.outline.now c.loop-i.i _ origin
    c.in_ok-push.ensures.items
    (c.in_ok-place.ensures ∙ ap (λ c. wholes_data (coordinates c)) c.corner.ensures.value)
    c.len-i-end.ensures.value c.loop-i-test.true c.loop-i.invariant

pub returns : goal.returns
returns c =
    all wholes_data coordinates c.loop-i.list.items c.args.outline.now c.loop-i.i
    c.len-i-end.ensures.value c.loop-i-test.false c.loop-i.invariant
