use Rattle.stack_polygon.proofs.SpanSteps.{span-more}
use Rattle.stack_polygon.proofs.spans.span_of.Goals as goal

pub loop-i-preserved : goal.loop-i-preserved
loop-i-preserved c = span-more c.loop-i.i c.args.corners.now c.loop-i.span c.wider-span.result
    c.wider-span.ensures.x0 c.wider-span.ensures.y0 c.wider-span.ensures.x1 c.wider-span.ensures.y1
    c.loop-i.invariant
