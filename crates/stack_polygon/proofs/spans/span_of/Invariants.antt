use Rattle.stack_polygon.specs.Spans.{IsSpanTo}
use Rattle.stack_polygon.proofs.spans.span_of.Given as goal

abbrev pub invariant-loop-i : goal.invariant-loop-i
invariant-loop-i l = IsSpanTo l.i l.corners l.span
