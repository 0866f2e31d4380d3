use Rattle.stack_overlap.proofs.SpanPoints.{one-apart, other-apart}
use Rattle.stack_overlap.proofs.boxes.apart.Goals as goal

pub returns-then-have_no_x : goal.returns-then-have_no_x
returns-then-have_no_x c = one-apart c.args.a c.args.b c.have_no_x.result c.have_no_x.ensures c.if-have_no_x.true

pub returns-else-have_no_x : goal.returns-else-have_no_x
returns-else-have_no_x c = other-apart c.args.a c.args.b c.have_no_x.result c.have_no_x.ensures
    c.if-have_no_x.false c.have_no_y.result c.have_no_y.ensures
