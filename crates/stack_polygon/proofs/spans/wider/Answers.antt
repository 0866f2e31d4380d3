use Rattle.std.proofs.Common.{rules}
use Rattle.stack_polygon.proofs.Stored.{least-stored, greatest-stored}
use Rattle.stack_polygon.proofs.spans.wider.Goals as goal

pub returns-clause-x0 : goal.returns-clause-x0
returns-clause-x0 c = least-stored c.min.result c.args.s.x0 c.args.c.x (search rules) (search rules)
    (search rules) c.min.ensures.value

pub returns-clause-y0 : goal.returns-clause-y0
returns-clause-y0 c = least-stored c.min-2.result c.args.s.y0 c.args.c.y (search rules) (search rules)
    (search rules) c.min-2.ensures.value

pub returns-clause-x1 : goal.returns-clause-x1
returns-clause-x1 c = greatest-stored c.max.result c.args.s.x1 c.args.c.x (search rules) (search rules)
    (search rules) c.max.ensures.value

pub returns-clause-y1 : goal.returns-clause-y1
returns-clause-y1 c = greatest-stored c.max-2.result c.args.s.y1 c.args.c.y (search rules) (search rules)
    (search rules) c.max-2.ensures.value
