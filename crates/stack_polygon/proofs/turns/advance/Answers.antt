use Rattle.stack_polygon.proofs.Stored.{is_step, sum-fits, advance-stored}
use Rattle.stack_polygon.proofs.turns.advance.Goals as goal

pub product-requires-clause-x : goal.product-requires-clause-x
product-requires-clause-x c = is_step c.args.p.x c.args.o.x c.requires.p.x c.requires.o.x

pub product-requires-clause-y : goal.product-requires-clause-y
product-requires-clause-y c = is_step c.args.q.x c.args.o.x c.requires.q.x c.requires.o.x

pub product-requires-2-clause-x : goal.product-requires-2-clause-x
product-requires-2-clause-x c = is_step c.args.p.y c.args.o.y c.requires.p.y c.requires.o.y

pub product-requires-2-clause-y : goal.product-requires-2-clause-y
product-requires-2-clause-y c = is_step c.args.q.y c.args.o.y c.requires.q.y c.requires.o.y

pub overflow_add-result : goal.overflow_add-result
overflow_add-result c = sum-fits c.product.result c.product-2.result c.product.ensures.size c.product-2.ensures.size

pub returns : goal.returns
returns c = advance-stored c.args.o c.args.p c.args.q c.product.result c.product-2.result c.requires.o c.requires.p
    c.requires.q
    c.product.ensures.size c.product-2.ensures.size c.product.ensures.value c.product-2.ensures.value
