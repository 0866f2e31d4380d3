use mathlib.Core.Path.{sym, subst}
use Rattle.stack_polygon.specs.Sizes.{IsSquare}
use Rattle.stack_polygon.proofs.Stored.{stored-product, product-square, product-fits}
use Rattle.stack_polygon.proofs.turns.product.Goals as goal

pub overflow_mul-result : goal.overflow_mul-result
overflow_mul-result c = product-fits c.args.x c.args.y c.requires.x c.requires.y

pub returns-clause-value : goal.returns-clause-value
returns-clause-value c = stored-product c.args.x c.args.y c.requires.x c.requires.y

pub returns-clause-size : goal.returns-clause-size
returns-clause-size c = subst IsSquare (sym (stored-product c.args.x c.args.y c.requires.x c.requires.y))
    (product-square c.args.x c.args.y c.requires.x c.requires.y)
