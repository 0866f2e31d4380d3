use Rattle.stack_overhang.proofs.Rows.{begins}
use Rattle.stack_overhang.proofs.bricks.brick.Goals as goal

pub overflow_mul-left : goal.overflow_mul-left
overflow_mul-left c =
    (begins c.args.row c.args.j c.ranges.j.fits c.requires.laid c.requires.below).on_fits

pub overflow_add-left : goal.overflow_add-left
overflow_add-left c =
    (begins c.args.row c.args.j c.ranges.j.fits c.requires.laid c.requires.below).fits

pub overflow_add-result : goal.overflow_add-result
overflow_add-result c =
    (begins c.args.row c.args.j c.ranges.j.fits c.requires.laid c.requires.below).end_fits

pub overflow_add-result-2 : goal.overflow_add-result-2
overflow_add-result-2 c =
    (begins c.args.row c.args.j c.ranges.j.fits c.requires.laid c.requires.below).top_fits

pub returns : goal.returns
returns c =
    let b = begins c.args.row c.args.j c.ranges.j.fits c.requires.laid c.requires.below in
    λ i. record { left = b.left i; bottom = b.bottom i; right = b.right i; top = b.top i }
