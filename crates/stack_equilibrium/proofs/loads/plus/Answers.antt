use Rattle.stack_equilibrium.proofs.Products.{one_force, one_moment}
use Rattle.stack_equilibrium.proofs.loads.plus.Goals as goal

pub returns-clause-value : goal.returns-clause-value
returns-clause-value c =
    let n = c.args.count in
    let l = c.ranges.count.fits in
    let x = one_force n c.args.total.fx c.args.one.fx l c.requires.total.fx c.requires.one.fx in
    let y = one_force n c.args.total.fy c.args.one.fy l c.requires.total.fy c.requires.one.fy in
    let m = one_moment n c.args.total.m c.args.one.m l c.requires.total.m c.requires.one.m in
    λ i. record { fx = x i; fy = y i; m = m i }
