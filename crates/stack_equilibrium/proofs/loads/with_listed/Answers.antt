use Rattle.stack_equilibrium.proofs.Products.{own_force, own_moment}
use Rattle.stack_equilibrium.proofs.loads.with_listed.Goals as goal

pub returns-clause-value : goal.returns-clause-value
returns-clause-value c =
    let o = c.requires.own in
    let l = c.requires.listed in
    let x = own_force c.args.own.fx c.args.listed.fx o.fx l.fx in
    let y = own_force c.args.own.fy c.args.listed.fy o.fy l.fy in
    let m = own_moment c.args.own.m c.args.listed.m o.m l.m in
    λ i. record { fx = x i; fy = y i; m = m i }
