use Rattle.stack_equilibrium.proofs.Products.{six_force, six_moment}
use Rattle.stack_equilibrium.proofs.loads.sixfold.Goals as goal

pub returns-clause-value : goal.returns-clause-value
returns-clause-value c =
    let x = six_force c.args.force.x.value c.requires.force.x in
    let y = six_force c.args.force.y.value c.requires.force.y in
    let m = six_moment c.args.moment.value c.requires.moment in
    λ i. record { fx = x i; fy = y i; m = m i }
