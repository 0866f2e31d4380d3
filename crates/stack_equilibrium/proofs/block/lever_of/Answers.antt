use Rattle.std.proofs.Common.{◌≡◌, rules, ◌-ℤ◌}
use Rattle.stack_whole.specs.Whole.{whole}
use Rattle.stack_equilibrium.proofs.block.lever_of.Goals as goal

pub returns : goal.returns
returns c =
    let z = c.args.bearing in
    let tx : c.widened.result ≡ whole z.frame.tx = search rules in
    let ty : c.widened-2.result ≡ whole z.frame.ty = search rules in
    let lx : c.step.result ≡ whole (z.at.x -ℤ c.args.corner.x) = search rules in
    let ly : c.step-2.result ≡ whole (z.at.y -ℤ c.args.corner.y) = search rules in
    λ i. record { tx = tx i; ty = ty i; lx = lx i; ly = ly i }
