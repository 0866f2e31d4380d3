use Rattle.std.proofs.Common.{◌≤◌, rules, arith, ℤ, pos, negsuc, nat_abs, SFits}
use Rattle.stack_rational.proofs.Common.{w128, ints, ◌≺◌, widest}
use Rattle.stack_inverse.proofs.bounding.under_fits.Goals as goal

-- a positive number of 128 bits
positive_fits : (z : ℤ) → SFits w128 z → pos 0 ≺ z → nat_abs z ≤ nat_abs widest
positive_fits (pos n) f h = omega (arith, f.sfits)
positive_fits (negsuc n) f h = absurd (omega (arith, ints, h))

pub returns : goal.returns
returns c =
    let fits : SFits w128 c.args.row.now.under = search rules in
    positive_fits c.args.row.now.under fits c.args.row.now.positive
