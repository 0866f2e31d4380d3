use Rattle.std.proofs.Common.{rules, SFits, to_z-of_z}
use Rattle.stack_rational.proofs.Common.{w128}
use Rattle.stack_inverse.proofs.CellSteps.{fits_at}
use Rattle.stack_inverse.proofs.spots.numbers_fit.Goals as goal

pub returns : goal.returns
returns c = λ e.
    let s = c.args.s.now in
    let under : SFits w128 s.under = search rules in
    let told = c.step_fits.ensures e in
    λ i j. fits_at c.args.own s.under c.args.pivot s.pivot_under s.number s.factors.times s.factors.less s.positive
    s.pivot_positive s.some s.cross (rw (
      to_z-of_z under,
      c.unsigned_abs.ensures.value,
      c.unsigned_abs-2.ensures.value,
      to_z-of_z c.ranges.own,
      to_z-of_z c.ranges.pivot,
    ) at told) i j
