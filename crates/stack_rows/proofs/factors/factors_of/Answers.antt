use Rattle.std.proofs.Common.{rules, SFits, to_z-of_z}
use Rattle.stack_rational.proofs.Common.{w128}
use Rattle.stack_rows.proofs.Combined.{same_cross}
use Rattle.stack_rows.proofs.factors.factors_of.Goals as goal

pub returns-clause-cross : goal.returns-clause-cross
returns-clause-cross c =
    let times : SFits w128 c.in_ok-times.times = search rules in
    let less : SFits w128 c.in_ok-less.less = search rules in
    let under : SFits w128 c.args.pivot_under.by = search rules in
    let e = same_cross _ _ c.of-divider.result.by _ _ c.in_ok-less.ensures c.in_ok-times.ensures in
    cc (to_z-of_z times, to_z-of_z less, to_z-of_z under, to_z-of_z c.ranges.number)
