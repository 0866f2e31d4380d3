use Rattle.std.proofs.Common.{rules, SFits, to_z-of_z, w64}
use Rattle.stack_rational.proofs.Common.{w128}
use Rattle.stack_rows.proofs.ways.WordStepWordWay.quotient.Goals as goal

pub returns-then-product_of-n : goal.returns-then-product_of-n
returns-then-product_of-n c =
    let s = c.args.self.now in
    let by : SFits w64 s.by = search rules in
    let times : SFits w64 s.times = search rules in
    let less : SFits w64 s.less = search rules in
    let left : SFits w128 c.product_of-left.result = search rules in
    let right : SFits w128 c.product_of-right.result = search rules in
    let product : SFits w128 c.product_of.result = search rules in
    let n : SFits w128 c.in_ok-n.n = search rules in
    let quotient : SFits w64 c.wrapping_shr-quotient.result = search rules in
    cc (
      to_z-of_z by,
      to_z-of_z times,
      to_z-of_z less,
      to_z-of_z left,
      to_z-of_z right,
      to_z-of_z product,
      to_z-of_z n,
      to_z-of_z quotient,
      to_z-of_z c.ranges.number,
      to_z-of_z c.ranges.other,
      c.in_ok-n.ensures.1,
    )
