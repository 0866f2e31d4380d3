use Rattle.std.proofs.Common.{◌≡◌, rules, pos, ◌*ℤ◌, SFits, to_z, of_z, to_z-of_z}
use Rattle.stack_rational.proofs.Common.{w128}
use Rattle.stack_rows.proofs.Apart.{put_number}
use Rattle.stack_rows.proofs.remaking.remade.Goals as goal

pub returns : goal.returns
returns g c =
    let z = c.in_ok-cell.cell in
    let p = c.in_ok-part.part in
    let product : SFits w128 c.in_ok-product.product = search rules in
    let part : SFits w128 p = search rules in
    let number : SFits w128 c.parts-number.result.0 = search rules in
    let under : SFits w128 c.parts-number.result.1 = search rules in
    let whole : p *ℤ pos z.den ≡ c.args.common = cc (
      to_z-of_z under,
      to_z-of_z c.ranges.common,
      c.in_ok-part.ensures,
      c.of.ensures,
      c.parts-number.ensures.den,
    ) in
    let is : to_z w128 (of_z w128 c.in_ok-product.product) ≡ p *ℤ z.num = cc (
      to_z-of_z product,
      to_z-of_z part,
      to_z-of_z number,
      c.in_ok-product.ensures.1,
      c.parts-number.ensures.num,
    ) in
    put_number _ p z.num (pos z.den) _ _ c.args.common
    (rw (to_z-of_z c.ranges.own, to_z-of_z c.ranges.pivot) at c.in_ok-cell.ensures) whole is
