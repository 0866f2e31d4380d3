use Rattle.std.proofs.Common.{◌≤◌, ◌*◌, rules, arith, nat_abs, mul-le-mul, SFits, to_z-of_z, w64}
use Rattle.stack_rows.proofs.ways.FitStep.tested.Goals as goal

pub wide_product-requires : goal.wide_product-requires
wide_product-requires c =
    let s = c.args.self.now in
    let q = c.args.quotient in
    let by : SFits w64 s.word.by = search rules in
    let small : nat_abs q ≤ s.limit = search rules in
    let u : nat_abs q * nat_abs s.word.by ≤ s.limit * nat_abs s.word.by = mul-le-mul small (omega arith) in
    rw (to_z-of_z c.ranges.quotient, to_z-of_z by) (omega (arith, u, s.limited))
