use Rattle.std.proofs.Common.{ap, arith, nat_abs, rules, SFits, to_z-of_z}
use Rattle.stack_rational.proofs.Common.{w128}
use Rattle.stack_rows.specs.EntriesSeen.{entries_of}
use Rattle.stack_inverse.specs.Columns.{multipliers}
use Rattle.stack_inverse.proofs.Made.{right_is}
use Rattle.stack_inverse.proofs.making.whole_top.Goals as goal

pub returns : goal.returns
returns c =
    let r = c.args.row.now in
    let right : SFits w128 r.right = search rules in
    let more = c.larger.ensures in
    record {
      top = r.top;
      each = λ k l. r.topped k (omega (arith, l, c.requires));
      right = omega (
        arith,
        ap nat_abs (right_is (entries_of r.entries) r.right (multipliers c.args.first.now.rows) c.requires),
        ap nat_abs (to_z-of_z right),
        c.unsigned_abs.ensures.value,
        more.other,
      );
      product = omega (arith, c.in_ok-combined.ensures, more.own);
    }
