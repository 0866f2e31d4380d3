use Rattle.std.proofs.Common.{◌∙◌, length, rules, SFits, to_z, of_z, to_z-of_z}
use Rattle.stack_rational.proofs.Common.{w128}
use Rattle.stack_inverse.specs.FirstTable.{load_at}
use Rattle.stack_inverse.proofs.FirstSteps.{rest_more, rows_more}
use Rattle.stack_inverse.proofs.PutRow.{widths_put, unfit_put}
use Rattle.stack_inverse.proofs.filling.put_first_rows.Goals as goal

pub loop-i-preserved : goal.loop-i-preserved
loop-i-preserved c =
    let right = c.args.right.now in
    let i = c.loop-i.invariant in
    let row = c.in_ok-put_first_row.ensures in
    let long = c.put_first_row.auto.numbers ∙ c.loop-i.auto.numbers ∙ c.requires.width in
    let load : SFits w128 c.in_ok-put_first_row.field-0 = search rules in
    let rest : SFits w128 c.in_ok-rest.rest = search rules in
    record {
      widths = widths_put (length right) row.put long i.widths;
      unfit = unfit_put row.put i.unfit;
      rest = rest_more right c.loop-i.i (to_z w128 c.loop-i.rest-bits) (to_z w128 (of_z w128 c.in_ok-rest.rest))
          c.in_ok-put_first_row.field-0 i.rest row.load (cc (
            to_z-of_z load,
            to_z-of_z rest,
            c.in_ok-rest.ensures.1,
          ));
      rows = rows_more row.put (load_at right) i.rows row.row;
    }
