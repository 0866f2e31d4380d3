use Rattle.std.proofs.Common.{ap, ◌∙◌, ◌≤◌, unsigned_abs, arith, rules, SFits, to_z-of_z}
use borrow.Author.Count.{below_more}
use Rattle.stack_rational.proofs.Common.{w128}
use Rattle.stack_rows.specs.EntriesSeen.{entries_of}
use Rattle.stack_rows.specs.RowSeen.{numbers_of}
use Rattle.stack_inverse.specs.Columns.{number_with}
use Rattle.stack_inverse.proofs.Made.{all_within}
use Rattle.stack_inverse.proofs.making.top_in.Goals as goal

pub loop-j-preserved : goal.loop-j-preserved
loop-j-preserved c =
    let f = c.args.first.now in
    let i = c.loop-j.invariant in
    let more = c.larger-top-in-loop-j.ensures in
    let fits : SFits w128 c.in_ok-row_number.field-0 = search rules in
    record {
      cells = λ k. omega (arith, i.cells k, more.own);
      made = below_more (λ k. unsigned_abs (number_with f.rows f.columns.items (numbers_of c.args.row.now) k)
          ≤ c.larger-top-in-loop-j.result) c.loop-j.j (λ k l. omega (arith, i.made k l, more.own)) (omega (
            arith,
            more.other,
            c.unsigned_abs.ensures.value,
            ap unsigned_abs (to_z-of_z fits ∙ c.in_ok-row_number.ensures),
          ));
    }

pub loop-j-init : goal.loop-j-init
loop-j-init c =
    let r = c.args.row.now in
    let right : SFits w128 r.right = search rules in
    record {
      cells = all_within (entries_of r.entries) r.right r.top c.larger-top.result r.topped c.larger-top.ensures.own
          (omega (arith, ap unsigned_abs (to_z-of_z right), c.unsigned_abs.ensures.value, c.larger-top.ensures.other));
      made = λ k l. absurd (omega (arith, l));
    }
