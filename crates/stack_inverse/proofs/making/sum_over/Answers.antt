use Rattle.std.proofs.Common.{◌≡◌, subst, ◌<◌, length, rules, get_or, pos, ◌+ℤ◌, ◌*ℤ◌, SFits, w64, to_z, of_z}
use Rattle.std.proofs.Common.{to_z-of_z, arith}
use Rattle.std.proofs.lemmas.List.{get_or_default}
use Rattle.std.proofs.lemmas.List.Elements.{AllWithin-more}
use Rattle.stack_rational.proofs.Common.{w128, sum_of}
use Rattle.stack_rows.specs.RowForm.{number_at}
use Rattle.stack_rows.specs.EntriesSeen.{entries_of}
use Rattle.stack_inverse.specs.declared.columns.Cell.{Cell}
use Rattle.stack_inverse.proofs.Made.{one_more}
use Rattle.stack_inverse.proofs.making.sum_over.Goals as goal

pub loop-cell-preserved : goal.loop-cell-preserved
loop-cell-preserved c =
    let xs = entries_of c.args.entries.now in
    let k = c.loop-cell.cell-index in
    let d : Cell = record { row = 0; value = pos 0 } in
    let x = get_or c.args.cells.now k d in
    let before = to_z w128 c.loop-cell.sum-bits in
    let sum : SFits w128 c.in_ok-sum.sum = search rules in
    let number : SFits w128 c.at.result = search rules in
    let value : SFits w64 x.value = search rules in
    let here : to_z w128 (of_z w128 c.in_ok-sum.sum) ≡ before +ℤ number_at xs x.row *ℤ x.value = cc (
      to_z-of_z sum,
      to_z-of_z number,
      to_z-of_z value,
      c.at.ensures,
      c.in_ok-sum.ensures,
    ) in
    let f = λ (x : Cell). number_at xs x.row *ℤ x.value in
    let bound : x.row < length xs = omega (arith, c.if-cell-count.false, c.count-count.ensures.count) in (
      one_more f c.args.cells.now k d before _ (sum_of f c.args.cells.now) c.loop-cell-test.true here
          c.loop-cell.invariant.0,
      AllWithin-more (λ x. x.row < length xs) c.args.cells.now 0 k c.loop-cell.invariant.1 (λ e.
          subst (λ y. y.row < length xs) (get_or_default c.args.cells.now k d e c.loop-cell-test.true) bound),
    )
