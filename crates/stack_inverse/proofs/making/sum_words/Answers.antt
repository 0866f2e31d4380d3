use Rattle.std.proofs.Common.{◌≡◌, ap, subst, ◌∙◌, ◌<◌, length, rules, get_or, pos, ◌+ℤ◌, ◌*ℤ◌, SFits, w64, to_z}
use Rattle.std.proofs.Common.{to_z-of_z, arith, ℤ, negsuc, unsigned_abs, ◌≤◌, ◌^◌}
use Rattle.std.specs.Int.{int_wrap}
use Rattle.std.proofs.lemmas.Int.{wrapping_add_onto}
use Rattle.std.proofs.lemmas.List.{get_or_default}
use Rattle.std.proofs.lemmas.List.Elements.{AllWithin-more}
use Rattle.stack_rational.proofs.Common.{w128, ints}
use Rattle.stack_rows.specs.RowForm.{number_at}
use Rattle.stack_inverse.specs.declared.columns.Cell.{Cell}
use Rattle.stack_inverse.proofs.WrappedSums.{one_wrapped, all_wrapped}
use Rattle.stack_inverse.proofs.making.sum_words.Goals as goal

-- the size of a word
size : (z : ℤ) → SFits w64 z → unsigned_abs z ≤ 2 ^ 63
size (pos n) f = omega (arith, f.sfits)
size (negsuc n) f = omega (arith, ints, f.sfits)

pub loop-cell-preserved : goal.loop-cell-preserved
loop-cell-preserved c =
    let xs = c.args.words.now in
    let k = c.loop-cell.cell-index in
    let d : Cell = record { row = 0; value = pos 0 } in
    let x = get_or c.args.cells.now k d in
    let f = λ (x : Cell). number_at xs x.row *ℤ x.value in
    let sum = to_z w128 c.loop-cell.sum-bits in
    let fits : SFits w128 c.product_of-sum.result = search rules in
    let number : SFits w64 (number_at xs x.row) = search rules in
    let value : SFits w64 x.value = search rules in
    let product : c.product_of-sum.result ≡ f x = cc (
      to_z-of_z number,
      to_z-of_z value,
      c.product_of-sum.ensures,
    ) in
    let bound : x.row < length xs = omega (arith, c.if-cell-words.false) in (
      one_wrapped f c.args.cells.now k d sum _ _ c.loop-cell-test.true (wrapping_add_onto w128 c.loop-cell.sum-bits
          c.product_of-sum.result c.loop-cell.auto.sum.fits fits ∙ ap (λ z. int_wrap w128 (sum +ℤ z)) product)
          c.loop-cell.invariant.0,
      AllWithin-more (λ x. x.row < length xs) c.args.cells.now 0 k c.loop-cell.invariant.1 (λ e.
          subst (λ y. y.row < length xs) (get_or_default c.args.cells.now k d e c.loop-cell-test.true) bound),
      AllWithin-more (λ x. unsigned_abs (number_at xs x.row) ≤ 2 ^ 63) c.args.cells.now 0 k c.loop-cell.invariant.2
          (λ e. subst (λ y. unsigned_abs (number_at xs y.row) ≤ 2 ^ 63)
          (get_or_default c.args.cells.now k d e c.loop-cell-test.true) (size (number_at xs x.row) number)),
    )

pub returns-clause-wrapped : goal.returns-clause-wrapped
returns-clause-wrapped c = all_wrapped _ c.args.cells.now c.loop-cell.cell-index _ (search rules) c.loop-cell-test.false
    c.loop-cell.invariant.0
