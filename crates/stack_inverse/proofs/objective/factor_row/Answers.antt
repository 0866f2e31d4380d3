use Rattle.std.proofs.Common.{◌≡◌, ℕ, sym, ap, subst, ◌∙◌, ◌+◌, ◌<◌, suc, add-one, length, set, slice_index_or, arith}
use Rattle.std.proofs.Common.{rules, SFits, to_z, of_z, to_z-of_z, Option, ◌+ℤ◌}
use Rattle.stack_rational.proofs.Common.{w128}
use Rattle.stack_rows.specs.RowForm.{number_at}
use Rattle.stack_inverse.specs.Columns.{RowSeen, IsFactorRow}
use Rattle.stack_inverse.specs.RowsSeen.{seen_at, number_in_row}
use Rattle.stack_inverse.proofs.PutRow.{seen_index, seen_get}
use Rattle.stack_inverse.proofs.ObjectivePut.{costs_added}
use Rattle.stack_inverse.proofs.objective.factor_row.Goals as goal

pub copy_numbers-requires : goal.copy_numbers-requires
copy_numbers-requires c =
    let r = c.in-Some.r in
    let m = c.args.first.now.rows in
    let lt : r < m = search rules in
    c.requires.width ∙ sym (ap (λ (s : RowSeen). length s.numbers) (seen_index c.args.rows.now r
    c.index-rows-r-in-Some.result (omega (arith, lt, c.requires.height)) c.index-rows-r-in-Some.is)
    ∙ c.requires.widths r (omega (arith, lt)))

pub returns-then-cell-under-clause-ok : goal.returns-then-cell-under-clause-ok
returns-then-cell-under-clause-ok c =
    let f = c.args.first.now in
    let m = f.rows in
    let rows = c.args.rows.now in
    let r = c.in-Some.r in
    let lt : r < m = search rules in
    let inside : r < length rows = omega (arith, lt, c.requires.height) in
    let read = seen_index rows r c.index-rows-r-in-Some-2.result inside c.index-rows-r-in-Some-2.is in
    let row = (slice_index_or rows r c.index-rows-r-in-Some-2.result).row in
    let ys = c.copy_numbers.new.numbers in
    let same : ys ≡ (seen_at rows r).numbers = c.copy_numbers.ensures
    ∙ ap (λ (s : RowSeen). s.numbers) (seen_index rows r c.index-rows-r-in-Some.result inside
    c.index-rows-r-in-Some.is) in
    let under : SFits w128 row.under = search rules in
    let sum : SFits w128 c.in_ok-numbers-in-Some.field-0 = search rules in
    let number : SFits w128 (number_at ys (m + 1)) = search rules in
    let y = to_z w128 (of_z w128 c.in_ok-numbers-in-Some.field-0) in
    let added : y ≡ number_at ys (m + 1) +ℤ row.under = cc (
      to_z-of_z sum,
      to_z-of_z number,
      to_z-of_z under,
      c.in_ok-numbers-in-Some.ensures.1,
    ) in
    let cell : c.in_ok-cell-in-Some.cell ≡ row.under = search rules in
    subst (λ (o : Option ℕ). IsFactorRow m f.columns.items (seen_at rows) c.args.column o (set ys (m + 1) y)
    (to_z w128 (of_z w128 row.under))) (sym c.in-Some.is) (
      costs_added (seen_at rows r).numbers ys (set ys (m + 1) y) (suc m) y (seen_at rows r).under same
          (omega (arith, ap length same, c.requires.widths r (omega (arith, lt))))
          (added ∙ (λ z. number_at ys (add-one m z) +ℤ (read z).under)) (λ z. set ys (add-one m z) y),
      to_z-of_z under ∙ ap (λ (s : RowSeen). s.under) read,
      sym (ap (λ (s : RowSeen). number_in_row f s c.args.column) (seen_get rows r c.index-rows-r.result inside
          c.index-rows-r.is)) ∙ sym c.in_ok-cell-in-Some.ensures ∙ cell ∙ ap (λ (s : RowSeen). s.under) read,
    )
