use Rattle.std.proofs.Common.{◌≡◌, sym, ap, ◌∙◌, ℕ, ◌<◌, length, get_or, List, Option, ℤ, eqb}
use Rattle.std.proofs.Common.{arith, subst₂, rules, SFits, to_z, of_z, to_z-of_z}
use Rattle.stack_rational.proofs.Common.{w128}
use Rattle.stack_rational.proofs.Common.{with_items, ordered_fractions, least}
use Rattle.stack_table.specs.Table.{factor_row}
use Rattle.stack_inverse.specs.declared.row.TableRow.{TableRow}
use Rattle.stack_inverse.specs.Columns.{IsFactorRow, revised_cell}
use Rattle.stack_inverse.specs.RowsSeen.{seen_at}
use Rattle.stack_inverse.proofs.PutRow.{written, under_positive}
use Rattle.stack_inverse.proofs.ObjectivePut.{factor_is, found_below}
use Rattle.stack_inverse.proofs.revised_table.RevisedTable.set_factor_objective.Goals as goal

pub factor_row-requires-clause-row_in : goal.factor_row-requires-clause-row_in
factor_row-requires-clause-row_in c =
    let s = c.args.self.now in
    found_below (length c.as_slice.result.now) (λ r. eqb (get_or c.as_slice.result.now r 0) s.contacts)
    c.row_with-row.result c.row_with-row.ensures (λ r. r < s.first.rows)
    (λ r l. omega (arith, l, ap length c.as_slice.ensures.value, s.basics))

pub returns-clause-ok : goal.returns-clause-ok
returns-clause-ok c =
    let s = c.args.self.now in
    let m = s.first.rows in
    let C = s.first.columns.items in
    let row = (with_items s.entered c.factor_row.new.numbers).items in
    let under = to_z w128 (of_z w128 c.in_ok-under.under) in
    let old = revised_cell m C (seen_at s.rows.items) in
    let o = least m (λ r. eqb (get_or s.basic.items r 0) s.contacts) in
    let found : c.row_with-row.result ≡ o = c.row_with-row.ensures
    ∙ (λ z. least ((ap length c.as_slice.ensures.value ∙ s.basics) z)
    (λ r. eqb (get_or (c.as_slice.ensures.value z) r 0) s.contacts)) in
    let fits : SFits w128 c.in_ok-under.under = search rules in
    let factor : IsFactorRow m C (seen_at s.rows.items) s.contacts o row under =
    subst₂ (λ (rs : List TableRow) (d : ℤ). IsFactorRow m C (seen_at rs) s.contacts o row d)
    c.as_slice-2.ensures.value (sym (to_z-of_z fits))
    (subst₂ (λ (x : Option ℕ) (xs : List ℤ). IsFactorRow m C (seen_at c.as_slice-2.result.now)
    s.contacts x xs c.in_ok-under.under) found (sym (written s.entered c.factor_row.new.numbers
    c.as_mut_slice.ensures.value c.factor_row.auto.numbers)) c.in_ok-under.ensures.ok) in
    c.put_objective.ensures.table (factor_row ordered_fractions old s.contacts o)
    (factor_is m C (seen_at s.rows.items) row under s.contacts (omega (arith, s.plain_count, c.requires))
    (under_positive s.rows.items) s.costs o factor)
