use Rattle.std.proofs.Common.{◌<◌, sym, ap, ◌∙◌, ℕ, eqb, List, [], length, arith, ℤ, subst₂, true}
use Rattle.stack_rational.proofs.Common.{length_push}
use Rattle.stack_table.specs.declared.problem.Entry.{Entry}
use Rattle.stack_table.specs.Lent.{factor_entries, entries_at}
use Rattle.stack_inverse.specs.declared.columns.Cell.{Cell}
use Rattle.stack_inverse.specs.declared.columns.FirstColumn.{FirstColumn}
use Rattle.stack_inverse.specs.Columns.{cells_at}
use Rattle.stack_inverse.specs.FirstTable.{HasCosts}
use Rattle.stack_inverse.proofs.Grown.{grown_by}
use Rattle.stack_inverse.proofs.TurnedColumns.{contact_has, factor_has}
use Rattle.stack_inverse.proofs.building.plain_columns.Goals as goal

pub returns-in-None-clause-columns : goal.returns-in-None-clause-columns
returns-in-None-clause-columns c = λ j l.
    let P = c.args.p.now in
    let told = c.in_ok-columns.ensures in
    let lt : j < length P.contact.items = omega (arith, l, told.long) in
    contact_has P (cells_at c.in_ok-columns.columns.items j) c.requires.right_long j lt (told.costs j lt)

pub returns-in_ok-push-in-Some-clause-columns : goal.returns-in_ok-push-in-Some-clause-columns
returns-in_ok-push-in-Some-clause-columns c = λ j l.
    let P = c.args.p.now in
    let old = c.in_ok-columns.columns.items in
    let told = c.in_ok-columns.ensures in
    let new = c.in_ok-push-in-Some.ensures.items in
    let cells = c.in_ok-cells-in-Some.cells.items in
    let entries = c.as_slice.ensures.value ∙ ap factor_entries (sym c.in-Some.is) in
    grown_by (λ (x : FirstColumn). x.cells.items) [] (λ (k : ℕ) (cs : List Cell). HasCosts P.rows P.right.items
    (eqb k (length P.contact.items)) (entries_at P k) cs) old c.push.new.self.items _ (length P.contact.items) new
    told.long (λ k b. contact_has P (cells_at old k) c.requires.right_long k b (told.costs k b))
    (factor_has P cells c.requires.right_long (subst₂ (λ (right : List ℤ) (es : List Entry).
    HasCosts (length right) right true es cells) c.as_slice-in-Some.ensures.value entries
    c.in_ok-cells-in-Some.ensures)) j
    (omega (arith, l, ap length new ∙ length_push old _, told.long))
