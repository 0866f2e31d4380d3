use Rattle.std.proofs.Common.{◌≡◌, ◌+◌, sym, ap, subst, ◌∙◌, ℕ, suc, List, length, cond, false, true, arith}
use Rattle.std.proofs.Common.{ℤ, subst₂}
use Rattle.stack_rational.proofs.Common.{with_items, ordered_fractions, changed}
use Rattle.stack_table.specs.Table.{plain}
use Rattle.stack_table.specs.Block.{shape_of}
use Rattle.stack_table.specs.Lent.{problem_of}
use Rattle.stack_table.specs.WrittenTable.{first_row, first_objective}
use Rattle.stack_inverse.specs.declared.row.TableRow.{TableRow}
use Rattle.stack_inverse.specs.Columns.{multipliers, AreFactorCosts, HaveWidths, revised_cell}
use Rattle.stack_inverse.specs.RowsSeen.{seen_at}
use Rattle.stack_inverse.specs.FirstTable.{AreFilled}
use Rattle.stack_inverse.specs.RowsSeen.{number_in_row}
use Rattle.stack_inverse.specs.Marks.{least_negative}
use Rattle.stack_inverse.specs.Marking.{AreMarks}
use Rattle.stack_bland.specs.Found.{TellsFound}
use Rattle.stack_inverse.proofs.PutRow.{written, written_long, seen_past}
use Rattle.stack_inverse.proofs.FirstTables.{first_cell, first_basics, factor_is}
use Rattle.stack_inverse.proofs.TurnedColumns.{factor_costs}
use Rattle.stack_inverse.proofs.revised_table.RevisedTable.of_problem.Goals as goal

pub invariant_of-result : goal.invariant_of-result
invariant_of-result c =
    let P = c.args.p.now in
    let F = c.in_ok-first.first in
    let C = F.columns.items in
    let rows = c.in_ok-rows.rows in
    let new = c.fill.new.rows in
    let kept = c.as_mut_slice.ensures.value in
    let is = sym (written rows new kept c.fill.auto.rows) in
    let few : F.rows ≡ P.rows = c.in_ok-first.ensures.rows in
    let wide : c.width_of-width.result ≡ suc (multipliers F.rows) =
    c.width_of-width.ensures ∙ ap (λ n. suc (multipliers n)) (sym few) in
    let long : length c.as_slice.result.now ≡ F.rows =
    ap length c.as_slice.ensures.value ∙ c.requires.right_long ∙ sym few in
    let contacts : c.len-2.result ≡ length P.contact.items = c.len-2.ensures ∙ P.contact.ok.0 in
    let count : length C ≡ plain (shape_of F.rows c.len-2.result c.is_some.result) =
    c.in_ok-first.ensures.long ∙ sym (λ z. contacts z
    + (ap (λ b. cond b 1 0) c.is_some.ensures ∙ factor_is P.factor) z) in
    let height = written_long rows new kept c.fill.auto.rows ∙ c.in_ok-rows.ensures.height
    ∙ omega (arith, few) in
    let lent = c.as_slice-2.ensures.value in
    record {
      plain_count = count;
      costs = subst₂ (λ m n. AreFactorCosts m C n) (sym few) (sym contacts)
          (factor_costs P c.requires C c.in_ok-first.ensures.columns);
      height = height;
      widths = subst₂ (λ (m : ℕ) (rs : List TableRow). HaveWidths m (seen_at rs)) long is c.in_ok-fill.ensures.widths;
      fitting = λ i e. let b : false ≡ true = sym (subst (λ (rs : List TableRow). (i : ℕ) → (seen_at rs i).fits ≡ false)
          is c.in_ok-fill.ensures.unfit i) ∙ e in absurd cc;
      room = c.in_ok-zeros.ensures.width ∙ wide;
      one_number = written_long c.in_ok-entered.entered c.fill.new.numbers c.as_mut_slice-2.ensures.value
          c.fill.auto.numbers ∙ c.in_ok-entered.ensures ∙ omega (arith, few);
      marks = subst (λ (rs : List TableRow). AreMarks F (seen_at rs) c.least_negative-least.new.self) lent
          c.least_negative-least.ensures.marks;
      found = subst (λ (rs : List TableRow). TellsFound c.least_negative-least.result (least_negative
          (number_in_row F (seen_at rs F.rows)) (length C))) lent c.least_negative-least.ensures.found;
      basics = c.in_ok-basic.ensures.long ∙ sym few;
      basics_in = λ i l. omega (
        arith,
        c.in_ok-basic.ensures.each i (omega (arith, l, few)),
        c.len.ensures ∙ F.columns.ok.0 ∙ count,
        l,
      );
    }

pub least_negative-least-requires-clause-height : goal.least_negative-least-requires-clause-height
least_negative-least-requires-clause-height c =
    let rows = c.in_ok-rows.rows in
    ap length c.as_slice-2.ensures.value
    ∙ written_long rows c.fill.new.rows c.as_mut_slice.ensures.value c.fill.auto.rows
    ∙ c.in_ok-rows.ensures.height ∙ omega (arith, c.in_ok-first.ensures.rows)

pub least_negative-least-requires-clause-marks : goal.least_negative-least-requires-clause-marks
least_negative-least-requires-clause-marks c =
    let P = c.args.p.now in
    let rows = c.in_ok-rows.rows in
    let new = c.fill.new.rows in
    let is = sym (written rows new c.as_mut_slice.ensures.value c.fill.auto.rows) in
    let filled : AreFilled P.rows P.right.items (seen_at new) =
    subst₂ (λ (m : ℕ) (right : List ℤ). AreFilled m right (seen_at new))
    (ap length c.as_slice.ensures.value ∙ c.requires.right_long) c.as_slice.ensures.value c.in_ok-fill.ensures.filled in
    c.in_ok-marking.ensures P.right.items (seen_at c.as_slice-2.result.now)
    (subst₂ (λ (m : ℕ) (rs : List TableRow). AreFilled m P.right.items (seen_at rs)) (sym c.in_ok-first.ensures.rows)
    (is ∙ sym c.as_slice-2.ensures.value) filled)

pub returns-clause-ok : goal.returns-clause-ok
returns-clause-ok c =
    let P = c.args.p.now in
    let F = c.in_ok-first.first in
    let C = F.columns.items in
    let rows = c.in_ok-rows.rows in
    let new = c.fill.new.rows in
    let same = c.fill.auto.rows ∙ ap length c.as_mut_slice.ensures.value ∙ c.in_ok-rows.ensures.height in
    let is = written rows new c.as_mut_slice.ensures.value c.fill.auto.rows in
    let few : F.rows ≡ P.rows = c.in_ok-first.ensures.rows in
    let filled : AreFilled P.rows P.right.items (seen_at new) =
    subst₂ (λ (m : ℕ) (right : List ℤ). AreFilled m right (seen_at new))
    (ap length c.as_slice.ensures.value ∙ c.requires.right_long) c.as_slice.ensures.value c.in_ok-fill.ensures.filled in
    let cells : (i j : ℕ) → revised_cell F.rows C (seen_at (with_items rows new).items) i j
    ≡ changed (first_row ordered_fractions (problem_of P)) P.rows
    (first_objective ordered_fractions (problem_of P)) i j =
    λ i j. (λ z. revised_cell (few z) C (seen_at (is z)) i j)
    ∙ first_cell P c.requires C (seen_at new) c.in_ok-first.ensures.long c.in_ok-first.ensures.columns
    (λ k l. seen_past new (suc P.rows) k (omega (arith, same)) (omega (arith, l))) filled i j in
    let basics = first_basics P c.in_ok-basic.basic.items c.in_ok-basic.ensures.long
    (λ i l. c.in_ok-basic.ensures.each i l
    ∙ ap (λ n. n + i) (c.len.ensures ∙ F.columns.ok.0 ∙ c.in_ok-first.ensures.long)) in
    λ z. record { cell = λ i j. cells i j z; basic = λ i. basics i z }
