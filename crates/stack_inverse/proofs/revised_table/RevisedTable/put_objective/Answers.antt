use Rattle.std.proofs.Common.{ap, subst, subst₂, ◌∙◌, length, List, ℤ, SFits, to_z-of_z, rules}
use Rattle.stack_rational.proofs.Common.{with_items, w128}
use Rattle.stack_bland.specs.Found.{TellsFound}
use Rattle.stack_inverse.specs.declared.row.TableRow.{TableRow}
use Rattle.stack_inverse.specs.RowsSeen.{seen_at, number_in_row}
use Rattle.stack_inverse.specs.Marks.{least_negative}
use Rattle.stack_inverse.specs.Marking.{AreMarks}
use Rattle.stack_inverse.proofs.ObjectivePut.{HaveObjective, objective_written}
use Rattle.stack_inverse.proofs.revised_table.RevisedTable.put_objective.Goals as goal
use Rattle.stack_inverse.proofs.revised_table.RevisedTable.put_objective.Goals.{After-reopen}

-- the rows with the new objective row
put : (c : After-reopen) → HaveObjective c.args.self.now c.args.self.now.entered.items c.args.under
    (with_items c.args.self.now.rows c.put_row.new.rows).items
put c =
    let s = c.args.self.now in
    let fits : SFits w128 c.args.under = search rules in
    subst₂ (λ (row : List ℤ) (d : ℤ). HaveObjective s row d (with_items s.rows c.put_row.new.rows).items)
    c.as_slice.ensures.value (to_z-of_z fits)
    (objective_written s c.put_row.new.rows c.as_mut_slice.ensures.value c.put_row.auto.rows
    (ap length c.as_slice.ensures.value ∙ s.one_number) c.put_row.ensures)

-- and their marks
marks : (c : After-reopen) → AreMarks c.args.self.now.first
    (seen_at (with_items c.args.self.now.rows c.put_row.new.rows).items) c.reopen.new.self
marks c = c.reopen.ensures _ _ _ (put c).same c.args.self.now.marks

pub invariant_of-self-clause-height : goal.invariant_of-self-clause-height
invariant_of-self-clause-height c = (put (goal.at.invariant_of-self-clause-height c).After-reopen).height

pub invariant_of-self-clause-widths : goal.invariant_of-self-clause-widths
invariant_of-self-clause-widths c = (put (goal.at.invariant_of-self-clause-widths c).After-reopen).widths

pub invariant_of-self-clause-fitting : goal.invariant_of-self-clause-fitting
invariant_of-self-clause-fitting c = (put (goal.at.invariant_of-self-clause-fitting c).After-reopen).fitting

pub returns-clause-table : goal.returns-clause-table
returns-clause-table c = (put (goal.at.returns-clause-table c).After-reopen).table

pub least_negative-self-requires-clause-height : goal.least_negative-self-requires-clause-height
least_negative-self-requires-clause-height c =
    rw c.as_slice-2.ensures.value (put (goal.at.least_negative-self-requires-clause-height c).After-reopen).height

pub least_negative-self-requires-clause-marks : goal.least_negative-self-requires-clause-marks
least_negative-self-requires-clause-marks c =
    rw c.as_slice-2.ensures.value (marks (goal.at.least_negative-self-requires-clause-marks c).After-reopen)

pub invariant_of-self-clause-marks : goal.invariant_of-self-clause-marks
invariant_of-self-clause-marks c =
    subst (λ (rs : List TableRow). AreMarks c.args.self.now.first (seen_at rs) c.least_negative-self.new.self)
    c.as_slice-2.ensures.value c.least_negative-self.ensures.marks

pub invariant_of-self-clause-found : goal.invariant_of-self-clause-found
invariant_of-self-clause-found c =
    let f = c.args.self.now.first in
    subst (λ (rs : List TableRow). TellsFound c.least_negative-self.result (least_negative
    (number_in_row f (seen_at rs f.rows)) (length f.columns.items)))
    c.as_slice-2.ensures.value c.least_negative-self.ensures.found
