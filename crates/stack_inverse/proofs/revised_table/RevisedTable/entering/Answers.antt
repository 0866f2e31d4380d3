use Rattle.std.proofs.Common.{◌≡◌, ℕ, ◌≤◌, length, subst, arith}
use Rattle.stack_rational.proofs.Common.{sign_of}
use Rattle.stack_bland.specs.declared.found.Found.{Found}
use Rattle.stack_bland.specs.Found.{TellsFound}
use Rattle.stack_bland.specs.Choice.{is_negative_sign}
use Rattle.stack_inverse.specs.declared.revised_table.RevisedTable.{RevisedTable}
use Rattle.stack_inverse.specs.Marks.{least_negative}
use Rattle.stack_inverse.specs.Seen.{number_in}
use Rattle.stack_inverse.proofs.LeastNegative.{none_among, some_among, none_left}
use Rattle.stack_inverse.proofs.revised_table.RevisedTable.entering.Goals as goal
use Rattle.stack_inverse.proofs.revised_table.RevisedTable.entering.Goals.{Start}

-- what is kept of the objective row
kept : (t : RevisedTable) (r : Found ℕ) → t.least ≡ r →
    TellsFound r (least_negative (number_in t t.first.rows) (length t.first.columns.items))
kept t r e = subst (λ r. TellsFound r (least_negative (number_in t t.first.rows)
    (length t.first.columns.items))) e t.found

-- no more columns are asked for than are plain
few : (c : Start) → c.args.among ≤ length c.args.self.now.first.columns.items
few c = omega (arith, c.requires, c.args.self.now.plain_count)

pub returns-in-This-clause-value : goal.returns-in-This-clause-value
returns-in-This-clause-value c =
    let t = c.args.self.now in
    some_among _ c.args.among (λ j. is_negative_sign (sign_of (number_in t t.first.rows j)))
    (few (goal.at.returns-in-This-clause-value c).Start) c.in-This.column c.if-column-among.true (kept t _ c.in-This.is)

pub returns-in-This-2-clause-value : goal.returns-in-This-2-clause-value
returns-in-This-2-clause-value c =
    let t = c.args.self.now in
    none_left _ c.args.among (λ j. is_negative_sign (sign_of (number_in t t.first.rows j)))
    (few (goal.at.returns-in-This-2-clause-value c).Start) c.in-This.column (omega (arith, c.if-column-among.false))
    (kept t _ c.in-This.is)

pub returns-in-Nothing-clause-value : goal.returns-in-Nothing-clause-value
returns-in-Nothing-clause-value c =
    let t = c.args.self.now in
    none_among _ c.args.among (λ j. is_negative_sign (sign_of (number_in t t.first.rows j)))
    (few (goal.at.returns-in-Nothing-clause-value c).Start) (kept t _ c.in-Nothing.is)
