use Rattle.std.proofs.Common.{◌≡◌, ◌≢◌, sym, subst, ◌<◌, pos, ℕ, Bool, subst₂, OnOk}
use Rattle.stack_rational.proofs.Common.{Fraction, ordered_fractions, is_too_wide}
use Rattle.stack_table.specs.Table.{Shape, Tabled, plain, pivoted_at}
use Rattle.stack_table.specs.Spots.{pivot_spot}
use Rattle.stack_tableau.specs.Tells.{TellsPivot}
use Rattle.stack_tableau.proofs.phases.driven_pivot.Goals as goal

pub due_pivot-requires : goal.due_pivot-requires
due_pivot-requires g c = record {
  row_in = subst (λ (S : Shape). c.args.row < S.rows) (sym c.in-Some.ensures.shape) c.requires.row_in;
  column_in = subst (λ (S : Shape). c.args.column < plain S) (sym c.in-Some.ensures.shape) c.requires.column_in;
  cell = subst (λ (T : Tabled Fraction). (T.cell c.args.row c.args.column).num ≢ pos 0)
      (sym c.in-Some.ensures.table) c.requires.cell;
  at_hand = c.in-Some.ensures.at_hand;
}

pub returns-in-Some-clause-shape : goal.returns-in-Some-clause-shape
returns-in-Some-clause-shape g c = subst (λ (S : Shape). OnOk c.due_pivot.result
    (g.T.Tableau.shape c.due_pivot.new.t ≡ S)) c.in-Some.ensures.shape c.due_pivot.ensures.shape

pub returns-in-Some-clause-flips : goal.returns-in-Some-clause-flips
returns-in-Some-clause-flips g c = subst (λ (f : ℕ → Bool). OnOk c.due_pivot.result
    (g.T.Tableau.flips c.due_pivot.new.t ≡ f)) c.in-Some.ensures.flips c.due_pivot.ensures.flips

pub returns-in-Some-clause-table : goal.returns-in-Some-clause-table
returns-in-Some-clause-table g c = subst₂ (λ (S : Shape) (T : Tabled Fraction). OnOk c.due_pivot.result
    (g.T.Tableau.table c.due_pivot.new.t ≡ pivoted_at ordered_fractions S T c.args.row c.args.column))
    c.in-Some.ensures.shape c.in-Some.ensures.table c.due_pivot.ensures.table

pub returns-in-Some-clause-counted : goal.returns-in-Some-clause-counted
returns-in-Some-clause-counted g c = subst₂
    (λ (S : Shape) (T : Tabled Fraction). TellsPivot g.T.Tableau.settles c.due_pivot.result 2
    c.args.pivots (pivot_spot ordered_fractions (is_too_wide g.T.Tableau.MAX) S T c.args.row c.args.column))
    c.in-Some.ensures.shape c.in-Some.ensures.table c.due_pivot.ensures.counted
