use Rattle.std.proofs.Common.{◌≡◌, None}
use Rattle.stack_rational.proofs.Common.{first, ordered_fractions, is_too_wide}
use Rattle.stack_bland.specs.Choice.{ratio, ratio_item, best}
use Rattle.stack_tableau.specs.Best.{HoldsBest}
use Rattle.stack_tableau.proofs.choices.leaving.Given as goal

abbrev pub invariant-loop-i : goal.invariant-loop-i
invariant-loop-i g l =
    let S = g.T.Tableau.shape l.t in
    let T = g.T.Tableau.table l.t in
    record {
      none : first l.i (ratio_item ordered_fractions S (is_too_wide g.T.Tableau.MAX) T l.column) ≡ None;
      held : HoldsBest g.T.Tableau.ratio (ratio ordered_fractions S T l.column) l.i l.best
          (best ordered_fractions (λ i. T.cell i l.column)
          (ratio ordered_fractions S T l.column) T.basic l.i);
    }
