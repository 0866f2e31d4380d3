use Rattle.stack_rational.proofs.Common.{ordered_fractions}
use Rattle.stack_bland.specs.Choice.{ratio}
use Rattle.stack_run.proofs.BestRow.{best-none, best-some}
use Rattle.stack_run.proofs.end_laws.leaving_law.Goals as goal

pub returns-clause-row : goal.returns-clause-row
returns-clause-row c = λ S T k r.
    best-some ordered_fractions (λ i. T.cell i k) (ratio ordered_fractions S T k) T.basic S.rows r

pub returns-clause-none : goal.returns-clause-none
returns-clause-none c = λ S T k.
    best-none ordered_fractions (λ i. T.cell i k) (ratio ordered_fractions S T k) T.basic S.rows
