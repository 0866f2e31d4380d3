use Rattle.std.proofs.Common.{arith}
use Rattle.stack_rational.proofs.Common.{ordered_fractions}
use Rattle.stack_table.specs.Table.{columns}
use Rattle.stack_table.specs.WrittenTable.{first_row, written_table}
use Rattle.stack_run.proofs.Begins.{first_table}
use Rattle.stack_run.proofs.Circles.{short}
use Rattle.stack_run.proofs.LastTables.{run_short}
use Rattle.stack_run.proofs.FewPivots.{enough}
use Rattle.stack_run.proofs.Budgets.{enough-is}
use Rattle.stack_run.proofs.circle_laws.budget_law.Goals as goal

pub returns-clause-phases : goal.returns-clause-phases
returns-clause-phases c = λ P rule budget. short ordered_fractions P.shape rule (first_row ordered_fractions P)
    budget (written_table ordered_fractions P) (first_table ordered_fractions P)

pub returns-clause-runs : goal.returns-clause-runs
returns-clause-runs c = λ P rule budget. run_short ordered_fractions P.shape rule (first_row ordered_fractions P)
    budget (written_table ordered_fractions P) (first_table ordered_fractions P)

pub returns-clause-budget : goal.returns-clause-budget
returns-clause-budget c = λ P rule budget l. enough ordered_fractions P.shape rule (first_row ordered_fractions P)
    budget (written_table ordered_fractions P) (first_table ordered_fractions P) l

pub returns-clause-enough : goal.returns-clause-enough
returns-clause-enough c = λ P rule budget b e l. enough ordered_fractions P.shape rule
    (first_row ordered_fractions P) budget (written_table ordered_fractions P) (first_table ordered_fractions P)
    (omega (arith, l, enough-is (columns P.shape) b e))
