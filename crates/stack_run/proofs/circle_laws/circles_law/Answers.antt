use Rattle.stack_rational.proofs.Common.{ordered_fractions}
use Rattle.stack_table.specs.WrittenTable.{first_row, written_table}
use Rattle.stack_run.proofs.Begins.{first_table}
use Rattle.stack_run.proofs.Circles.{set_recurs, same_list, each_pivot}
use Rattle.stack_run.proofs.Turning.{run_goes_on}
use Rattle.stack_run.proofs.LastTables.{last_reached}
use Rattle.stack_run.proofs.circle_laws.circles_law.Goals as goal

pub returns-clause-sets : goal.returns-clause-sets
returns-clause-sets c = λ P rule budget. set_recurs ordered_fractions P.shape rule (first_row ordered_fractions P)
    budget (written_table ordered_fractions P) (first_table ordered_fractions P)

pub returns-clause-lists : goal.returns-clause-lists
returns-clause-lists c = λ P rule budget p d e T U s t l h.
    set_recurs ordered_fractions P.shape rule (first_row ordered_fractions P) budget
    (written_table ordered_fractions P) (first_table ordered_fractions P) p d e T U s t l
    (same_list P.shape.rows T.basic U.basic h)

pub returns-clause-run : goal.returns-clause-run
returns-clause-run c = λ P rule budget.
    run_goes_on ordered_fractions P.shape rule budget (written_table ordered_fractions P)

pub returns-clause-last : goal.returns-clause-last
returns-clause-last c = λ P rule budget.
    last_reached ordered_fractions P.shape rule (first_row ordered_fractions P) budget
    (written_table ordered_fractions P) (first_table ordered_fractions P)

pub returns-clause-second : goal.returns-clause-second
returns-clause-second c = λ P rule budget.
    each_pivot ordered_fractions P.shape rule (first_row ordered_fractions P) budget
    (written_table ordered_fractions P) (first_table ordered_fractions P)
