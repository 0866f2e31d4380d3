use Rattle.std.proofs.Common.{subst}
use Rattle.stack_algebra.proofs.OrderedFractions.{ordered_fractions}
use Rattle.stack_rational.specs.TooWide.{is_too_wide}
use Rattle.stack_table.specs.Lent.{TellsFirst, problem_of}
use Rattle.stack_table.specs.WrittenTable.{wide_place}
use Rattle.stack_judge.specs.NarrowWork.{narrow}
use Rattle.stack_judge.proofs.Judgements.{table_of_posed}
use Rattle.stack_judge.proofs.NarrowRuns.{no_place, some_place}
use Rattle.stack_judge.proofs.narrow.narrow_table.Goals as goal

pub returns-in-Ok-clause-some : goal.returns-in-Ok-clause-some
returns-in-Ok-clause-some c = table_of_posed c.args.q c.args.s.now c.in_ok-problem.problem c.in-Ok.table
    c.in_ok-problem.ensures.condition c.in_ok-problem.ensures.problem c.in-Ok.ensures.shape c.in-Ok.ensures.ok
    c.in-Ok.ensures.flips

pub returns-in-Ok-clause-place : goal.returns-in-Ok-clause-place
returns-in-Ok-clause-place c = no_place c.args.q c.args.s.now (problem_of c.in_ok-problem.problem)
    c.in_ok-problem.ensures.problem c.in-Ok.ensures.fits

pub returns-clause-place : goal.returns-clause-place
returns-clause-place c = some_place c.args.q c.args.s.now (problem_of c.in_ok-problem.problem) _
    c.in_ok-problem.ensures.problem
    (subst (λ e. TellsFirst e (wide_place ordered_fractions (is_too_wide narrow) (problem_of c.in_ok-problem.problem)))
    c.in-Err-Wide.field-0-is c.in-Err-Wide.ensures.wide)
