use Rattle.std.proofs.Common.{sym, subst, Err}
use Rattle.stack_rational.specs.Laws.{widest}
use Rattle.stack_tableau.specs.LastTables.{ended_as}
use Rattle.stack_simplex.specs.Ends.{refused_end}
use Rattle.stack_judge.proofs.Judgements.{runs_survey, end_of_survey, ended_judges, run_refused}
use Rattle.stack_judge.specs.Judgement.{Judges}
use Rattle.stack_judge.proofs.judging.judge_broad.Goals as goal

pub certify-requires : goal.certify-requires
certify-requires c = (
  c.args.q,
  end_of_survey c.args.q c.args.s.now c.args.budget c.in_ok-table.table c.in_ok-table.ensures widest
      c.in-Ok.ended c.in-Ok.ensures.value c.in-Ok.ensures.shape c.in-Ok.ensures.flips,
)

pub returns-in-Ok-clause-judges : goal.returns-in-Ok-clause-judges
returns-in-Ok-clause-judges c = ended_judges c.args.q c.args.s.now c.args.budget c.in-Ok.ended c.certify.result
    c.requires.live
    (runs_survey c.args.q c.args.s.now c.args.budget c.in_ok-table.table c.in_ok-table.ensures widest
    (ended_as c.in-Ok.ended) c.in-Ok.ensures.value)
    (c.certify.ensures.gives c.args.q (end_of_survey c.args.q c.args.s.now c.args.budget c.in_ok-table.table
    c.in_ok-table.ensures widest c.in-Ok.ended c.in-Ok.ensures.value c.in-Ok.ensures.shape c.in-Ok.ensures.flips))

pub returns-in-Err-clause-judges : goal.returns-in-Err-clause-judges
returns-in-Err-clause-judges c = subst (λ e. Judges (Err e) c.args.q c.args.s.now c.args.budget)
    (sym c.refused.ensures) (run_refused c.args.q c.args.s.now c.args.budget c.in-Err.error c.requires.live
    (runs_survey c.args.q c.args.s.now c.args.budget c.in_ok-table.table c.in_ok-table.ensures widest
    (refused_end c.in-Err.error) c.in-Err.ensures.value))
