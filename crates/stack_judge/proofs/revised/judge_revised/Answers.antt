use Rattle.stack_inverse.specs.Seen.{table_of_revised}
use Rattle.stack_revised.specs.Ended.{shape_of_last, flips_of_last, value_of_last}
use Rattle.stack_judge.proofs.Judgements.{end_judges}
use Rattle.stack_judge.proofs.RevisedRuns.{ends_survey, last_of_revised}
use Rattle.stack_judge.proofs.revised.judge_revised.Goals as goal

pub returns-in-Ok-run_revised-clause-judges : goal.returns-in-Ok-run_revised-clause-judges
returns-in-Ok-run_revised-clause-judges c =
    let last = c.in-Ok-run_revised.last in
    let value = c.in-Ok-run_revised.ensures.value in
    end_judges c.args.q c.args.s.now c.args.budget last.kind (table_of_revised last.table) c.certify_last.result
    c.requires.live
    (ends_survey c.args.q c.args.s.now c.args.budget c.in-Ok.problem c.in-Ok.ensures.problem (value_of_last last) value)
    (c.certify_last.ensures.gives c.args.q
    (last_of_revised c.args.q c.args.s.now c.args.budget c.in-Ok.problem c.in-Ok.ensures.problem
    (shape_of_last last) (flips_of_last last) (value_of_last last) c.in-Ok-run_revised.ensures.shape
    c.in-Ok-run_revised.ensures.flips value))
