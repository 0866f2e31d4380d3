use Rattle.std.proofs.Common.{◌≡◌, true, subst, sym, ap, ◌∙◌, IfSome, is_some}
use Rattle.stack_tableau.specs.LastTables.{ended_as}
use Rattle.stack_simplex.specs.Ends.{refused_end}
use Rattle.stack_simplex.specs.declared.refusal.RunError.TheVariants as runs
use Rattle.stack_judge.specs.Certifying.{IsTableOfSurvey}
use Rattle.stack_judge.specs.NarrowWork.{narrow, narrow_place, has_no_place, is_nowhere_too_wide, is_narrow}
use Rattle.stack_judge.proofs.Judgements.{runs_survey, end_of_survey, ended_judges, run_refused}
use Rattle.stack_judge.proofs.NarrowRuns.{nowhere, each, same_run, free_run, wide_run}
use Rattle.stack_judge.proofs.narrow.judge_narrow.Goals as goal

pub returns-in-Ok-clause-judges : goal.returns-in-Ok-clause-judges
returns-in-Ok-clause-judges c =
    let h = subst (λ o. IfSome o (λ t. IsTableOfSurvey c.args.q c.args.s.now t)) c.in-Ok-Some.field-0-is
    c.in-Ok-Some.ensures.some in
    ended_judges c.args.q c.args.s.now c.args.budget c.in-Ok.ended c.certify.result c.requires.live
    (same_run c.args.q c.args.s.now c.args.budget (ended_as c.in-Ok.ended)
    (runs_survey c.args.q c.args.s.now c.args.budget c.in-Ok-Some.table h narrow (ended_as c.in-Ok.ended)
    c.in-Ok.ensures.value) c.wider_run_law.ensures (nowhere c.in-Ok.ended))
    (c.certify.ensures.gives c.args.q (end_of_survey c.args.q c.args.s.now c.args.budget c.in-Ok-Some.table h narrow
    c.in-Ok.ended c.in-Ok.ensures.value c.in-Ok.ensures.shape c.in-Ok.ensures.flips))

pub returns-in-Ok-clause-narrow : goal.returns-in-Ok-clause-narrow
returns-in-Ok-clause-narrow c =
    let h = subst (λ o. IfSome o (λ t. IsTableOfSurvey c.args.q c.args.s.now t)) c.in-Ok-Some.field-0-is
    c.in-Ok-Some.ensures.some in
    let place = subst (λ o. is_some o ≡ has_no_place (narrow_place c.args.q c.args.s.now)) c.in-Ok-Some.field-0-is
    c.in-Ok-Some.ensures.place in
    each c.certify.result (is_narrow c.args.q c.args.s.now c.args.budget ≡ true)
    (free_run c.args.q c.args.s.now c.args.budget (ended_as c.in-Ok.ended)
    (runs_survey c.args.q c.args.s.now c.args.budget c.in-Ok-Some.table h narrow (ended_as c.in-Ok.ended)
    c.in-Ok.ensures.value) (sym place) (nowhere c.in-Ok.ended))

pub returns-in-Err-TooWide-clause-none : goal.returns-in-Err-TooWide-clause-none
returns-in-Err-TooWide-clause-none c = λ same.
    let h = subst (λ o. IfSome o (λ t. IsTableOfSurvey c.args.q c.args.s.now t)) c.in-Ok-Some.field-0-is
    c.in-Ok-Some.ensures.some in
    wide_run c.args.q c.args.s.now c.args.budget (refused_end c.in-Err-TooWide.field-0)
    (runs_survey c.args.q c.args.s.now c.args.budget c.in-Ok-Some.table h narrow (refused_end c.in-Err-TooWide.field-0)
    c.in-Err-TooWide.ensures.value) c.in-Err-TooWide.field-0-0 (ap refused_end c.in-Err-TooWide.field-0-is)

pub returns-in-Err-Spent-clause-judges : goal.returns-in-Err-Spent-clause-judges
returns-in-Err-Spent-clause-judges c =
    let h = subst (λ o. IfSome o (λ t. IsTableOfSurvey c.args.q c.args.s.now t)) c.in-Ok-Some.field-0-is
    c.in-Ok-Some.ensures.some in
    let is = ap refused_end c.in-Err-Spent.field-0-is in
    run_refused c.args.q c.args.s.now c.args.budget runs.Spent c.requires.live
    (same_run c.args.q c.args.s.now c.args.budget (refused_end c.in-Err-Spent.field-0)
    (runs_survey c.args.q c.args.s.now c.args.budget c.in-Ok-Some.table h narrow (refused_end c.in-Err-Spent.field-0)
    c.in-Err-Spent.ensures.value) c.wider_run_law.ensures (ap is_nowhere_too_wide is) ∙ is)
