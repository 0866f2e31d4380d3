use Rattle.std.proofs.Common.{◌≡◌, ◌⊎◌, Err, subst, inl, refl}
use Rattle.stack_range.specs.Ranged.{range_view}
use Rattle.stack_range.specs.RangeJudgement.{JudgesRange, told, wide_on, spent_on}
use Rattle.stack_lines.specs.declared.refusal.Refusal.TheVariants.{Spent, NoLive, Memory}
use Rattle.stack_lines.specs.Refusals.{refusal_view, faulty}
use Rattle.stack_work.specs.Judging.{wide_within}
use Rattle.stack_work.specs.Answers.{ranged}
use Rattle.stack_work.specs.Ranging.{range_told}
use Rattle.stack_work.proofs.Ways.{wanting}
use Rattle.stack_work.proofs.OneStep.{ends_giving, ends_refusing}
use Rattle.stack_work.proofs.RangeEnds.{range_is, range_lacks}
use Rattle.stack_forms.proofs.forms.ranging.range_survey.Goals as goal

pub returns-in-Ok-write_range : goal.returns-in-Ok-write_range
returns-in-Ok-write_range c holds = (
  ranged c.args.survey.now (range_view c.in-Ok.found),
  record {
    holds = c.in-Ok.ensures.exact;
    is_verdict = c.range_verdict-verdict.ensures;
    is_text = c.in-Ok-write_range.ensures;
  },
  ends_giving holds (range_is c.args.survey.now c.args.budget (told (range_view c.in-Ok.found))
      c.in-Ok.ensures.judges.0 c.in-Ok.ensures.judges.1),
)

pub returns-in-Err-TooWide : goal.returns-in-Err-TooWide
returns-in-Err-TooWide c holds =
    let h = subst (λ e. JudgesRange (Err e) c.args.survey.now c.args.budget) c.in-Err-TooWide.field-0-is
    c.in-Err-TooWide.ensures.judges in
    ends_refusing holds c.wide_refusal.result
    (range_is c.args.survey.now c.args.budget (wide_on c.in-Err-TooWide.side c.in-Err-TooWide.place) h.0 h.1)
    (subst (λ w. (refusal_view c.wide_refusal.result ≡ faulty (wide_within w c.args.survey.now.structure
    c.in-Err-TooWide.place)) ⊎ (c.wide_refusal.result ≡ Memory)) c.within.ensures c.wide_refusal.ensures)

pub returns-in-Err-Spent : goal.returns-in-Err-Spent
returns-in-Err-Spent c holds =
    let h = subst (λ e. JudgesRange (Err e) c.args.survey.now c.args.budget) c.in-Err-Spent.field-0-is
    c.in-Err-Spent.ensures.judges in
    ends_refusing holds (Spent c.args.budget)
    (range_is c.args.survey.now c.args.budget (spent_on c.in-Err-Spent.field-0-0) h.0 h.1) (inl refl)

pub returns-in-Err-NoLive : goal.returns-in-Err-NoLive
returns-in-Err-NoLive c holds = ends_refusing holds NoLive (range_lacks c.args.survey.now c.args.budget
    (subst (λ e. JudgesRange (Err e) c.args.survey.now c.args.budget) c.in-Err-NoLive.field-0-is
    c.in-Err-NoLive.ensures.judges)) (inl refl)

pub returns-in-Err : goal.returns-in-Err
returns-in-Err c holds = wanting holds (range_told c.args.budget c.args.survey.now)

pub returns-in-Err-Memory : goal.returns-in-Err-Memory
returns-in-Err-Memory c holds = wanting holds (range_told c.args.budget c.args.survey.now)
