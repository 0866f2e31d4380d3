use Rattle.std.proofs.Common.{◌∙◌, sym, ap, subst, inl, Err}
use Rattle.stack_equilibrium.specs.declared.types.Question.TheVariants.{Live}
use Rattle.stack_certificate.specs.Certificate.{certificate_view}
use Rattle.stack_judge.specs.Judgement.{Judges}
use Rattle.stack_lines.specs.declared.refusal.Refusal.TheVariants.{Spent}
use Rattle.stack_work.proofs.Common.{AnswersDue, default_budget, faulty, gives, over_budget, sample_step, sampled}
use Rattle.stack_work.specs.Answers.{summary}
use Rattle.stack_work.proofs.Ways.{wanting}
use Rattle.stack_work.proofs.OneStep.{done_alone, ends_refusing}
use Rattle.stack_forms.proofs.forms.sampling.sample_survey.Goals as goal

pub returns-in-Ok : goal.returns-in-Ok
returns-in-Ok c = done_alone AnswersDue (ap (sample_step c.args.number c.args.survey.now) c.in-Ok.ensures.judges.1
    ∙ ap (λ b. gives (summary c.args.number c.args.survey.now (certificate_view c.in-Ok.certificate) b))
    (sym c.in-Ok.ensures.narrow)) c.summary_answer.result c.summary_answer.ensures

pub returns-in-Err-TooWide : goal.returns-in-Err-TooWide
returns-in-Err-TooWide c holds =
    let h = subst (λ e. Judges (Err e) Live c.args.survey.now default_budget) c.in-Err-TooWide.field-0-is
    c.in-Err-TooWide.ensures.judges in
    ends_refusing holds c.wide_refusal.result (ap (sample_step c.args.number c.args.survey.now) h.1)
    c.wide_refusal.ensures

pub returns-in-Err-Spent : goal.returns-in-Err-Spent
returns-in-Err-Spent c holds =
    let h = subst (λ e. Judges (Err e) Live c.args.survey.now default_budget) c.in-Err-Spent.field-0-is
    c.in-Err-Spent.ensures.judges in
    ends_refusing holds (Spent c.in-Err-Spent.budget) (ap (sample_step c.args.number c.args.survey.now) h.1)
    (inl (ap (λ n. faulty (over_budget n)) h.2))

pub returns-in-Err-Memory : goal.returns-in-Err-Memory
returns-in-Err-Memory c holds = wanting holds (sampled c.args.number c.args.survey.now)
