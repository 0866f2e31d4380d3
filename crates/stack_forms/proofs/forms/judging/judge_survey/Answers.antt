use Rattle.std.proofs.Common.{Err, subst, sym, ap, inl, refl, length, ◌<◌}
use Rattle.stack_certificate.specs.CertificateText.{text_bound}
use Rattle.stack_judge.specs.Judgement.{Judges, certified, too_wide, spent}
use Rattle.stack_certificate.specs.Certificate.{certificate_view}
use Rattle.stack_work.specs.Answers.{certificate}
use Rattle.stack_lines.specs.Refusals.{faulty, over_budget}
use Rattle.stack_lines.specs.declared.refusal.Refusal.TheVariants.{Spent, NoLive}
use Rattle.stack_work.specs.Judging.{judged}
use Rattle.stack_work.proofs.Ways.{wanting}
use Rattle.stack_work.proofs.OneStep.{ends_giving, ends_refusing}
use Rattle.stack_work.proofs.JudgementEnds.{judged_is, judged_lacks}
use Rattle.stack_forms.proofs.forms.judging.judge_survey.Goals as goal

pub returns-in_ok-write_certificate-in-Ok : goal.returns-in_ok-write_certificate-in-Ok
returns-in_ok-write_certificate-in-Ok c holds = (
  certificate c.args.question c.args.survey.now (certificate_view c.in-Ok.certificate),
  record {
    judged = c.in-Ok.ensures.judged;
    is_verdict = c.verdict_of.ensures;
    is_text = c.in_ok-write_certificate-in-Ok.ensures;
    is_short = subst (λ t. length t < text_bound) (sym c.in_ok-write_certificate-in-Ok.ensures.is)
        (c.short_text.ensures _ c.in-Ok.ensures.judged.fits c.in-Ok.ensures.judged.few);
  },
  ends_giving holds (judged_is c.args.question c.args.survey.now c.args.budget
      (certified (certificate_view c.in-Ok.certificate)) c.in-Ok.ensures.judges.0 c.in-Ok.ensures.judges.1),
)

pub returns-in-Err-TooWide : goal.returns-in-Err-TooWide
returns-in-Err-TooWide c holds =
    let h = subst (λ e. Judges (Err e) c.args.question c.args.survey.now c.args.budget) c.in-Err-TooWide.field-0-is
    c.in-Err-TooWide.ensures.judges in
    ends_refusing holds c.wide_refusal.result
    (judged_is c.args.question c.args.survey.now c.args.budget (too_wide c.in-Err-TooWide.place) h.0 h.1)
    c.wide_refusal.ensures

pub returns-in-Err-Spent : goal.returns-in-Err-Spent
returns-in-Err-Spent c holds =
    let h = subst (λ e. Judges (Err e) c.args.question c.args.survey.now c.args.budget) c.in-Err-Spent.field-0-is
    c.in-Err-Spent.ensures.judges in
    ends_refusing holds (Spent c.in-Err-Spent.budget)
    (judged_is c.args.question c.args.survey.now c.args.budget spent h.0 h.1)
    (inl (ap (λ n. faulty (over_budget n)) h.2))

pub returns-in-Err-NoLive : goal.returns-in-Err-NoLive
returns-in-Err-NoLive c holds = ends_refusing holds NoLive
    (judged_lacks c.args.question c.args.survey.now c.args.budget
    (subst (λ e. Judges (Err e) c.args.question c.args.survey.now c.args.budget) c.in-Err-NoLive.field-0-is
    c.in-Err-NoLive.ensures.judges)) (inl refl)

pub returns-in-Err-Memory : goal.returns-in-Err-Memory
returns-in-Err-Memory c holds = wanting holds (judged c.args.question c.args.budget c.args.survey.now)
