use Rattle.stack_certificate.specs.Certificate.{certificate_view}
use Rattle.stack_checker.specs.declared.types.Check.TheVariants.{Accepted, Rejected, TooWide}
use Rattle.stack_work.specs.Tables.{due_of}
use Rattle.stack_work.proofs.CertificateChecked.{by_check}
use Rattle.stack_forms.proofs.forms.checking.certificate_answer.Goals as goal

pub returns-in-Accepted : goal.returns-in-Accepted
returns-in-Accepted c = by_check (due_of c.args.asked) c.args.survey.now
    (certificate_view c.args.certificate.now) Accepted c.accepted_answer.result c.in-Accepted.ensures.written
    c.accepted_answer.ensures

pub returns-in-Rejected : goal.returns-in-Rejected
returns-in-Rejected c = by_check (due_of c.args.asked) c.args.survey.now
    (certificate_view c.args.certificate.now) (Rejected c.in-Rejected.part c.in-Rejected.reason)
    c.check_answer.result c.in-Rejected.ensures.written c.check_answer.ensures

pub returns-in-TooWide : goal.returns-in-TooWide
returns-in-TooWide c = by_check (due_of c.args.asked) c.args.survey.now
    (certificate_view c.args.certificate.now) (TooWide c.in-TooWide.place) c.check_answer-in-TooWide.result
    c.in-TooWide.ensures.written c.check_answer-in-TooWide.ensures
