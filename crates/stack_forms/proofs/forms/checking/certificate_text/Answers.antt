use Rattle.stack_work.specs.Tables.{due_of}
use Rattle.stack_work.proofs.CertificateChecked.{certificate_checked}
use Rattle.stack_forms.proofs.forms.checking.certificate_text.Goals as goal

pub returns-in-Ok : goal.returns-in-Ok
returns-in-Ok c =
    certificate_checked (due_of c.args.asked) c.args.survey.now c.args.text.now _ c.certificate_answer.result
    c.in-Ok.ensures.gives c.certificate_answer.ensures
