use Rattle.std.proofs.Common.{refl, sym, subst, ◌∙◌, ◌++◌, [], Ok}
use Rattle.stack_certificate.specs.Certificate.{certificate_view}
use Rattle.stack_lines.specs.declared.answer.Verdict.TheVariants.{Affirmed}
use Rattle.stack_work.specs.Answers.{exactly}
use Rattle.stack_work.specs.Tables.{tables_text, tabled_by}
use Rattle.stack_work.specs.Work.{Ends}
use Rattle.stack_forms.proofs.forms.tabling.tables.Goals as goal

pub returns-in-Ok : goal.returns-in-Ok
returns-in-Ok c = λ holds. (
  exactly Affirmed (tables_text c.args.survey.now (certificate_view c.args.certificate.now)),
  (
    refl,
    c.in_ok-extend_from_slice-in-Ok.ensures.items
        ∙ (λ i. c.in_ok-text.ensures i ++ (c.as_slice.ensures.value ∙ c.in-Ok.ensures.1) i),
  ),
  subst (λ o. Ends holds (tabled_by c.args.survey.now (certificate_view c.args.certificate.now) o) []
      (Ok (exactly Affirmed (tables_text c.args.survey.now (certificate_view c.args.certificate.now)))))
      (sym c.in-Ok.ensures.0) (refl, refl),
)
