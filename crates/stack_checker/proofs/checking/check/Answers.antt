use Rattle.std.proofs.Common.{◌≡◌, sym, ◌∙◌, subst}
use Rattle.stack_certificate.specs.Certificate.{certificate_view}
use Rattle.stack_checker.specs.declared.types.Check.TheVariants.{Accepted}
use Rattle.stack_equilibrium.specs.Truth.{IsTrueCertificate}
use Rattle.stack_checker.specs.Verdict.{NamesOf}
use Rattle.stack_checker.specs.WrittenCheck.{answer_of, written_check}
use Rattle.stack_checker.proofs.Verdicts.{accepted_is_true, rejected_settles, check_names}
use Rattle.stack_checker.proofs.Consequences.{shows_standing, shows_fall, shows_carried, shows_bound}
use Rattle.stack_checker.proofs.Consequences.{shows_above, shows_all}
use Rattle.stack_checker.proofs.checking.check.Goals as goal

pub returns : goal.returns
returns c =
    let s = c.args.s.now in
    let d = certificate_view c.args.c.now in
    let is : c.answer.result ≡ written_check s d = c.answer.ensures ∙ (λ i. answer_of
    (c.check_form.ensures i)) in
    let proper = c.proper.ensures in
    let true_one : c.answer.result ≡ Accepted → IsTrueCertificate s d = λ h. accepted_is_true s d (sym is
    ∙ h) in
    record {
      written = is;
      accepted = true_one;
      rejected = rejected_settles s d c.answer.result is;
      names = subst (NamesOf s) (sym is) (check_names s d);
      stand = λ h. shows_standing s proper d (true_one h);
      fall = λ h. shows_fall s proper d (true_one h);
      carried = λ h. shows_carried s proper d (true_one h);
      bound = λ h. shows_bound s proper d (true_one h);
      above = λ h. shows_above s proper d (true_one h);
      all = λ h. shows_all s proper d (true_one h);
    }
