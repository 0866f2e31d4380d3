-- A certificate that is the judgement of a survey is judged: true, of its question, of numbers that fit, accepted.
use Rattle.std.proofs.Common.{◌≡◌, refl, sym, subst, ℕ, ◌≤◌, Option, Some, None}
use Rattle.std.specs.Bool.{⊤}
use Rattle.stack_equilibrium.proofs.Common.{CertificateValue, Fraction, IsProper, IsTrueCertificate, Surveyed}
use Rattle.stack_equilibrium.proofs.Common.{most_free, or_none, scene_of}
use Rattle.stack_equilibrium.specs.declared.types.Question.{Question}
use Rattle.stack_rational.specs.TooWide.{is_too_wide}
use Rattle.stack_rational.specs.Laws.{widest}
use Rattle.stack_contact.proofs.Frees.{as_many}
use Rattle.stack_equilibrium.specs.declared.types.Question.TheVariants.{Dead, Live}
use Rattle.stack_equilibrium.specs.Truth.{IsOfQuestion}
use Rattle.stack_equilibrium.proofs.BearingSizes.{survey_proper}
use Rattle.stack_checker.specs.declared.types.Check.{Check}
use Rattle.stack_checker.specs.declared.types.Check.TheVariants.{Accepted, Rejected, TooWide}
use Rattle.stack_checker.specs.WrittenCheck.{written_check}
use Rattle.stack_checker.specs.Shown.{Shows}
use Rattle.stack_checker.proofs.Verdicts.{rejected_is_false}
use Rattle.stack_checker.proofs.Consequences.{shows_standing, shows_fall, shows_carried, shows_bound, shows_above}
use Rattle.stack_checker.proofs.Consequences.{shows_all}
use Rattle.stack_run.specs.WrittenRun.{End, infeasible, feasible, optimal, ray, wide, over, never}
use Rattle.stack_extract.specs.Certified.{end_certificate}
use Rattle.stack_extract.specs.EndLaws.{IsEndOfRun, IsEndOf}
use Rattle.stack_extract.proofs.EndCertificates.{ends_are_certified, ends_are_of_the_question}
use Rattle.stack_judge.specs.declared.types.JudgePlace.{JudgePlace}
use Rattle.stack_judge.specs.EndPlace.{lists_place, in_check, check_place, end_place}
use Rattle.stack_judge.specs.Judgement.{certified, judged_by, judgement_of, survey_run}
use Rattle.stack_judge.specs.Judged.{JudgementsAreOfTheQuestion, JudgementsAreCertified, JudgementsAreJudged}
use Rattle.stack_judge.proofs.TrueAnswers.{judged}

-- what is judged of an end with this certificate: no place of it is too wide
record IsFound (q : Question) (v : Surveyed) (x : End Fraction) (c : CertificateValue) : Type 0 where
  pub fit : end_place q v x ≡ None
  pub is : end_certificate q v x ≡ Some c

by_none : (o : Option JudgePlace) (d : Option CertificateValue) (c : CertificateValue) → judged_by o d ≡ certified c
    → (o ≡ None) × (d ≡ Some c)
by_none None (Some d) c h = (refl, cc)
by_none None None c h = absurd cc
by_none (Some p) d c h = absurd cc

-- a judgement with a certificate is that of an end with it
found : (q : Question) (v : Surveyed) (x : End Fraction) (c : CertificateValue) → judgement_of q v x ≡ certified c
    → IsFound q v x c
found q v (infeasible T) c h =
    let b = by_none (end_place q v (infeasible T)) (end_certificate q v (infeasible T)) c h in
    record { fit = b.0; is = b.1 }
found q v (feasible T) c h =
    let b = by_none (end_place q v (feasible T)) (end_certificate q v (feasible T)) c h in
    record { fit = b.0; is = b.1 }
found q v (optimal T) c h =
    let b = by_none (end_place q v (optimal T)) (end_certificate q v (optimal T)) c h in
    record { fit = b.0; is = b.1 }
found q v (ray T k) c h =
    let b = by_none (end_place q v (ray T k)) (end_certificate q v (ray T k)) c h in
    record { fit = b.0; is = b.1 }
found q v (wide p k s) c h = absurd cc
found q v over c h = absurd cc
found q v never c h = absurd cc

module _ (q : Question) (v : Surveyed) (budget : ℕ) where
  -- the run of a survey's problem ends so
  run_ends : IsEndOfRun q v (survey_run q v budget)
  run_ends = record { rule = is_too_wide widest; budget = budget; run = refl }

abbrev OfSome : Question → Option CertificateValue → Type 0
OfSome q None = ⊤
OfSome q (Some c) = IsOfQuestion q c

-- a certificate answers the question by the form of its end
of_form : (q : Question) (v : Surveyed) (x : End Fraction) (c : CertificateValue) → IsEndOf q x
    → end_certificate q v x ≡ Some c → IsOfQuestion q c
of_form Dead v (infeasible T) c h e = subst (OfSome Dead) e tt
of_form Live v (infeasible T) c h e = subst (OfSome Live) e tt
of_form Dead v (feasible T) c h e = subst (OfSome Dead) e tt
of_form Live v (feasible T) c h e = absurd h
of_form Dead v (optimal T) c h e = absurd h
of_form Live v (optimal T) c h e = subst (OfSome Live) e tt
of_form Dead v (ray T k) c h e = absurd h
of_form Live v (ray T k) c h e = subst (OfSome Live) e tt
of_form q v (wide p k s) c h e = absurd cc
of_form q v over c h e = absurd cc
of_form q v never c h e = absurd cc

pub of_the_question : JudgementsAreOfTheQuestion
of_the_question q v budget c h =
    let f = found q v (survey_run q v budget) c h in
    of_form q v (survey_run q v budget) c
    (ends_are_of_the_question q v (survey_run q v budget) (run_ends q v budget)) f.is

pub are_certified : JudgementsAreCertified
are_certified q v budget c proper h =
    let f = found q v (survey_run q v budget) c h in
    ends_are_certified q v (survey_run q v budget) c proper (run_ends q v budget) f.is

-- a check that isn't too wide accepts what is true
accepts : (v : Surveyed) (c : CertificateValue) (a : Check) → IsTrueCertificate v c → written_check v c ≡ a
    → in_check a ≡ None → a ≡ Accepted
accepts v c Accepted t is h = refl
accepts v c (Rejected part reason) t is h = absurd (rejected_is_false v c part reason is t)
accepts v c (TooWide p) t is h = absurd cc

shows : (v : Surveyed) (c : CertificateValue) → IsProper (scene_of v) → IsTrueCertificate v c → Shows v c
shows v c proper t = record {
  stand = shows_standing v proper c t;
  fall = shows_fall v proper c t;
  carried = shows_carried v proper c t;
  bound = shows_bound v proper c t;
  above = shows_above v proper c t;
  all = shows_all v proper c t;
}

pub are_judged : JudgementsAreJudged
are_judged q v budget c sound survey h =
    let x = survey_run q v budget in
    let f = found q v x c h in
    let proper = survey_proper v sound survey in
    let t = ends_are_certified q v x c proper (run_ends q v budget) f.is in
    let both = or_none (lists_place q v x) (check_place v (end_certificate q v x)) f.fit in
    let checked : check_place v (Some c) ≡ None = subst (λ o. check_place v o ≡ None) f.is both.1 in
    judged ends_are_certified q v x c proper survey.few
    (subst (λ n. n ≤ most_free) (sym (as_many v.structure.bodies 0)) sound.few_free) (run_ends q v budget) both.0 f.is
    (accepts v c (written_check v c) t.holds refl checked) (shows v c proper t.holds)
