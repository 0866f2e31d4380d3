-- An accepted certificate is true, a rejected one isn't, and answers name what the survey has.
use Rattle.std.proofs.Common.{◌≡◌, refl, sym, ◌⊎◌, inl, inr, Result, Ok, Err, subst}
use Rattle.std.specs.Bool.{⊤}
use Rattle.stack_equilibrium.proofs.Common.{CertificateValue, IsTrueCertificate, Surveyed, collapses, greatest, stands}
use Rattle.stack_equilibrium.proofs.Common.{unbounded, ◌>>=◌}
use Rattle.stack_checker.specs.declared.types.CheckPlace.{CheckPlace}
use Rattle.stack_checker.specs.declared.types.Part.{Part}
use Rattle.stack_checker.specs.declared.types.Part.TheVariants.{First, Second}
use Rattle.stack_checker.specs.declared.types.Check.{Check}
use Rattle.stack_checker.specs.declared.types.Check.TheVariants as answers
use Rattle.stack_checker.specs.declared.stop.Stop.{Stop}
use Rattle.stack_checker.specs.declared.stop.Stop.TheVariants.{Rejected, TooWide}
use Rattle.stack_checker.specs.Signs.{standing, loaded, rising}
use Rattle.stack_checker.specs.WrittenForces.{written_forces}
use Rattle.stack_checker.specs.WrittenMotions.{written_collapse, written_bound}
use Rattle.stack_checker.specs.WrittenCheck.{in_part, tests_of, answer_of, written_check}
use Rattle.stack_checker.specs.Verdict.{IsRejected, IsReasonOf, IsPlaceOf, NamesOf, AcceptedIsTrue}
use Rattle.stack_checker.specs.Verdict.{RejectedIsFalse, TrueIsAccepted}
use Rattle.stack_checker.proofs.Settled.{Settled}
use Rattle.stack_checker.proofs.ForcesSettled.{forces_settle}
use Rattle.stack_checker.proofs.MotionsSettled.{collapse_settles, bound_settles}

-- what an answer says of a claim
abbrev pub Answers : Surveyed → Type 0 → Check → Type 0
Answers s P answers.Accepted = P
Answers s P (answers.Rejected part reason) = (¬ P) × IsReasonOf s reason
Answers s P (answers.TooWide place) = IsPlaceOf s place.at

module _ (s : Surveyed) where
  -- an answer says of a claim what it says of P, where both hold together
  answers_as : {P Q : Type 0} (a : Check) → (P → Q) → (Q → P) → Answers s P a → Answers s Q a
  answers_as answers.Accepted to from h = to h
  answers_as (answers.Rejected part reason) to from h = (λ q. h.0 (from q), h.1)
  answers_as (answers.TooWide place) to from h = h

  -- the answer of tests of one part
  answers_part : {P : Type 0} (part : Part) (r : Result ⊤ Stop) → Settled s P r →
      Answers s P (answer_of (in_part part r))
  answers_part part (Ok done) h = h.is
  answers_part part (Err (Rejected reason)) h = h.is
  answers_part part (Err (TooWide at)) h = h.is

  -- the answer of tests of two parts, one after the other
  answers_both : {P Q : Type 0} (r t : Result ⊤ Stop) → Settled s P r → Settled s Q t →
      Answers s (P × Q) (answer_of (in_part First r >>= λ carried. in_part Second t))
  answers_both (Ok done) t p q =
      answers_as (answer_of (in_part Second t)) (λ h. (p.is, h)) (λ h. h.1) (answers_part Second t q)
  answers_both (Err (Rejected reason)) t p q = (λ h. p.is.0 h.0, p.is.1)
  answers_both (Err (TooWide at)) t p q = p.is

pub check_answers : (s : Surveyed) (c : CertificateValue) → Answers s (IsTrueCertificate s c)
    (written_check s c)
unfolding tests_of
check_answers s (stands f) =
    answers_as s (answer_of (in_part First (written_forces standing s f)))
    (λ p. record { scale_positive = p.scaled; factor_zero = p.driven; forces = p.forces })
    (λ h. record { scaled = h.scale_positive; driven = h.factor_zero; forces = h.forces })
    (answers_part s First (written_forces standing s f) (forces_settle standing s f))
check_answers s (collapses y) = answers_part s First (written_collapse s y) (collapse_settles s y)
check_answers s (greatest f y) =
    answers_as s (answer_of (in_part First (written_forces loaded s f) >>= λ carried.
    in_part Second (written_bound s f y)))
    (λ h. record {
      loaded = record { scale_positive = h.0.scaled; factor_nonneg = h.0.driven; forces = h.0.forces };
      motion = h.1.motion;
      gains = h.1.gains;
      meets = h.1.meets;
    })
    (λ h. (
      record { scaled = h.loaded.scale_positive; driven = h.loaded.factor_nonneg; forces = h.loaded.forces },
      record { motion = h.motion; gains = h.gains; meets = h.meets },
    ))
    (answers_both s (written_forces loaded s f) (written_bound s f y) (forces_settle loaded s f)
    (bound_settles s f y))
check_answers s (unbounded base ray) =
    answers_as s (answer_of (in_part First (written_forces loaded s base) >>= λ carried.
    in_part Second (written_forces rising s ray)))
    (λ h. record {
      loaded = record { scale_positive = h.0.scaled; factor_nonneg = h.0.driven; forces = h.0.forces };
      rises = record { scale_zero = h.1.scaled; factor_positive = h.1.driven; forces = h.1.forces };
    })
    (λ h. (
      record { scaled = h.loaded.scale_positive; driven = h.loaded.factor_nonneg; forces = h.loaded.forces },
      record { scaled = h.rises.scale_zero; driven = h.rises.factor_positive; forces = h.rises.forces },
    ))
    (answers_both s (written_forces loaded s base) (written_forces rising s ray) (forces_settle loaded s base)
    (forces_settle rising s ray))

pub accepted_is_true : AcceptedIsTrue
accepted_is_true s c h = subst (Answers s (IsTrueCertificate s c)) h (check_answers s c)

pub rejected_is_false : RejectedIsFalse
rejected_is_false s c part reason h = (subst (Answers s (IsTrueCertificate s c)) h (check_answers s c)).0

pub true_is_accepted : TrueIsAccepted
true_is_accepted s c h = go (written_check s c) refl
  where
    go : (a : Check) → written_check s c ≡ a →
        (written_check s c ≡ answers.Accepted)
        ⊎ ((place : CheckPlace) × (written_check s c ≡ answers.TooWide place))
    go answers.Accepted e = inl e
    go (answers.Rejected part reason) e = absurd (rejected_is_false s c part reason e h)
    go (answers.TooWide place) e = inr (place, e)

-- for an answer that is the written check's
pub rejected_settles : (s : Surveyed) (c : CertificateValue) (answer : Check) →
    answer ≡ written_check s c → IsRejected answer → ¬ (IsTrueCertificate s c)
rejected_settles s c answers.Accepted e h = absurd h
rejected_settles s c (answers.Rejected part reason) e h = rejected_is_false s c part reason (sym e)
rejected_settles s c (answers.TooWide place) e h = absurd h

pub check_names : (s : Surveyed) (c : CertificateValue) → NamesOf s (written_check s c)
check_names s c = go (written_check s c) (check_answers s c)
  where
    go : (a : Check) → Answers s (IsTrueCertificate s c) a → NamesOf s a
    go answers.Accepted h = tt
    go (answers.Rejected part reason) h = h.1
    go (answers.TooWide place) h = h
