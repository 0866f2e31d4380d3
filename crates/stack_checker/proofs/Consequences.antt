-- What a true certificate of a survey shows of the factors that are carried, one form after the other.
use Rattle.stack_equilibrium.proofs.Common.{CertificateValue, IsProper, IsTrueCertificate, Surveyed}
use Rattle.stack_equilibrium.proofs.Common.{collapse_excludes_balance, collapses, forces_of, greatest}
use Rattle.stack_equilibrium.proofs.Common.{greatest_is_carried, moves_of, scene_of, stands, stands_is_carried}
use Rattle.stack_equilibrium.proofs.Common.{unbounded}
use Rattle.stack_statics.proofs.CertificateLaws.{greatest_bounds_every_factor}
use Rattle.stack_statics.proofs.CertificateLaws.{unbounded_carries_above, unbounded_carries_all}
use Rattle.stack_checker.specs.Shown.{DeadLoadsStand, DeadLoadsFall, FactorIsCarried, NoGreaterIsCarried}
use Rattle.stack_checker.specs.Shown.{AllAboveAreCarried, AllAreCarried}

module _ (s : Surveyed) (proper : IsProper (scene_of s)) where
  pub shows_standing : (c : CertificateValue) → IsTrueCertificate s c → DeadLoadsStand s c
  shows_standing (stands f) h = stands_is_carried (scene_of s) (forces_of f) h
  shows_standing (collapses y) h = tt
  shows_standing (greatest f y) h = tt
  shows_standing (unbounded base ray) h = tt

  pub shows_fall : (c : CertificateValue) → IsTrueCertificate s c → DeadLoadsFall s c
  shows_fall (stands f) h = tt
  shows_fall (collapses y) h = λ D. collapse_excludes_balance (scene_of s) (moves_of y) D proper h
  shows_fall (greatest f y) h = tt
  shows_fall (unbounded base ray) h = tt

  pub shows_carried : (c : CertificateValue) → IsTrueCertificate s c → FactorIsCarried s c
  shows_carried (stands f) h = tt
  shows_carried (collapses y) h = tt
  shows_carried (greatest f y) h = greatest_is_carried (scene_of s) (forces_of f) (moves_of y) h
  shows_carried (unbounded base ray) h = tt

  pub shows_bound : (c : CertificateValue) → IsTrueCertificate s c → NoGreaterIsCarried s c
  shows_bound (stands f) h = tt
  shows_bound (collapses y) h = tt
  shows_bound (greatest f y) h = greatest_bounds_every_factor (scene_of s) (forces_of f) (moves_of y) proper h
  shows_bound (unbounded base ray) h = tt

  pub shows_above : (c : CertificateValue) → IsTrueCertificate s c → AllAboveAreCarried s c
  shows_above (stands f) h = tt
  shows_above (collapses y) h = tt
  shows_above (greatest f y) h = tt
  shows_above (unbounded base ray) h = unbounded_carries_above (scene_of s) (forces_of base)
      (forces_of ray) proper h

  pub shows_all : (c : CertificateValue) → IsTrueCertificate s c → AllAreCarried s c
  shows_all (stands f) h = tt
  shows_all (collapses y) h = tt
  shows_all (greatest f y) h = tt
  shows_all (unbounded base ray) h = unbounded_carries_all (scene_of s) (forces_of base)
      (forces_of ray) proper h
