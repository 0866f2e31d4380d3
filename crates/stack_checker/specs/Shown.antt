-- What a certificate that is accepted shows of the structure: which factors of the live loads are carried. A factor is
-- L over D, with D from 1 up; `Carries scene L D` says that admissible forces carry it. (`NoGreaterIsCarried` is over
-- all D, which is more than is needed.) Each statement is about the certificates of one form, and says nothing of the
-- others.
use Rattle.std.specs.Prelude.{ℤ, pos, ◌*ℤ◌, ⊤}
use Rattle.stack_algebra.specs.IntegerOrder.{◌≼◌, ◌≺◌}
use Rattle.stack_contact.specs.Surveyed.{Surveyed}
use Rattle.stack_certificate.specs.Certificate.{CertificateValue, stands, collapses, greatest, unbounded}
use Rattle.stack_statics.specs.Balance.{Carries}
use Rattle.stack_equilibrium.specs.SurveyScene.{scene_of}

-- the dead loads stand
abbrev pub DeadLoadsStand : Surveyed → CertificateValue → Type 0
DeadLoadsStand s (stands f) = Carries (scene_of s) (pos 0) (pos 1)
DeadLoadsStand s (collapses y) = ⊤
DeadLoadsStand s (greatest f y) = ⊤
DeadLoadsStand s (unbounded base ray) = ⊤

-- no admissible forces balance the dead loads, of whatever scale
abbrev pub DeadLoadsFall : Surveyed → CertificateValue → Type 0
DeadLoadsFall s (stands f) = ⊤
DeadLoadsFall s (collapses y) = (D : ℤ) → pos 0 ≺ D → ¬ (Carries (scene_of s) (pos 0) D)
DeadLoadsFall s (greatest f y) = ⊤
DeadLoadsFall s (unbounded base ray) = ⊤

-- the factor of the forces is carried
abbrev pub FactorIsCarried : Surveyed → CertificateValue → Type 0
FactorIsCarried s (stands f) = ⊤
FactorIsCarried s (collapses y) = ⊤
FactorIsCarried s (greatest f y) = Carries (scene_of s) f.factor f.scale
FactorIsCarried s (unbounded base ray) = ⊤

-- no factor greater than that of the forces is carried, whatever its denominator
abbrev pub NoGreaterIsCarried : Surveyed → CertificateValue → Type 0
NoGreaterIsCarried s (stands f) = ⊤
NoGreaterIsCarried s (collapses y) = ⊤
NoGreaterIsCarried s (greatest f y) = (L D : ℤ) → f.factor *ℤ D ≺ L *ℤ f.scale → ¬ (Carries (scene_of s) L D)
NoGreaterIsCarried s (unbounded base ray) = ⊤

-- every factor from that of the base up is carried
abbrev pub AllAboveAreCarried : Surveyed → CertificateValue → Type 0
AllAboveAreCarried s (stands f) = ⊤
AllAboveAreCarried s (collapses y) = ⊤
AllAboveAreCarried s (greatest f y) = ⊤
AllAboveAreCarried s (unbounded base ray) = (L D : ℤ) → pos 0 ≺ D → base.factor *ℤ D ≼ L *ℤ base.scale →
    Carries (scene_of s) L D

-- every factor from 0 up is carried, where the dead loads stand
abbrev pub AllAreCarried : Surveyed → CertificateValue → Type 0
AllAreCarried s (stands f) = ⊤
AllAreCarried s (collapses y) = ⊤
AllAreCarried s (greatest f y) = ⊤
AllAreCarried s (unbounded base ray) = Carries (scene_of s) (pos 0) (pos 1) → (L D : ℤ) → pos 0 ≼ L →
    pos 0 ≺ D →
    Carries (scene_of s) L D

-- all that a true certificate shows: whether the dead loads stand, and which factors are carried
pub record Shows (s : Surveyed) (c : CertificateValue) : Type 0 where
  -- the forces of Stands carry the dead loads
  pub stand : DeadLoadsStand s c
  -- no forces of any scale carry the dead loads of Collapses
  pub fall : DeadLoadsFall s c
  -- the factor of Greatest is carried, and no greater one
  pub carried : FactorIsCarried s c
  pub bound : NoGreaterIsCarried s c
  -- each factor from that of Unbounded up is carried, and each from 0 up where the dead loads stand
  pub above : AllAboveAreCarried s c
  pub all : AllAreCarried s c
