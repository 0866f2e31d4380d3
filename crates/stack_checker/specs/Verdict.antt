-- What the answer of the written check shows. Its laws hold of every survey and certificate, proper or not.
use Rattle.std.specs.Prelude.{◌≡◌, ◌⊎◌, ◌<◌, length, ⊤}
use Rattle.stack_contact.specs.Surveyed.{Surveyed}
use Rattle.stack_contact.specs.FreeBlocks.{frees_of}
use Rattle.stack_certificate.specs.Certificate.{CertificateValue}
use Rattle.stack_checker.specs.declared.types.CheckPlace.{CheckPlace}
use Rattle.stack_checker.specs.declared.types.Part.{Part}
use Rattle.stack_checker.specs.declared.types.Reason.{Reason}
use Rattle.stack_checker.specs.declared.types.Reason.TheVariants as reasons
use Rattle.stack_checker.specs.declared.types.CheckAt.{CheckAt}
use Rattle.stack_checker.specs.declared.types.CheckAt.TheVariants as places
use Rattle.stack_checker.specs.declared.types.Check.{Check}
use Rattle.stack_checker.specs.declared.types.Check.TheVariants.{Accepted, Rejected, TooWide}
use Rattle.stack_equilibrium.specs.Truth.{IsTrueCertificate}
use Rattle.stack_checker.specs.WrittenCheck.{written_check}

-- an accepted certificate is true
abbrev pub AcceptedIsTrue : Type 0
AcceptedIsTrue = (s : Surveyed) (c : CertificateValue) → written_check s c ≡ Accepted → IsTrueCertificate s c

-- a rejected certificate isn't true
abbrev pub RejectedIsFalse : Type 0
RejectedIsFalse = (s : Surveyed) (c : CertificateValue) (part : Part) (reason : Reason) →
    written_check s c ≡ Rejected part reason → ¬ (IsTrueCertificate s c)

-- a true certificate is accepted, unless a number is too wide before the last test
abbrev pub TrueIsAccepted : Type 0
TrueIsAccepted = (s : Surveyed) (c : CertificateValue) →
    IsTrueCertificate s c →
    (written_check s c ≡ Accepted) ⊎ ((place : CheckPlace) × (written_check s c ≡ TooWide place))

-- some test failed
abbrev pub IsRejected : Check → Type 0
IsRejected Accepted = ⊥
IsRejected (Rejected part reason) = ⊤
IsRejected (TooWide place) = ⊥

-- a reason names a bearing or a free block of the survey, both counted from 0
abbrev pub IsReasonOf : Surveyed → Reason → Type 0
IsReasonOf s reasons.Count = ⊤
IsReasonOf s reasons.Scale = ⊤
IsReasonOf s reasons.Factor = ⊤
IsReasonOf s (reasons.Push k) = k < length s.bearings
IsReasonOf s (reasons.Cone k) = k < length s.bearings
IsReasonOf s (reasons.Balance b axis) = b < length (frees_of s.structure.bodies)
IsReasonOf s (reasons.Resisted k) = k < length s.bearings
IsReasonOf s reasons.NoWork = ⊤
IsReasonOf s reasons.Apart = ⊤

-- a place names a bearing or a free block of the survey, both counted from 0
abbrev pub IsPlaceOf : Surveyed → CheckAt → Type 0
IsPlaceOf s (places.Cone k) = k < length s.bearings
IsPlaceOf s (places.Balance b axis) = b < length (frees_of s.structure.bodies)
IsPlaceOf s (places.Resisted k) = k < length s.bearings
IsPlaceOf s places.Work = ⊤
IsPlaceOf s places.Apart = ⊤

-- an answer names what the survey has, in its reason or in its place
abbrev pub NamesOf : Surveyed → Check → Type 0
NamesOf s Accepted = ⊤
NamesOf s (Rejected part reason) = IsReasonOf s reason
NamesOf s (TooWide place) = IsPlaceOf s place.at
