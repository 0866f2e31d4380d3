-- The laws of the certificates of ends: they are true, answer the question and say whether the dead loads stand.
use Rattle.std.specs.Prelude.{◌≡◌, ℕ, pos, Some, ⊤}
use Rattle.stack_algebra.specs.Fraction.{Fraction}
use Rattle.stack_contact.specs.Surveyed.{Surveyed}
use Rattle.stack_certificate.specs.Certificate.{CertificateValue, stands, collapses, greatest, unbounded}
use Rattle.stack_equilibrium.specs.declared.types.Question.{Question}
use Rattle.stack_equilibrium.specs.declared.types.Question.TheVariants.{Dead, Live}
use Rattle.stack_statics.specs.Scene.{IsProper}
use Rattle.stack_statics.specs.Balance.{Carries}
use Rattle.stack_equilibrium.specs.SurveyScene.{scene_of}
use Rattle.stack_equilibrium.specs.Truth.{IsTrueCertificate, IsOfQuestion}
use Rattle.stack_run.specs.WrittenRun.{End, infeasible, feasible, optimal, ray, wide, over, never}
use Rattle.stack_run.specs.ProblemRun.{Rule, run_of}
use Rattle.stack_posing.specs.Posed.{posed, posed_shape}
use Rattle.stack_extract.specs.WrittenLists.{forces_list, ray_list}
use Rattle.stack_extract.specs.WholeLists.{whole_list, NonePulls}
use Rattle.stack_extract.specs.Certified.{end_certificate}

-- an end of the run of a survey's problem, under some rule of what is too wide and with some budget
pub record IsEndOfRun (q : Question) (v : Surveyed) (x : End Fraction) : Type 0 where
  pub rule : Rule
  pub budget : ℕ
  pub run : run_of (posed q (scene_of v)) rule budget ≡ x

-- the dead loads stand exactly if it isn't a collapse
abbrev pub TellsOfDeadLoads : Surveyed → CertificateValue → Type 0
TellsOfDeadLoads v (stands f) = Carries (scene_of v) (pos 0) (pos 1)
TellsOfDeadLoads v (collapses y) = ¬ (Carries (scene_of v) (pos 0) (pos 1))
TellsOfDeadLoads v (greatest f y) = Carries (scene_of v) (pos 0) (pos 1)
TellsOfDeadLoads v (unbounded base rise) = Carries (scene_of v) (pos 0) (pos 1)

-- a true certificate of the question, which says whether the dead loads stand
pub record IsCertified (q : Question) (v : Surveyed) (c : CertificateValue) : Type 0 where
  pub holds : IsTrueCertificate v c
  pub form : IsOfQuestion q c
  pub dead_loads : TellsOfDeadLoads v c

-- each end that has a certificate has a true one of its question
abbrev pub EndsAreCertified : Type 0
EndsAreCertified = (q : Question) (v : Surveyed) (x : End Fraction) (c : CertificateValue) →
    IsProper (scene_of v) → IsEndOfRun q v x → end_certificate q v x ≡ Some c → IsCertified q v c

-- an end is one that its question may have
abbrev pub IsEndOf : Question → End Fraction → Type 0
IsEndOf q (infeasible T) = ⊤
IsEndOf Dead (feasible T) = ⊤
IsEndOf Live (feasible T) = ⊥
IsEndOf Dead (optimal T) = ⊥
IsEndOf Live (optimal T) = ⊤
IsEndOf Dead (ray T c) = ⊥
IsEndOf Live (ray T c) = ⊤
IsEndOf q (wide p k s) = ⊤
IsEndOf q over = ⊤
IsEndOf q never = ⊤

-- every run of a survey's problem has an end that its question may have
abbrev pub EndsAreOfTheQuestion : Type 0
EndsAreOfTheQuestion = (q : Question) (v : Surveyed) (x : End Fraction) → IsEndOfRun q v x → IsEndOf q x

-- no amount of an end's forces or of its ray is negative
abbrev pub EndPushes : Question → Surveyed → End Fraction → Type 0
EndPushes q v (infeasible T) = ⊤
EndPushes q v (feasible T) = NonePulls (whole_list (forces_list (posed_shape q (scene_of v)) T))
EndPushes q v (optimal T) = NonePulls (whole_list (forces_list (posed_shape q (scene_of v)) T))
EndPushes q v (ray T c) = NonePulls (whole_list (forces_list (posed_shape q (scene_of v)) T))
    × NonePulls (whole_list (ray_list (posed_shape q (scene_of v)) T c))
EndPushes q v (wide p k s) = ⊤
EndPushes q v over = ⊤
EndPushes q v never = ⊤

-- no amount is negative at any end of a survey's run, whatever the rule and the budget
abbrev pub EndsPush : Type 0
EndsPush = (q : Question) (v : Surveyed) (x : End Fraction) → IsEndOfRun q v x → EndPushes q v x
