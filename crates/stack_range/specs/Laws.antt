-- The laws of the range of factors.
use Rattle.std.specs.Prelude.{◌≡◌, ◌↔◌, ℕ, ℤ, pos, neg_ℤ, ◌*ℤ◌}
use Rattle.stack_algebra.specs.IntegerOrder.{◌≼◌, ◌≺◌}
use Rattle.stack_model.specs.Structure.{Structure}
use Rattle.stack_contact.specs.Surveyed.{Surveyed, IsSurvey}
use Rattle.stack_statics.specs.Scene.{Scene, IsProper}
use Rattle.stack_statics.specs.Balance.{Carries}
use Rattle.stack_equilibrium.specs.SurveyScene.{scene_of}
use Rattle.stack_equilibrium.specs.Truth.{IsTrueCertificate}
use Rattle.stack_range.specs.Reversed.{reversed_structure, reversed_scene, reversed_survey}
use Rattle.stack_range.specs.CarriedFactors.{CarriesAt, EndValue, range_end_certificate, AreCarriedBetween}
use Rattle.stack_range.specs.RangeJudgement.{RangeJudgement, range_judgement, AreSides}

-- a factor N over E between L over D and L' over D', which are carried, is carried too
abbrev pub WhatLiesBetweenIsCarried : Type 0
WhatLiesBetweenIsCarried = (s : Scene) (L D L' D' N E : ℤ) → IsProper s → pos 0 ≺ D → pos 0 ≺ D' → pos 0 ≺ E →
    L *ℤ E ≼ N *ℤ D → N *ℤ D' ≼ L' *ℤ E → Carries s L D → Carries s L' D' → Carries s N E

-- the reversed survey is the survey of the reversed structure: its bearings and touches are exactly that structure's
abbrev pub ReversedIsSurveyed : Type 0
ReversedIsSurveyed = (s : Structure) (v : Surveyed) → IsSurvey s v → IsSurvey (reversed_structure s) (reversed_survey v)

-- the scene of a reversed survey is the reversed scene
abbrev pub ReversedScenesAreTheirs : Type 0
ReversedScenesAreTheirs = (v : Surveyed) → scene_of (reversed_survey v) ≡ reversed_scene (scene_of v)

-- a factor is carried exactly if the reversed structure carries the one of the other sign
abbrev pub ReversalTurnsFactors : Type 0
ReversalTurnsFactors = (v : Surveyed) (n D : ℤ) → CarriesAt v n D ↔ CarriesAt (reversed_survey v) (neg_ℤ n) D

-- true certificates of both sides determine exactly which factors are carried
abbrev pub RangesAreExact : Type 0
RangesAreExact = (v : Surveyed) (low high : EndValue) → IsProper (scene_of v) →
    IsTrueCertificate v (range_end_certificate high) →
    IsTrueCertificate (reversed_survey v) (range_end_certificate low) →
    AreCarriedBetween v low high

-- a range has a judgement exactly if its sides have those that this one says; no case is left over
abbrev pub RangesAreBySides : Type 0
RangesAreBySides = (v : Surveyed) (budget : ℕ) (j : RangeJudgement) → IsProper (scene_of v) →
    (range_judgement v budget ≡ j) ↔ AreSides v budget j
