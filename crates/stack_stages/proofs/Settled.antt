-- True certificates of stages settle which stages are carried.
use Rattle.std.proofs.Common.{refl, sym, subst, ℕ, suc, ◌<◌, List, [], length, take, ◌≡◌, get_or}
use lib.IntN.{pos}
use Rattle.std.proofs.lemmas.Option.{slice_get-get_or}
use Rattle.stack_equilibrium.proofs.Common.{ForcesValue, IsProper, IsSound, IsSurvey, Surveyed}
use Rattle.stack_equilibrium.proofs.Common.{collapse_excludes_balance, forces_of, moves_of, scene_of, stands_is_carried}
use Rattle.stack_equilibrium.proofs.BearingSizes.{survey_proper}
use Rattle.stack_part.specs.Part.{surveyed_part}
use Rattle.stack_model.proofs.PartSound.{part_sound}
use Rattle.stack_part.proofs.PartSurveys.{part_surveyed}
use Rattle.stack_stages.specs.Stage.{is_built, surveyed_stage}
use Rattle.stack_stages.specs.Staged.{Staged, all_stand, falls, too_wide_at, spent_at, no_stages, AreStandingStages}
use Rattle.stack_stages.specs.Staged.{AreTrue, AreCarried, StandAndFall}

module _ (v : Surveyed) (sound : IsSound v.structure) (survey : IsSurvey v.structure v) (order : List ℕ) where
  -- the scene of a stage is that of a sound structure and its survey
  stage_proper : (k : ℕ) → IsProper (scene_of (surveyed_stage v order k))
  stage_proper k =
      let keeps = is_built v.structure (take k order) in
      survey_proper (surveyed_part keeps v) (part_sound keeps v.structure sound)
      (part_surveyed keeps v.structure v survey)

  -- stages that stand by forces are carried
  carried : (fs : List ForcesValue) (n : ℕ) → AreStandingStages v order fs → length fs ≡ n → AreCarried v order n
  carried fs n h e k l =
      let none : ForcesValue = record { scale = pos 0; factor = pos 0; parts = [] } in
      let f = get_or fs k none in
      stands_is_carried (scene_of (surveyed_stage v order (suc k))) (forces_of f)
      (h k f (slice_get-get_or fs k none (subst (λ m. k < m) (sym e) l))).holds

  -- a stage that collapses by a motion isn't carried, at any scale
  pub settled : (x : Staged) → AreTrue v order x → StandAndFall v order x
  settled (all_stand fs) h = carried fs (length order) h.0 h.1
  settled (falls fs m) h = (
    carried fs (length fs) h.0 refl,
    λ D positive.
        collapse_excludes_balance (scene_of (surveyed_stage v order (suc (length fs)))) (moves_of m) D
        (stage_proper (suc (length fs))) (h.2).holds positive,
  )
  settled (too_wide_at stage p) h = h
  settled (spent_at stage) h = h
  settled no_stages h = h
