-- The problem of a survey's scene by what functions of the survey give: `column`, `live` and `dead`.
use Rattle.std.specs.Prelude.{◌≡◌, ℕ, ◌+◌, ◌*◌, ◌<◌, true, false, length, neg_ℤ}
use Rattle.stack_contact.specs.Surveyed.{Surveyed}
use Rattle.stack_contact.specs.FreeBlocks.{frees_of}
use Rattle.stack_equilibrium.specs.declared.types.Question.{Question}
use Rattle.stack_equilibrium.specs.declared.types.Question.TheVariants.{Live}
use Rattle.stack_equilibrium.specs.SurveyScene.{scene_of}
use Rattle.stack_equilibrium.specs.Answers.{body_in, body_number, column_of}
use Rattle.stack_posing.specs.Posed.{share, posed}

-- for free block b, bearing k and sum a: along x, along y or of moments
pub record IsPosedBy (q : Question) (v : Surveyed) : Type 0 where
  pub rows : (posed q (scene_of v)).shape.rows ≡ 3 * length (frees_of v.structure.bodies)
  pub first_edge : (b k a : ℕ) → b < length (frees_of v.structure.bodies) → k < length v.bearings → a < 3
      → (posed q (scene_of v)).entry (3 * b + a) (2 * k) ≡ share a (column_of v k true (body_number v b))
  pub second_edge : (b k a : ℕ) → b < length (frees_of v.structure.bodies) → k < length v.bearings → a < 3
      → (posed q (scene_of v)).entry (3 * b + a) (2 * k + 1) ≡ share a (column_of v k false (body_number v b))
  pub factor : (b a : ℕ) → b < length (frees_of v.structure.bodies) → a < 3
      → (posed Live (scene_of v)).entry (3 * b + a) (2 * length v.bearings) ≡ share a (body_in v (body_number v b)).live
  pub right : (b a : ℕ) → b < length (frees_of v.structure.bodies) → a < 3
      → (posed q (scene_of v)).load (3 * b + a) ≡ neg_ℤ (share a (body_in v (body_number v b)).dead)

-- both problems of each survey have these numbers
abbrev pub SurveysArePosed : Type 0
SurveysArePosed = (q : Question) (v : Surveyed) → IsPosedBy q v
