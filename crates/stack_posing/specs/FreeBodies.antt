-- The free bodies of a scene by their numbers among the free ones, from 0.
use Rattle.std.specs.Prelude.{◌≡◌, ℕ, zero, suc, ◌<◌, true, cond, ◌&&◌, eqb, length}
use Rattle.stack_contact.specs.FreeBlocks.{frees_of}
use Rattle.stack_contact.specs.Surveyed.{Surveyed}
use Rattle.stack_statics.specs.Scene.{Scene}
use Rattle.stack_statics.specs.Certificates.{free_before}
use Rattle.stack_equilibrium.specs.SurveyScene.{scene_of}
use Rattle.stack_equilibrium.specs.Answers.{body_number}

-- the free body with number b, of those before body n
abbrev pub free_below : Scene → ℕ → ℕ → ℕ
free_below s zero b = 0
free_below s (suc n) b = cond ((s.body n).free && eqb b (free_before s n)) n (free_below s n b)

-- the free body with number b, of all bodies
abbrev pub free_at : Scene → ℕ → ℕ
free_at s b = free_below s s.bodies b

-- how many bodies are free
abbrev pub free_bodies : Scene → ℕ
free_bodies s = free_before s s.bodies

-- each free body has a number below their count, and is the body with this number
pub record IsFound (s : Scene) (i : ℕ) : Type 0 where
  pub numbered : free_before s i < free_bodies s
  pub found : free_at s (free_before s i) ≡ i

-- whatever the scene, each of its free bodies is found by its number
abbrev pub FreeBodiesAreFound : Type 0
FreeBodiesAreFound = (s : Scene) (i : ℕ) → i < s.bodies → (s.body i).free ≡ true → IsFound s i

-- in the scene of a survey the free bodies are its free blocks
pub record AreFreeBlocks (v : Surveyed) : Type 0 where
  pub count : free_bodies (scene_of v) ≡ length (frees_of v.structure.bodies)
  pub body : (b : ℕ) → b < length (frees_of v.structure.bodies) → free_at (scene_of v) b ≡ body_number v b

-- free bodies and free blocks have the same numbers, whatever the survey
abbrev pub FreeNumbersAreThoseOfSurveys : Type 0
FreeNumbersAreThoseOfSurveys = (v : Surveyed) → AreFreeBlocks v
