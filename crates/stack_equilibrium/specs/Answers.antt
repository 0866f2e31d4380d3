-- What the functions of a survey give, by the survey's scene. Free blocks are told by their numbers among the
-- free ones, counted from 0.
use Rattle.std.specs.Prelude.{◌≡◌, ℕ, ℤ, Bool, Ok}
use Rattle.stack_contact.specs.Surveyed.{Surveyed}
use Rattle.stack_contact.specs.FreeBlocks.{free_of}
use Rattle.stack_certificate.specs.Certificate.{ForcesValue, MotionValue}
use Rattle.stack_statics.specs.declared.wrench.Wrench.{Wrench}
use Rattle.stack_equilibrium.specs.declared.types.Question.{Question}
use Rattle.stack_equilibrium.specs.declared.types.Question.TheVariants.{Dead, Live}
use Rattle.stack_statics.specs.Scene.{Move, SceneBody, Scene}
use Rattle.stack_statics.specs.Balance.{sum_x_of, sum_y_of, sum_m_of, edge_of_cone, exerted_on}
use Rattle.stack_statics.specs.Motions.{opening_of, slide_of, dead_power_of, live_power_of}
use Rattle.stack_equilibrium.specs.SurveyScene.{scene_of}
use Rattle.stack_equilibrium.specs.Held.{part_at, move_at}
use Rattle.stack_equilibrium.specs.WrittenSums.{written_sums_at}
use Rattle.stack_equilibrium.specs.WrittenVelocities.{written_opening}
use Rattle.stack_equilibrium.specs.WrittenPowers.{written_power}

-- body i with its loads, as the scene has it
abbrev pub body_in : Surveyed → ℕ → SceneBody
body_in s i = (scene_of s).body i

-- the body that is free block number b
abbrev pub body_number : Surveyed → ℕ → ℕ
body_number s b = free_of s.structure.bodies b

-- the sums of body i: its contact wrenches, scale times its dead loads and factor times its live loads
pub record AreSums (s : Surveyed) (f : ForcesValue) (i : ℕ) (w : Wrench) : Type 0 where
  pub x : w.fx ≡ sum_x_of (scene_of s) (part_at f) f.scale f.factor i
  pub y : w.fy ≡ sum_y_of (scene_of s) (part_at f) f.scale f.factor i
  pub m : w.m ≡ sum_m_of (scene_of s) (part_at f) f.scale f.factor i

-- what an edge of the cone of bearing k exerts on body i
abbrev pub column_of : Surveyed → ℕ → Bool → ℕ → Wrench
column_of s k plus i = let z = (scene_of s).bearing k in exerted_on (scene_of s) i z (edge_of_cone z plus)

-- the opening and the slide of bearing k
pub record AreRates (s : Surveyed) (y : MotionValue) (k : ℕ) (rates : ℤ × ℤ) : Type 0 where
  pub opening : rates.0 ≡ opening_of (scene_of s) (move_at s y) ((scene_of s).bearing k)
  pub slide : rates.1 ≡ slide_of (scene_of s) (move_at s y) ((scene_of s).bearing k)

-- the work of the dead or the live loads on a motion
abbrev pub asked_power_of : Question → Scene → (ℕ → Move) → ℤ
asked_power_of Dead s y = dead_power_of s y
asked_power_of Live s y = live_power_of s y

-- where no written number is too wide, the sums of a block are those of the scene, of any bodies and bearings
abbrev pub SumsAreThoseOfTheScene : Type 0
SumsAreThoseOfTheScene = (s : Surveyed) (f : ForcesValue) (i : ℕ) (w : Wrench) → written_sums_at s f i ≡ Ok w →
    AreSums s f i w

-- where no number of their written order is too wide, opening and slide are those of the scene
abbrev pub RatesAreThoseOfTheScene : Type 0
RatesAreThoseOfTheScene = (s : Surveyed) (y : MotionValue) (k : ℕ) (rates : ℤ × ℤ) →
    written_opening s y k ≡ Ok rates → AreRates s y k rates

-- where none of its numbers is too wide, the power of the dead or of the live loads is that of the scene
abbrev pub PowersAreThoseOfTheScene : Type 0
PowersAreThoseOfTheScene = (q : Question) (s : Surveyed) (y : MotionValue) (power : ℤ) →
    written_power q s y ≡ Ok power → power ≡ asked_power_of q (scene_of s) (move_at s y)
