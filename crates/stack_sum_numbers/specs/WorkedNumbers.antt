-- Lists of numbers worked by hand, of a post that is 2 wide and 4 high, weighs 1 for each unit of area, and is pushed
-- to the right at its upper left corner; and parts and moves of which a number is too wide, or just fits.
use Rattle.std.specs.Prelude.{◌≡◌, ◌^◌, ℤ, pos, List, [], ◌∷◌, Ok, Err, IsErr}
use Rattle.stack_contact.specs.declared.types.Bearing.{Bearing}
use Rattle.stack_whole.specs.Whole.{greatest_number, whole}
use Rattle.stack_equilibrium.specs.declared.types.Axis.TheVariants.{X, Y, M}
use Rattle.stack_equilibrium.specs.declared.types.Question.TheVariants.{Dead, Live}
use Rattle.stack_equilibrium.specs.declared.block.Block.{Block}
use Rattle.stack_worked.specs.Pieces.{negative, at_point}
use Rattle.stack_worked.specs.SurveyedPost.{drawn_post, level_bearing, surveyed_post, tipping_motion}
use Rattle.stack_equilibrium.specs.WrittenSums.{block_of, written_sum, written_sums}
use Rattle.stack_equilibrium.specs.WrittenVelocities.{written_opening}
use Rattle.stack_equilibrium.specs.WrittenPowers.{written_power}
use Rattle.stack_sum_numbers.specs.SumNumbers.{sum_numbers}
use Rattle.stack_sum_numbers.specs.RateNumbers.{gap_numbers}
use Rattle.stack_sum_numbers.specs.PowerNumbers.{power_numbers}

-- the post's left foot
abbrev pub left_foot : Bearing
left_foot = level_bearing (at_point (pos 0) (pos 0))

-- the post's right foot
abbrev pub right_foot : Bearing
right_foot = level_bearing (at_point (pos 2) (pos 0))

-- the ground, as a block
abbrev pub ground_block : Block
ground_block = block_of drawn_post 0

-- the post, as a block
abbrev pub post_block : Block
post_block = block_of drawn_post 1

-- a bearing of the ground and a third body, and the right foot
abbrev pub two_bearings : List Bearing
two_bearings =
    record {
      first = 0;
      second = 2;
      at = at_point (pos 5) (pos 0);
      frame = right_foot.frame;
      cone = right_foot.cone;
    }
    ∷ right_foot ∷ []

-- what these two bearings bear where the post tips
abbrev pub two_pairs : List (ℤ × ℤ)
two_pairs = (pos 7, pos 3) ∷ (pos 48, negative 12) ∷ []

-- the right foot alone, where it bears these parts
abbrev pub one_pair : ℤ → ℤ → List (ℤ × ℤ)
one_pair a b = (a, b) ∷ []

-- the greatest number that fits
abbrev pub greatest_fitting : ℤ
greatest_fitting = pos greatest_number

-- the number after that, which is too wide
abbrev pub least_too_wide : ℤ
least_too_wide = pos (2 ^ 127)

-- the numbers of the post's sums, where it tips with the factor 2: nothing is made of the bearing that isn't its own.
-- The ground bears the opposite, about its own first corner
pub record WorkedSums : Type 0 where
  pub along_x : sum_numbers X post_block (pos 1) (pos 2) two_bearings two_pairs
      ≡ negative 12 ∷ pos 0 ∷ negative 12 ∷ negative 12 ∷ pos 0 ∷ negative 12 ∷ pos 12 ∷ pos 0 ∷ []
  pub along_y : sum_numbers Y post_block (pos 1) (pos 2) two_bearings two_pairs
      ≡ pos 48 ∷ pos 0 ∷ pos 48 ∷ pos 48 ∷ negative 48 ∷ pos 0 ∷ pos 0 ∷ pos 0 ∷ []
  pub about : sum_numbers M post_block (pos 1) (pos 2) two_bearings two_pairs
      ≡ negative 12 ∷ pos 0 ∷ negative 12 ∷ pos 48 ∷ pos 0 ∷ pos 48 ∷ pos 96 ∷ pos 0 ∷ pos 96 ∷ pos 96
      ∷ negative 48 ∷ pos 48 ∷ negative 48 ∷ pos 0 ∷ []
  pub of_the_ground : sum_numbers X ground_block (pos 1) (pos 2) two_bearings two_pairs
      ≡ pos 3 ∷ pos 0 ∷ pos 3 ∷ negative 3 ∷ negative 12 ∷ pos 0 ∷ negative 12 ∷ pos 9 ∷ pos 0 ∷ pos 9 ∷ pos 0
      ∷ pos 9 ∷ []
  pub about_the_ground : sum_numbers M ground_block (pos 1) (pos 2) two_bearings two_pairs
      ≡ pos 3 ∷ pos 0 ∷ pos 3 ∷ pos 7 ∷ pos 0 ∷ pos 7 ∷ pos 105 ∷ pos 3 ∷ pos 102 ∷ negative 102
      ∷ negative 12 ∷ pos 0 ∷ negative 12 ∷ pos 48 ∷ pos 0 ∷ pos 48 ∷ pos 576 ∷ negative 12 ∷ pos 588 ∷ negative 690
      ∷ negative 1200 ∷ negative 1890 ∷ pos 0 ∷ negative 1890 ∷ []

-- a part of 2^127 along the tangent is refused, and one less than that isn't
pub record WorkedSumsAtTheLimit : Type 0 where
  pub is_too_wide : IsErr (written_sum X post_block (whole (pos 1)) (whole (pos 0)) (right_foot ∷ [])
      (one_pair (pos 0) least_too_wide))
  pub fits : written_sum X post_block (whole (pos 1)) (whole (pos 0)) (right_foot ∷ [])
      (one_pair (pos 0) greatest_fitting) ≡ Ok (whole greatest_fitting)
  pub pushed_once_more : IsErr (written_sum X post_block (whole (pos 1)) (whole (pos 1)) (right_foot ∷ [])
      (one_pair (pos 0) greatest_fitting))
  pub along_x_first : written_sums post_block (whole (pos 1)) (whole (pos 0)) (right_foot ∷ [])
      (one_pair least_too_wide least_too_wide) ≡ Err (record { axis = X })
  pub along_y_first : written_sums post_block (whole (pos 1)) (whole (pos 0)) (right_foot ∷ [])
      (one_pair least_too_wide (pos 0)) ≡ Err (record { axis = Y })
  pub about_first : written_sums post_block (whole (pos 1)) (whole (pos 0)) (right_foot ∷ [])
      (one_pair greatest_fitting (pos 0)) ≡ Err (record { axis = M })

-- how the post's two feet open and slide where it tips
pub record WorkedRates : Type 0 where
  pub left_opens : gap_numbers surveyed_post tipping_motion left_foot
      ≡ pos 0 ∷ pos 0 ∷ pos 0 ∷ pos 2 ∷ pos 0 ∷ pos 2 ∷ pos 2 ∷ pos 0 ∷ pos 2 ∷ pos 0 ∷ pos 0 ∷ pos 0 ∷ []
  pub right_stays : gap_numbers surveyed_post tipping_motion right_foot
      ≡ pos 0 ∷ pos 0 ∷ negative 2 ∷ pos 0 ∷ pos 0 ∷ pos 0 ∷ pos 0 ∷ pos 0 ∷ pos 0 ∷ pos 0 ∷ pos 0 ∷ pos 0 ∷ []
  pub fits : written_opening surveyed_post ((pos 0, greatest_fitting, pos 0) ∷ []) 1 ≡ Ok (greatest_fitting, pos 0)
  pub is_too_wide : IsErr (written_opening surveyed_post ((pos 0, greatest_fitting, pos 1) ∷ []) 1)

-- the work of the loads where the post tips: the dead loads lose 48, and the live loads gain half of it
pub record WorkedPowers : Type 0 where
  pub dead : power_numbers Dead surveyed_post tipping_motion
      ≡ pos 0 ∷ pos 0 ∷ negative 96 ∷ negative 96 ∷ pos 48 ∷ negative 48 ∷ []
  pub live : power_numbers Live surveyed_post tipping_motion
      ≡ pos 0 ∷ pos 0 ∷ pos 0 ∷ pos 0 ∷ pos 24 ∷ pos 24 ∷ []
  pub fits : written_power Live surveyed_post ((pos 0, least_too_wide, pos 0) ∷ []) ≡ Ok (pos 0)
  pub is_too_wide : IsErr (written_power Dead surveyed_post ((pos 0, least_too_wide, pos 0) ∷ []))
