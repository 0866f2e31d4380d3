-- What the worked certificates show of the factors that are carried, by the laws of certificates.
use Rattle.std.specs.Prelude.{ℤ, pos, ◌*ℤ◌}
use Rattle.stack_algebra.specs.IntegerOrder.{◌≼◌, ◌≺◌}
use Rattle.stack_statics.specs.Balance.{Carries}
use Rattle.stack_worked.specs.Scenes.{pushed_post, pressed_post, block_on_slope, block_on_slick_slope}

-- the factors that a post and a block on a slope carry
pub record FactorsOfWorkedScenes : Type 0 where
  -- the pushed post carries twice the push and no more, over whatever denominator
  pub post_carries_two : Carries pushed_post (pos 2) (pos 1)
  pub post_carries_no_more : (L D : ℤ) → pos 2 *ℤ D ≺ L → ¬ (Carries pushed_post L D)
  -- pressed down it carries any load
  pub post_carries_any_pressure : (L D : ℤ) → pos 0 ≼ L → pos 0 ≺ D → Carries pressed_post L D
  -- the block stands on the rougher slope, and by no forces at all on the slicker one
  pub slope_carries_its_block : Carries block_on_slope (pos 0) (pos 1)
  pub slick_slope_does_not : (D : ℤ) → pos 0 ≺ D → ¬ (Carries block_on_slick_slope (pos 0) D)
