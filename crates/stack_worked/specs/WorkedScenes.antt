-- What is true and what is false of small structures worked by hand. It shows that the definitions of a true
-- certificate say what they should: changed copies of true ones break their conditions one by one.
use Rattle.std.specs.Prelude.{pos, [], ◌∷◌}
use Rattle.stack_statics.specs.Certificates.{IsTrueStands, IsTrueCollapse, IsTrueGreatest, IsTrueUnbounded}
use Rattle.stack_worked.specs.Pieces.{negative, forces_with, standing_forces, bearing_part, straight, move}
use Rattle.stack_worked.specs.Scenes.{standing_post, pushed_post, sliding_post, pressed_post, clamped_post}
use Rattle.stack_worked.specs.Scenes.{block_on_slope, block_on_slick_slope, smooth_keystone, rough_keystone}
use Rattle.stack_worked.specs.Scenes.{gripped_keystone, overhanging_block, loaded_overhanging_block}
use Rattle.stack_worked.specs.Scenes.{standing_parts, tipping_parts, tipping_parts_without_the_first}
use Rattle.stack_worked.specs.Scenes.{two_idle_parts, idle_keystone_forces, grip}
use Rattle.stack_worked.specs.Scenes.{sliding_forces, slope_forces, tipping_move, slipping_move, rising_move}
use Rattle.stack_worked.specs.Scenes.{toppling_move}
use Rattle.stack_worked.specs.TwoBlocks.{low_column, pushed_column, two_bricks, two_shifted_bricks, column_parts}
use Rattle.stack_worked.specs.TwoBlocks.{pushed_column_forces, brick_forces, upper_slides, lower_slides}
use Rattle.stack_worked.specs.TwoBlocks.{tipping_bricks, exchanged_bricks}

-- certificates that are true of the worked structures
pub record TrueOfWorkedScenes : Type 0 where
  pub post_stands : IsTrueStands standing_post (standing_forces standing_parts)
  pub post_tips_at_two : IsTrueGreatest pushed_post (forces_with (pos 1) (pos 2) tipping_parts) tipping_move
  pub post_slides_at_four_fifths : IsTrueGreatest sliding_post sliding_forces
      (move (pos 10) (pos 1) (pos 0) ∷ [])
  pub block_just_holds : IsTrueStands block_on_slope slope_forces
  pub block_slips : IsTrueCollapse block_on_slick_slope slipping_move
  pub keystone_lifts_at_twelve : IsTrueGreatest smooth_keystone idle_keystone_forces rising_move
  pub rough_keystone_lifts_at_twelve : IsTrueGreatest rough_keystone idle_keystone_forces rising_move
  pub gripped_keystone_bears_any_lift : IsTrueUnbounded gripped_keystone idle_keystone_forces grip
  pub post_bears_any_pressure : IsTrueUnbounded pressed_post (standing_forces standing_parts)
      (forces_with (pos 0) (pos 1) (straight (pos 3) ∷ straight (pos 3) ∷ []))
  pub pushes_hold_one_another : IsTrueUnbounded clamped_post (standing_forces standing_parts)
      (forces_with (pos 0) (pos 1) two_idle_parts)
  pub overhanging_block_topples : IsTrueCollapse overhanging_block toppling_move
  pub column_stands : IsTrueStands low_column (standing_forces column_parts)
  pub column_slides_at_one : IsTrueGreatest pushed_column pushed_column_forces upper_slides
  pub bricks_just_stand : IsTrueStands two_bricks brick_forces
  pub shifted_bricks_tip : IsTrueCollapse two_shifted_bricks (tipping_bricks (pos 1))

-- Changed copies that aren't true, each named after a condition that it breaks. Most are chosen so that, by a
-- reckoning by hand, no other condition is broken.
pub record FalseOfWorkedScenes : Type 0 where
  pub uneven_pushes_are_unbalanced : ¬
      (IsTrueStands standing_post (standing_forces (straight (pos 25) ∷ straight (pos 24) ∷ [])))
  -- the two pull against one another
  pub steep_parts_leave_their_cones : ¬
      (IsTrueStands standing_post (standing_forces (bearing_part (pos 24) (pos 25)
      ∷ bearing_part (pos 24) (negative 25) ∷ [])))
  pub pull_leaves_its_cone : ¬
      (IsTrueStands standing_post (standing_forces (straight (negative 1) ∷ straight (pos 24) ∷ [])))
  -- although there is no live load
  pub standing_has_no_factor : ¬ (IsTrueStands standing_post (forces_with (pos 1) (pos 1) standing_parts))
  -- the forces of nothing balance nothing
  pub standing_has_a_scale : ¬ (IsTrueStands standing_post (forces_with (pos 0) (pos 0) two_idle_parts))
  pub one_part_is_missing : ¬ (IsTrueStands standing_post (standing_forces tipping_parts_without_the_first))
  pub heavier_part_is_unbalanced : ¬
      (IsTrueGreatest pushed_post (forces_with (pos 1) (pos 2)
      (straight (pos 0) ∷ bearing_part (pos 49) (negative 12) ∷ []))
      tipping_move)
  -- the first part makes up for the second
  pub steeper_part_leaves_its_cone : ¬
      (IsTrueGreatest pushed_post
      (forces_with (pos 1) (pos 2) (bearing_part (pos 0) (pos 37) ∷ bearing_part (pos 48) (negative 49)
      ∷ [])) tipping_move)
  pub pull_of_the_pushed_post_leaves_its_cone : ¬
      (IsTrueGreatest pushed_post
      (forces_with (pos 1) (pos 2) (straight (negative 1) ∷ bearing_part (pos 48) (negative 12) ∷ [])) tipping_move)
  pub first_part_is_missing : ¬
      (IsTrueGreatest pushed_post (forces_with (pos 1) (pos 2) tipping_parts_without_the_first) tipping_move)
  pub greatest_has_a_scale : ¬
      (IsTrueGreatest pushed_post (forces_with (pos 0) (pos 0) two_idle_parts) tipping_move)
  pub greatest_has_a_factor_from_0_up : ¬
      (IsTrueGreatest pushed_post (forces_with (pos 1) (negative 2) tipping_parts) tipping_move)
  pub still_motion_does_no_work : ¬
      (IsTrueGreatest pushed_post (forces_with (pos 1) (pos 2) tipping_parts)
      (move (pos 0) (pos 0) (pos 0) ∷ []))
  -- a factor below the greatest
  pub standing_forces_do_not_meet : ¬
      (IsTrueGreatest pushed_post (standing_forces standing_parts) tipping_move)
  pub flat_slide_is_resisted : ¬
      (IsTrueGreatest sliding_post sliding_forces (move (pos 1) (pos 0) (pos 0) ∷ []))
  pub slip_is_resisted_on_the_rougher_slope : ¬ (IsTrueCollapse block_on_slope slipping_move)
  pub slope_parts_leave_the_slicker_cone : ¬ (IsTrueStands block_on_slick_slope slope_forces)
  pub fall_is_resisted_by_the_ground : ¬
      (IsTrueCollapse standing_post (move (pos 0) (negative 1) (pos 0) ∷ []))
  pub part_too_many : ¬
      (IsTrueStands standing_post
      (standing_forces (straight (pos 24) ∷ straight (pos 24) ∷ straight (pos 0) ∷ [])))
  pub lone_drag_is_unbalanced : ¬
      (IsTrueStands standing_post (standing_forces (bearing_part (pos 24) (pos 1) ∷ straight (pos 24) ∷ [])))
  -- the certificate of the post on rougher ground
  pub slicker_ground_holds_no_tipping_post : ¬
      (IsTrueGreatest sliding_post (forces_with (pos 1) (pos 2) tipping_parts) tipping_move)
  pub last_idle_part_is_missing : ¬
      (IsTrueGreatest smooth_keystone
      (forces_with (pos 1) (pos 12) (straight (pos 0) ∷ straight (pos 0) ∷ straight (pos 0) ∷ [])) rising_move)
  -- two pushes and two pulls within the keystone, which balance one another
  pub joints_of_the_keystone_do_not_pull : ¬
      (IsTrueGreatest smooth_keystone
      (forces_with (pos 1) (pos 12)
      (straight (negative 1) ∷ straight (pos 1) ∷ straight (pos 1) ∷ straight (negative 1) ∷ [])) rising_move)
  pub move_too_many : ¬
      (IsTrueCollapse block_on_slick_slope
      (move (negative 61) (negative 2) (pos 0) ∷ move (pos 0) (pos 0) (pos 0) ∷ []))
  pub ray_has_no_scale : ¬
      (IsTrueUnbounded pressed_post (standing_forces standing_parts)
      (forces_with (pos 1) (pos 1) (straight (pos 27) ∷ straight (pos 27) ∷ [])))
  pub ray_rises : ¬
      (IsTrueUnbounded pressed_post (standing_forces standing_parts) (forces_with (pos 0) (pos 0) two_idle_parts))
  pub base_has_a_factor_from_0_up : ¬
      (IsTrueUnbounded pressed_post
      (forces_with (pos 1) (negative 1) (straight (pos 21) ∷ straight (pos 21) ∷ []))
      (forces_with (pos 0) (pos 1) (straight (pos 3) ∷ straight (pos 3) ∷ [])))
  pub ray_of_the_pushed_post_pulls : ¬
      (IsTrueUnbounded pushed_post (standing_forces standing_parts)
      (forces_with (pos 0) (pos 1) (straight (negative 12) ∷ bearing_part (pos 12) (negative 6) ∷ [])))
  pub grip_leaves_the_smoother_cones : ¬ (IsTrueUnbounded rough_keystone idle_keystone_forces grip)
  -- the table would have to hold the block down
  pub pull_holds_the_overhanging_block : ¬
      (IsTrueStands overhanging_block (standing_forces (straight (negative 24) ∷ straight (pos 48) ∷ [])))
  -- the block is held only if the load pulls up instead, by 4/3 of it at least
  pub greatest_factor_below_0_is_none : ¬
      (IsTrueGreatest loaded_overhanging_block
      (forces_with (pos 3) (negative 4) (straight (pos 0) ∷ straight (pos 48) ∷ [])) toppling_move)
  -- the two joints' parts in the wrong order
  pub column_does_not_stand_on_its_head : ¬
      (IsTrueStands low_column
      (standing_forces (straight (pos 6) ∷ straight (pos 6) ∷ straight (pos 12) ∷ straight (pos 12) ∷ [])))
  -- each block's own weight on its own foot: the lower one bears the upper one too
  pub no_block_stands_by_itself : ¬
      (IsTrueStands low_column
      (standing_forces (straight (pos 6) ∷ straight (pos 6) ∷ straight (pos 6) ∷ straight (pos 6) ∷ [])))
  -- the two moves in the wrong order
  pub lower_block_does_not_slide : ¬ (IsTrueGreatest pushed_column pushed_column_forces lower_slides)
  pub exchanged_bricks_are_resisted : ¬ (IsTrueCollapse two_shifted_bricks exchanged_bricks)
  -- of the bricks that just stand
  pub forces_do_not_hold_the_shifted_bricks : ¬ (IsTrueStands two_shifted_bricks brick_forces)
  pub tipping_gains_nothing_where_they_just_stand : ¬ (IsTrueCollapse two_bricks (tipping_bricks (pos 0)))
