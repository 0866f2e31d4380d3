-- The changed copies aren't true: each gives the condition that it breaks, which computes to a false one.
use Rattle.std.proofs.Common.{refl, arith}
use Rattle.std.proofs.lemmas.Int.{ints}
use Rattle.stack_worked.specs.WorkedScenes.{FalseOfWorkedScenes}

pub false_of_worked_scenes : FalseOfWorkedScenes
false_of_worked_scenes = record {
  uneven_pushes_are_unbalanced = λ t.
      absurd (omega (arith, ints, (t.forces.balanced 1 (omega arith) refl).along_y));
  steep_parts_leave_their_cones = λ t. absurd (omega (arith, ints, (t.forces.admissible 0 (omega arith)).within));
  pull_leaves_its_cone = λ t. absurd (omega (arith, ints, (t.forces.admissible 0 (omega arith)).pushes));
  standing_has_no_factor = λ t. absurd (omega (arith, ints, t.factor_zero));
  standing_has_a_scale = λ t. absurd (omega (arith, ints, t.scale_positive));
  one_part_is_missing = λ t. absurd (omega (arith, ints, t.forces.count));
  heavier_part_is_unbalanced = λ t.
      absurd (omega (arith, ints, (t.loaded.forces.balanced 1 (omega arith) refl).along_y));
  steeper_part_leaves_its_cone = λ t.
      absurd (omega (arith, ints, (t.loaded.forces.admissible 1 (omega arith)).within));
  pull_of_the_pushed_post_leaves_its_cone = λ t.
      absurd (omega (arith, ints, (t.loaded.forces.admissible 0 (omega arith)).pushes));
  first_part_is_missing = λ t. absurd (omega (arith, ints, t.loaded.forces.count));
  greatest_has_a_scale = λ t. absurd (omega (arith, ints, t.loaded.scale_positive));
  greatest_has_a_factor_from_0_up = λ t. absurd (omega (arith, ints, t.loaded.factor_nonneg));
  still_motion_does_no_work = λ t. absurd (omega (arith, ints, t.gains));
  standing_forces_do_not_meet = λ t. absurd (omega (arith, ints, t.meets));
  flat_slide_is_resisted = λ t. absurd (omega (arith, ints, t.motion.unresisted.opens 0 (omega arith)));
  slip_is_resisted_on_the_rougher_slope = λ t.
      absurd (omega (arith, ints, t.motion.unresisted.opens 0 (omega arith)));
  slope_parts_leave_the_slicker_cone = λ t.
      absurd (omega (arith, ints, (t.forces.admissible 0 (omega arith)).within));
  fall_is_resisted_by_the_ground = λ t. absurd (omega (arith, ints, t.motion.unresisted.opens 0 (omega arith)));
  part_too_many = λ t. absurd (omega (arith, ints, t.forces.count));
  lone_drag_is_unbalanced = λ t.
      absurd (omega (arith, ints, (t.forces.balanced 1 (omega arith) refl).along_x));
  slicker_ground_holds_no_tipping_post = λ t.
      absurd (omega (arith, ints, (t.loaded.forces.admissible 1 (omega arith)).within));
  last_idle_part_is_missing = λ t. absurd (omega (arith, ints, t.loaded.forces.count));
  joints_of_the_keystone_do_not_pull = λ t.
      absurd (omega (arith, ints, (t.loaded.forces.admissible 0 (omega arith)).pushes));
  move_too_many = λ t. absurd (omega (arith, ints, t.motion.count));
  ray_has_no_scale = λ t. absurd (omega (arith, ints, t.rises.scale_zero));
  ray_rises = λ t. absurd (omega (arith, ints, t.rises.factor_positive));
  base_has_a_factor_from_0_up = λ t. absurd (omega (arith, ints, t.loaded.factor_nonneg));
  ray_of_the_pushed_post_pulls = λ t.
      absurd (omega (arith, ints, (t.rises.forces.admissible 0 (omega arith)).pushes));
  grip_leaves_the_smoother_cones = λ t.
      absurd (omega (arith, ints, (t.rises.forces.admissible 0 (omega arith)).within));
  pull_holds_the_overhanging_block = λ t.
      absurd (omega (arith, ints, (t.forces.admissible 0 (omega arith)).pushes));
  greatest_factor_below_0_is_none = λ t. absurd (omega (arith, ints, t.loaded.factor_nonneg));
  column_does_not_stand_on_its_head = λ t.
      absurd (omega (arith, ints, (t.forces.balanced 1 (omega arith) refl).along_y));
  no_block_stands_by_itself = λ t.
      absurd (omega (arith, ints, (t.forces.balanced 1 (omega arith) refl).along_y));
  lower_block_does_not_slide = λ t. absurd (omega (arith, ints, t.motion.unresisted.opens 2 (omega arith)));
  exchanged_bricks_are_resisted = λ t.
      absurd (omega (arith, ints, t.motion.unresisted.opens 1 (omega arith)));
  forces_do_not_hold_the_shifted_bricks = λ t.
      absurd (omega (arith, ints, (t.forces.balanced 2 (omega arith) refl).about));
  tipping_gains_nothing_where_they_just_stand = λ t. absurd (omega (arith, ints, t.gains));
}
