-- The true certificates of all worked scenes, by computation.
use Rattle.std.proofs.Common.{refl}
use Rattle.stack_statics.specs.Certificates.{stands, collapses, greatest, unbounded}
use Rattle.stack_worked.specs.WorkedScenes.{TrueOfWorkedScenes}
use Rattle.stack_worked.proofs.Certified.{certified}

pub true_of_worked_scenes : TrueOfWorkedScenes
true_of_worked_scenes = record {
  post_stands = certified _ (stands _) refl;
  post_tips_at_two = certified _ (greatest _ _) refl;
  post_slides_at_four_fifths = certified _ (greatest _ _) refl;
  block_just_holds = certified _ (stands _) refl;
  block_slips = certified _ (collapses _) refl;
  keystone_lifts_at_twelve = certified _ (greatest _ _) refl;
  rough_keystone_lifts_at_twelve = certified _ (greatest _ _) refl;
  gripped_keystone_bears_any_lift = certified _ (unbounded _ _) refl;
  post_bears_any_pressure = certified _ (unbounded _ _) refl;
  pushes_hold_one_another = certified _ (unbounded _ _) refl;
  overhanging_block_topples = certified _ (collapses _) refl;
  column_stands = certified _ (stands _) refl;
  column_slides_at_one = certified _ (greatest _ _) refl;
  bricks_just_stand = certified _ (stands _) refl;
  shifted_bricks_tip = certified _ (collapses _) refl;
}
