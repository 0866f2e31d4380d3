-- The drawn post, listed as a file lists it, is taken without a fault.
use mathlib.Core.Path.{refl}
use Rattle.stack_model.specs.Content.{content_of, head_of, joints_of, add_joint, loads_of, bodies_of, add_material}
use Rattle.stack_model.specs.Content.{with_material, add_block, with_body}
use Rattle.stack_model.specs.Content.{add_load}
use Rattle.stack_worked.specs.SurveyedPost.{PostIsTaken}

pub post_is_taken : PostIsTaken
unfolding content_of head_of joints_of add_joint bodies_of loads_of add_material with_material add_block with_body
    add_load
post_is_taken = refl
