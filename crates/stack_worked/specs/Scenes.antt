-- Small structures worked by hand, with the forces and the motions that their certificates have.
use Rattle.std.specs.Prelude.{ℤ, pos, List, [], ◌∷◌, true}
use Rattle.stack_polygon.specs.declared.point.Point.{Point}
use Rattle.stack_statics.specs.declared.wrench.Wrench.{Wrench}
use Rattle.stack_statics.specs.Scene.{Move, BearingPart, Scene}
use Rattle.stack_statics.specs.Loads.{no_load, wrench_sum, load_wrench}
use Rattle.stack_statics.specs.Certificates.{SceneForces}
use Rattle.stack_worked.specs.Pieces.{negative, at_point, upright, body_with, fixed_body, free_body}
use Rattle.stack_worked.specs.Pieces.{bearing_between, scene_of_lists, forces_with}
use Rattle.stack_worked.specs.Pieces.{bearing_part, straight, move}

-- the ground, from (-10, -1) to (10, 0)
abbrev pub ground_corners : List Point
ground_corners = upright (negative 10) (pos 10) (negative 1) (pos 0)

-- the post, from (0, 0) to (2, 4)
abbrev pub post_corners : List Point
post_corners = upright (pos 0) (pos 2) (pos 0) (pos 4)

-- the post on the ground, with friction p over q and a live load
abbrev pub post_scene : ℤ → ℤ → Wrench → Scene
post_scene p q live = scene_of_lists
    (fixed_body ground_corners ∷ body_with true post_corners live ∷ [])
    (bearing_between 0 1 (at_point (pos 0) (pos 0)) (pos 1) (pos 0) p q
    ∷ bearing_between 0 1 (at_point (pos 2) (pos 0)) (pos 1) (pos 0) p q ∷ [])

-- a push of one unit to the right at the post's upper left corner
abbrev pub push : Wrench
push = load_wrench (at_point (pos 0) (pos 0)) (at_point (pos 0) (pos 4)) (pos 1) (pos 0)

-- the post with no load but its weight, and friction 1 over 1
abbrev pub standing_post : Scene
standing_post = post_scene (pos 1) (pos 1) no_load

-- the post with the push, and friction 1 over 1
abbrev pub pushed_post : Scene
pushed_post = post_scene (pos 1) (pos 1) push

-- the post with the push, and friction of a tenth
abbrev pub sliding_post : Scene
sliding_post = post_scene (pos 1) (pos 10) push

-- the post pressed down by one unit at the middle of its head
abbrev pub pressed_post : Scene
pressed_post = post_scene (pos 1) (pos 1)
    (load_wrench (at_point (pos 0) (pos 0)) (at_point (pos 1) (pos 4)) (pos 0) (negative 1))

-- the post pushed from both sides at one point
abbrev pub clamped_post : Scene
clamped_post = post_scene (pos 1) (pos 1)
    (wrench_sum push (load_wrench (at_point (pos 0) (pos 0)) (at_point (pos 0) (pos 4)) (negative 1) (pos 0)))

-- half the post's weight on each corner of its foot
abbrev pub standing_parts : List BearingPart
standing_parts = straight (pos 24) ∷ straight (pos 24) ∷ []

-- the parts that hold the pushed post as it tips
abbrev pub tipping_parts : List BearingPart
tipping_parts = straight (pos 0) ∷ bearing_part (pos 48) (negative 12) ∷ []

-- the second part alone, though the post has two bearings
abbrev pub tipping_parts_without_the_first : List BearingPart
tipping_parts_without_the_first = bearing_part (pos 48) (negative 12) ∷ []

-- two bearings that bear nothing
abbrev pub two_idle_parts : List BearingPart
two_idle_parts = straight (pos 0) ∷ straight (pos 0) ∷ []

-- the post turns clockwise about its lower right corner
abbrev pub tipping_move : List Move
tipping_move = move (pos 0) (pos 2) (negative 1) ∷ []

-- the forces that hold the post as it slides, where the friction is a tenth
abbrev pub sliding_forces : SceneForces
sliding_forces = forces_with (pos 25) (pos 20) (bearing_part (pos 360) (negative 36)
    ∷ bearing_part (pos 840) (negative 84) ∷ [])

-- a square block on a slope of 3 in 4, with friction p over q
abbrev pub slope_scene : ℤ → ℤ → Scene
slope_scene p q = scene_of_lists
    (fixed_body (at_point (pos 0) (pos 0) ∷ at_point (pos 12) (pos 0) ∷ at_point (pos 12) (pos 9) ∷ [])
    ∷ free_body (at_point (pos 4) (pos 3) ∷ at_point (pos 8) (pos 6) ∷ at_point (pos 5) (pos 10)
    ∷ at_point (pos 1) (pos 7) ∷ []) ∷ [])
    (bearing_between 0 1 (at_point (pos 4) (pos 3)) (pos 4) (pos 3) p q
    ∷ bearing_between 0 1 (at_point (pos 8) (pos 6)) (pos 4) (pos 3) p q ∷ [])

-- the block on the slope with friction 3 over 4, which is as steep as the slope
abbrev pub block_on_slope : Scene
block_on_slope = slope_scene (pos 3) (pos 4)

-- the block on the slope with friction 7 over 10, which is less
abbrev pub block_on_slick_slope : Scene
block_on_slick_slope = slope_scene (pos 7) (pos 10)

-- what the slope bears where its friction just holds the block
abbrev pub slope_forces : SceneForces
slope_forces = forces_with (pos 4) (pos 0) (bearing_part (pos 84) (pos 63) ∷ bearing_part (pos 12) (pos 9) ∷ [])

-- the block moves down the slope, and off it by 7 tenths of that way, without turning
abbrev pub slipping_move : List Move
slipping_move = move (negative 61) (negative 2) (pos 0) ∷ []

-- a keystone between two abutments that lean apart, with friction p over q, lifted at its top by one unit
abbrev pub keystone_scene : ℤ → ℤ → Scene
keystone_scene p q = scene_of_lists
    (fixed_body (at_point (negative 10) (pos 0) ∷ at_point (negative 1) (pos 0)
    ∷ at_point (negative 2) (pos 4) ∷ at_point (negative 10) (pos 4) ∷ [])
    ∷ fixed_body (at_point (pos 1) (pos 0) ∷ at_point (pos 10) (pos 0) ∷ at_point (pos 10) (pos 4)
    ∷ at_point (pos 2) (pos 4) ∷ [])
    ∷ body_with true (at_point (negative 1) (pos 0) ∷ at_point (pos 1) (pos 0) ∷ at_point (pos 2) (pos 4)
    ∷ at_point (negative 2) (pos 4) ∷ [])
    (load_wrench (at_point (negative 1) (pos 0)) (at_point (pos 0) (pos 4)) (pos 0) (pos 1)) ∷ [])
    (bearing_between 0 2 (at_point (negative 2) (pos 4)) (pos 1) (negative 4) p q
    ∷ bearing_between 0 2 (at_point (negative 1) (pos 0)) (pos 1) (negative 4) p q
    ∷ bearing_between 1 2 (at_point (pos 1) (pos 0)) (pos 1) (pos 4) p q
    ∷ bearing_between 1 2 (at_point (pos 2) (pos 4)) (pos 1) (pos 4) p q ∷ [])

-- the keystone without friction
abbrev pub smooth_keystone : Scene
smooth_keystone = keystone_scene (pos 0) (pos 1)

-- the keystone with friction 1 over 4, as its faces lean
abbrev pub rough_keystone : Scene
rough_keystone = keystone_scene (pos 1) (pos 4)

-- the keystone with friction 3 over 10, which is more
abbrev pub gripped_keystone : Scene
gripped_keystone = keystone_scene (pos 3) (pos 10)

-- no joint of the keystone bears anything
abbrev pub four_idle_parts : List BearingPart
four_idle_parts = straight (pos 0) ∷ straight (pos 0) ∷ straight (pos 0) ∷ straight (pos 0) ∷ []

-- the lift alone carries the keystone, with the factor 12
abbrev pub idle_keystone_forces : SceneForces
idle_keystone_forces = forces_with (pos 1) (pos 12) four_idle_parts

-- the grip of both abutments at the keystone's upper corners, which holds twice the lift alone
abbrev pub grip : SceneForces
grip = forces_with (pos 0) (pos 2)
    (bearing_part (pos 30) (pos 9) ∷ straight (pos 0) ∷ straight (pos 0) ∷ bearing_part (pos 30) (negative 9) ∷ [])

-- the keystone rises straight up
abbrev pub rising_move : List Move
rising_move = move (pos 0) (pos 1) (pos 0) ∷ []

-- a block 4 wide and 1 high, laid three quarters beyond the edge of a table, without friction, with a live load
abbrev pub overhanging_scene : Wrench → Scene
overhanging_scene live = scene_of_lists
    (fixed_body (upright (negative 4) (pos 0) (negative 1) (pos 0))
    ∷ body_with true (upright (negative 1) (pos 3) (pos 0) (pos 1)) live ∷ [])
    (bearing_between 0 1 (at_point (negative 1) (pos 0)) (pos 1) (pos 0) (pos 0) (pos 1)
    ∷ bearing_between 0 1 (at_point (pos 0) (pos 0)) (pos 1) (pos 0) (pos 0) (pos 1) ∷ [])

-- the block with no load but its weight, whose middle is beyond the edge
abbrev pub overhanging_block : Scene
overhanging_block = overhanging_scene no_load

-- the block pressed down by one unit at its outer upper corner
abbrev pub loaded_overhanging_block : Scene
loaded_overhanging_block = overhanging_scene
    (load_wrench (at_point (negative 1) (pos 0)) (at_point (pos 3) (pos 1)) (pos 0) (negative 1))

-- the motion of the block as it tips over the edge
abbrev pub toppling_move : List Move
toppling_move = move (pos 0) (pos 1) (negative 1) ∷ []
