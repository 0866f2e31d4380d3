-- Structures of two free blocks, worked by hand: a low column, and two bricks that lean out over a table's edge.
use Rattle.std.specs.Prelude.{ℤ, pos, ◌+ℤ◌, ◌-ℤ◌, List, [], ◌∷◌, true}
use Rattle.stack_statics.specs.declared.wrench.Wrench.{Wrench}
use Rattle.stack_statics.specs.Scene.{Move, BearingPart, Scene}
use Rattle.stack_statics.specs.Loads.{no_load, load_wrench}
use Rattle.stack_statics.specs.Certificates.{SceneForces}
use Rattle.stack_worked.specs.Pieces.{negative, at_point, upright, body_with, fixed_body, free_body}
use Rattle.stack_worked.specs.Pieces.{bearing_between, scene_of_lists, forces_with, standing_forces}
use Rattle.stack_worked.specs.Pieces.{bearing_part, straight, move}
use Rattle.stack_worked.specs.Scenes.{ground_corners}

-- two blocks, each 2 wide and 1 high, one on the other, with friction 1 over 2 and a live load on the upper one
abbrev pub column_scene : Wrench → Scene
column_scene live = scene_of_lists
    (fixed_body ground_corners ∷ free_body (upright (pos 0) (pos 2) (pos 0) (pos 1))
    ∷ body_with true (upright (pos 0) (pos 2) (pos 1) (pos 2)) live ∷ [])
    (bearing_between 0 1 (at_point (pos 0) (pos 0)) (pos 1) (pos 0) (pos 1) (pos 2)
    ∷ bearing_between 0 1 (at_point (pos 2) (pos 0)) (pos 1) (pos 0) (pos 1) (pos 2)
    ∷ bearing_between 1 2 (at_point (pos 0) (pos 1)) (pos 1) (pos 0) (pos 1) (pos 2)
    ∷ bearing_between 1 2 (at_point (pos 2) (pos 1)) (pos 1) (pos 0) (pos 1) (pos 2) ∷ [])

-- the column with no load but the weights
abbrev pub low_column : Scene
low_column = column_scene no_load

-- the column pushed to the right by one unit at its upper left corner
abbrev pub pushed_column : Scene
pushed_column = column_scene (load_wrench (at_point (pos 0) (pos 1)) (at_point (pos 0) (pos 2)) (pos 1) (pos 0))

-- the ground bears the weight of both, and the lower block that of the upper one
abbrev pub column_parts : List BearingPart
column_parts = straight (pos 12) ∷ straight (pos 12) ∷ straight (pos 6) ∷ straight (pos 6) ∷ []

-- the forces that hold the pushed column as its upper block slides off
abbrev pub pushed_column_forces : SceneForces
pushed_column_forces = forces_with (pos 2) (pos 2)
    (bearing_part (pos 12) (negative 3) ∷ bearing_part (pos 36) (negative 9) ∷ bearing_part (pos 6) (negative 3)
    ∷ bearing_part (pos 18) (negative 9) ∷ [])

-- the lower block stays and the upper one slides, rising by half of its way
abbrev pub upper_slides : List Move
upper_slides = move (pos 0) (pos 0) (pos 0) ∷ move (pos 2) (pos 1) (pos 0) ∷ []

-- the lower block slides, rising by half of its way, and the upper one stays
abbrev pub lower_slides : List Move
lower_slides = move (pos 2) (pos 1) (pos 0) ∷ move (pos 0) (pos 0) (pos 0) ∷ []

-- two bricks without friction, 5,040 long and 1,000 high, at the edge of a table: the lower one ends a quarter of
-- its length beyond the edge, the upper one three quarters and d more
abbrev pub bricks_scene : ℤ → Scene
bricks_scene d = scene_of_lists
    (fixed_body (upright (negative 10080) (pos 0) (negative 1000) (pos 0))
    ∷ free_body (upright (negative 3780) (pos 1260) (pos 0) (pos 1000))
    ∷ free_body (upright (d -ℤ pos 1260) (d +ℤ pos 3780) (pos 1000) (pos 2000)) ∷ [])
    (bearing_between 0 1 (at_point (negative 3780) (pos 0)) (pos 1) (pos 0) (pos 0) (pos 1)
    ∷ bearing_between 0 1 (at_point (pos 0) (pos 0)) (pos 1) (pos 0) (pos 0) (pos 1)
    ∷ bearing_between 1 2 (at_point (d -ℤ pos 1260) (pos 1000)) (pos 1) (pos 0) (pos 0) (pos 1)
    ∷ bearing_between 1 2 (at_point (pos 1260) (pos 1000)) (pos 1) (pos 0) (pos 0) (pos 1) ∷ [])

-- the upper brick ends three quarters of its length beyond the edge
abbrev pub two_bricks : Scene
two_bricks = bricks_scene (pos 0)

-- the upper brick ends one unit further out than that
abbrev pub two_shifted_bricks : Scene
two_shifted_bricks = bricks_scene (pos 1)

-- each brick bears at its outer end alone
abbrev pub brick_forces : SceneForces
brick_forces = standing_forces
    (straight (pos 0) ∷ straight (pos 60480000) ∷ straight (pos 0) ∷ straight (pos 30240000) ∷ [])

-- both bricks turn about the table's edge as one, the upper one with its first corner at d - 1260
abbrev pub tipping_bricks : ℤ → List Move
tipping_bricks d =
    move (pos 0) (pos 3780) (negative 1) ∷ move (pos 1000) (pos 1260 -ℤ d) (negative 1) ∷ []

-- where d is 1, each brick with the move of the other
abbrev pub exchanged_bricks : List Move
exchanged_bricks = move (pos 1000) (pos 1259) (negative 1) ∷ move (pos 0) (pos 3780) (negative 1) ∷ []
