-- The forces and the motion of a certificate as statics sees them: each bearing's part, and each body's move.
use Rattle.std.specs.Prelude.{ℕ, ℤ, List, map}
use Rattle.stack_contact.specs.Surveyed.{Surveyed}
use Rattle.stack_certificate.specs.Certificate.{ForcesValue, MotionValue}
use Rattle.stack_statics.specs.Scene.{BearingPart, Move}
use Rattle.stack_statics.specs.Certificates.{SceneForces, scene_part_at, move_of}
use Rattle.stack_equilibrium.specs.SurveyScene.{scene_of}

-- a pair of numbers as a bearing's part, along the normal and along the tangent
abbrev pub part_of_pair : ℤ × ℤ → BearingPart
part_of_pair p = record { a = p.0; b = p.1 }

-- the scale and the factor as they are printed, and for each pair the part of a bearing
abbrev pub forces_of : ForcesValue → SceneForces
forces_of f = record { scale = f.scale; factor = f.factor; parts = map part_of_pair f.parts }

-- three numbers as a move: the velocity along x and along y, and the turning rate
abbrev pub move_of_triple : ℤ × ℤ × ℤ → Move
move_of_triple y = record { u = y.0; v = y.1; r = y.2 }

-- the moves of the free blocks, in the order in which they are printed
abbrev pub moves_of : MotionValue → List Move
moves_of y = map move_of_triple y

-- what bearing k bears
abbrev pub part_at : ForcesValue → ℕ → BearingPart
part_at f k = scene_part_at (forces_of f) k

-- how body i of a survey moves: the moves are those of its free blocks, in order
abbrev pub move_at : Surveyed → MotionValue → ℕ → Move
move_at s y i = move_of (scene_of s) (moves_of y) i
