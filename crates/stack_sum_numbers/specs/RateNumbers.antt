-- The numbers of a bearing's opening and slide, in the order in which they are made, each as an exact whole
-- number: the velocity of the later body, that of the earlier one, their difference, the opening, the slide.
use Rattle.std.specs.Prelude.{ℕ, ℤ, ◌-ℤ◌, ◌*ℤ◌, List, [], ◌∷◌, ◌++◌, if◌then◌else◌}
use Rattle.stack_model.specs.Structure.{body_of}
use Rattle.stack_contact.specs.declared.types.Bearing.{Bearing}
use Rattle.stack_contact.specs.Surveyed.{Surveyed}
use Rattle.stack_certificate.specs.Certificate.{MotionValue}
use Rattle.stack_statics.specs.Motions.{velocity_x_of, velocity_y_of, opening_of, slide_of}
use Rattle.stack_equilibrium.specs.SurveyScene.{scene_of, scene_bearing_of, first_corner_of, bearing_of}
use Rattle.stack_equilibrium.specs.Held.{move_at}
use Rattle.stack_equilibrium.specs.WrittenVelocities.{written_opening}
use Rattle.stack_sum_numbers.specs.InTurn.{IsMadeOf}

module _ (s : Surveyed) (y : MotionValue) (z : Bearing) where
  -- the velocity of body i at the bearing, along x
  abbrev pub x_rate : ℕ → ℤ
  x_rate i = velocity_x_of (scene_of s) (move_at s y) (scene_bearing_of z) i

  -- the velocity of body i at the bearing, along y
  abbrev pub y_rate : ℕ → ℤ
  y_rate i = velocity_y_of (scene_of s) (move_at s y) (scene_bearing_of z) i

  -- the numbers of body i's velocity: r*ly and the velocity along x, r*lx and that along y, with (lx, ly) the point
  -- less the body's first stored corner; none of a fixed body
  abbrev pub velocity_numbers : ℕ → List ℤ
  velocity_numbers i =
      if (body_of s.structure i).fixed then []
      else ((move_at s y i).r *ℤ (z.at.y -ℤ (first_corner_of s.structure i).y)) ∷ x_rate i
      ∷ ((move_at s y i).r *ℤ (z.at.x -ℤ (first_corner_of s.structure i).x)) ∷ y_rate i ∷ []

  -- the later body's velocity minus the earlier's, along x
  abbrev pub x_difference : ℤ
  x_difference = x_rate z.second -ℤ x_rate z.first

  -- the later body's velocity minus the earlier's, along y
  abbrev pub y_difference : ℤ
  y_difference = y_rate z.second -ℤ y_rate z.first

  -- how the bearing opens
  abbrev pub exact_opening : ℤ
  exact_opening = opening_of (scene_of s) (move_at s y) (scene_bearing_of z)

  -- how fast the two bodies slide along the bearing
  abbrev pub exact_slide : ℤ
  exact_slide = slide_of (scene_of s) (move_at s y) (scene_bearing_of z)

  -- all numbers: of both velocities, their difference, then tx*dy, ty*dx and the opening, tx*dx, ty*dy and the
  -- slide
  abbrev pub gap_numbers : List ℤ
  gap_numbers = velocity_numbers z.second ++ (velocity_numbers z.first
      ++ (x_difference ∷ y_difference
      ∷ (z.frame.tx *ℤ y_difference) ∷ (z.frame.ty *ℤ x_difference) ∷ exact_opening
      ∷ (z.frame.tx *ℤ x_difference) ∷ (z.frame.ty *ℤ y_difference) ∷ exact_slide ∷ []))

-- The written opening and slide of bearing k are the exact ones exactly if all their numbers fit, and are refused
-- exactly if one of them is too wide
abbrev pub RatesAreMadeOfTheirNumbers : Type 0
RatesAreMadeOfTheirNumbers = (s : Surveyed) (y : MotionValue) (k : ℕ) → IsMadeOf (gap_numbers s y (bearing_of s k))
    (exact_opening s y (bearing_of s k), exact_slide s y (bearing_of s k)) (written_opening s y k)
