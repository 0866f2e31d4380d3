-- The opening and the slide of a bearing: each product and each difference in the written order, up to the
-- first that is too wide.
use Rattle.std.specs.Prelude.{ℕ, ℤ, pos, ◌+ℤ◌, ◌-ℤ◌, ◌*ℤ◌, get_or, Result, Ok, Err, if◌then◌else◌}
use Rattle.stack_algebra.specs.Steps.{◌>>=◌}
use Rattle.stack_model.specs.Structure.{body_of}
use Rattle.stack_contact.specs.declared.types.Bearing.{Bearing}
use Rattle.stack_contact.specs.FreeBlocks.{frees_before}
use Rattle.stack_contact.specs.Surveyed.{Surveyed}
use Rattle.stack_certificate.specs.Certificate.{MotionValue}
use Rattle.stack_equilibrium.specs.declared.types.VelocityWide.{VelocityWide}
use Rattle.stack_whole.specs.declared.whole.Wide.{Wide}
use Rattle.stack_whole.specs.declared.whole.Whole.{Whole}
use Rattle.stack_equilibrium.specs.declared.block.Lever.{Lever}
use Rattle.stack_equilibrium.specs.declared.velocity.BlockMove.{BlockMove}
use Rattle.stack_equilibrium.specs.declared.velocity.Velocity.{Velocity}
use Rattle.stack_equilibrium.specs.declared.velocity.Gap.{Gap}
use Rattle.stack_whole.specs.Whole.{made, whole}
use Rattle.stack_equilibrium.specs.SurveyScene.{first_corner_of, bearing_of}
use Rattle.stack_equilibrium.specs.WrittenSums.{lever_at}

-- the move of free block number b
abbrev pub block_move_at : MotionValue → ℕ → BlockMove
block_move_at y b = let m = get_or y b (pos 0, pos 0, pos 0) in record {
  u = whole m.0;
  v = whole m.1;
  r = whole m.2;
}

-- the velocity of a block at a bearing: r*ly and u minus that product, then r*lx and v with that product
unfoldable pub written_velocity : BlockMove → Lever → Result Velocity Wide
written_velocity y z = do
  back ← made (y.r.value *ℤ z.ly.value)
  x ← made (y.u.value -ℤ back.value)
  up ← made (y.r.value *ℤ z.lx.value)
  risen ← made (y.v.value +ℤ up.value)
  Ok (record { x = x; y = risen })

-- the velocity of a fixed body, at any point
abbrev pub at_rest : Velocity
at_rest = record { x = whole (pos 0); y = whole (pos 0) }

-- the velocity of body i at a bearing: a fixed body is at rest, and no number of it is made
abbrev pub velocity_at : Surveyed → MotionValue → Bearing → ℕ → Result Velocity Wide
velocity_at s y z i =
    if (body_of s.structure i).fixed then Ok at_rest
    else written_velocity (block_move_at y (frees_before s.structure.bodies i))
    (lever_at (first_corner_of s.structure i) z)

-- the later body's velocity minus the earlier's, along x and then along y
unfoldable pub written_difference : Velocity → Velocity → Result Velocity Wide
written_difference later earlier = do
  x ← made (later.x.value -ℤ earlier.x.value)
  y ← made (later.y.value -ℤ earlier.y.value)
  Ok (record { x = x; y = y })

-- a difference of velocities along the normal: tx*dy, ty*dx and their difference
unfoldable pub written_normal : Whole → Whole → Velocity → Result Whole Wide
written_normal tx ty d = do
  rises ← made (tx.value *ℤ d.y.value)
  runs ← made (ty.value *ℤ d.x.value)
  made (rises.value -ℤ runs.value)

-- a difference of velocities along the tangent: tx*dx, ty*dy and their sum
unfoldable pub written_tangential : Whole → Whole → Velocity → Result Whole Wide
written_tangential tx ty d = do
  runs ← made (tx.value *ℤ d.x.value)
  rises ← made (ty.value *ℤ d.y.value)
  made (runs.value +ℤ rises.value)

-- the opening and then the slide along a tangent, of a difference of velocities
abbrev pub gap_along : Whole → Whole → Velocity → Result Gap Wide
gap_along tx ty d = do
  opening ← written_normal tx ty d
  slide ← written_tangential tx ty d
  Ok (record { opening = opening; slide = slide })

-- those of a bearing
unfoldable pub written_gap : Bearing → Velocity → Result Gap Wide
written_gap z d = gap_along (whole z.frame.tx) (whole z.frame.ty) d

-- the opening and the slide at a bearing: the velocity of the second body is made, then that of the first one
unfoldable pub gap_at : Surveyed → MotionValue → Bearing → Result Gap Wide
gap_at s y z = do
  later ← velocity_at s y z z.second
  earlier ← velocity_at s y z z.first
  difference ← written_difference later earlier
  written_gap z difference

-- the two as numbers, or that a number on the way to them is too wide
abbrev pub told_gap : Result Gap Wide → Result (ℤ × ℤ) VelocityWide
told_gap (Ok g) = Ok (g.opening.value, g.slide.value)
told_gap (Err e) = Err (record {})

-- the opening and the slide of bearing k
abbrev pub written_opening : Surveyed → MotionValue → ℕ → Result (ℤ × ℤ) VelocityWide
written_opening s y k = told_gap (gap_at s y (bearing_of s k))
