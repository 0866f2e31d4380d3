-- The sums of a block's balance along x, along y and about its first stored corner: each product and each
-- partial result in the written order, up to the first that is too wide.
use Rattle.std.specs.Prelude.{ℕ, nat_eq, ℤ, pos, ◌+ℤ◌, ◌-ℤ◌, ◌*ℤ◌, List, get_or, Result, Ok, Err, if◌then◌else◌}
use Rattle.stack_algebra.specs.Steps.{◌>>=◌, steps}
use Rattle.stack_polygon.specs.declared.point.Point.{Point}
use Rattle.stack_model.specs.Structure.{Structure}
use Rattle.stack_contact.specs.declared.types.Bearing.{Bearing}
use Rattle.stack_contact.specs.Surveyed.{Surveyed}
use Rattle.stack_contact.specs.FreeBlocks.{free_of}
use Rattle.stack_certificate.specs.Certificate.{ForcesValue}
use Rattle.stack_statics.specs.declared.wrench.Wrench.{Wrench}
use Rattle.stack_equilibrium.specs.declared.types.SumWide.{SumWide}
use Rattle.stack_equilibrium.specs.declared.types.Question.TheVariants.{Dead, Live}
use Rattle.stack_equilibrium.specs.declared.types.Axis.{Axis}
use Rattle.stack_equilibrium.specs.declared.types.Axis.TheVariants.{X, Y, M}
use Rattle.stack_whole.specs.declared.whole.Wide.{Wide}
use Rattle.stack_whole.specs.declared.whole.Whole.{Whole}
use Rattle.stack_equilibrium.specs.declared.block.Push.{Push}
use Rattle.stack_equilibrium.specs.declared.block.Lever.{Lever}
use Rattle.stack_equilibrium.specs.declared.block.Block.{Block}
use Rattle.stack_equilibrium.specs.declared.force.Force.{Force}
use Rattle.stack_whole.specs.Whole.{made, whole}
use Rattle.stack_equilibrium.specs.SurveyScene.{first_corner_of, loads_on}

-- what bearing k bears, of a list of such pairs
abbrev pub push_at : List (ℤ × ℤ) → ℕ → Push
push_at parts k = let p = get_or parts k (pos 0, pos 0) in record { a = whole p.0; b = whole p.1 }

-- a bearing as a block meets it: its tangent, and its point minus the block's first stored corner
abbrev pub lever_at : Point → Bearing → Lever
lever_at o z = record {
  tx = whole z.frame.tx;
  ty = whole z.frame.ty;
  lx = whole (z.at.x -ℤ o.x);
  ly = whole (z.at.y -ℤ o.y);
}

-- the force on the second body along x: b*tx, a*ty and their difference
unfoldable pub written_force_x : Lever → Push → Result Whole Wide
written_force_x z f = do
  axis_part ← made (f.b.value *ℤ z.tx.value)
  across ← made (f.a.value *ℤ z.ty.value)
  made (axis_part.value -ℤ across.value)

-- the force on the second body along y: a*tx, b*ty and their sum
unfoldable pub written_force_y : Lever → Push → Result Whole Wide
written_force_y z f = do
  across ← made (f.a.value *ℤ z.tx.value)
  axis_part ← made (f.b.value *ℤ z.ty.value)
  made (across.value +ℤ axis_part.value)

-- the force on the second body along x, and then along y: the same about any corner, so it is made about the bearing's
-- own point
unfoldable pub written_bearing_force : Bearing → Push → Result Force Wide
written_bearing_force z f = do
  x ← written_force_x (lever_at z.at z) f
  y ← written_force_y (lever_at z.at z) f
  Ok (record { x = x; y = y })

-- the moment of that force: lx times the force along y, ly times that along x, and their difference
unfoldable pub written_moment : Lever → Push → Result Whole Wide
written_moment z f = do
  x ← written_force_x z f
  y ← written_force_y z f
  turned ← made (z.lx.value *ℤ y.value)
  back ← made (z.ly.value *ℤ x.value)
  made (turned.value -ℤ back.value)

-- the force along x or along y, or the moment: the one that the sum along an axis adds up
abbrev pub written_force : Axis → Lever → Push → Result Whole Wide
written_force X z f = written_force_x z f
written_force Y z f = written_force_y z f
written_force M z f = written_moment z f

-- a bearing's force is added where the block is the second body, subtracted where it is the first, and otherwise not
-- made
unfoldable pub with_bearing : Axis → Block → Push → Whole → Bearing → Result Whole Wide
with_bearing axis block f so_far z =
    if nat_eq block.body z.second then (do
      force ← written_force axis (lever_at block.corner z) f
      made (so_far.value +ℤ force.value))
    else (if nat_eq block.body z.first then (do
      force ← written_force axis (lever_at block.corner z) f
      made (so_far.value -ℤ force.value))
    else Ok so_far)

-- bearing k is added, with what a list of pairs gives it to bear
abbrev pub bearing_at : Axis → Block → List (ℤ × ℤ) → ℕ → Whole → Bearing → Result Whole Wide
bearing_at axis block parts k so_far z = with_bearing axis block (push_at parts k) so_far z

-- the number of a wrench along an axis
abbrev pub axis_part : Axis → Wrench → ℤ
axis_part X w = w.fx
axis_part Y w = w.fy
axis_part M w = w.m

-- a block's sum along an axis: from 0, the bearings in order; then scale*dead is made and added, then factor*live
unfoldable pub written_sum : Axis → Block → Whole → Whole → List Bearing → List (ℤ × ℤ) → Result Whole Wide
written_sum axis block scale factor bearings parts = do
  borne ← steps (bearing_at axis block parts) 0 (whole (pos 0)) bearings
  weight ← made (scale.value *ℤ axis_part axis block.dead)
  standing ← made (borne.value +ℤ weight.value)
  drive ← made (factor.value *ℤ axis_part axis block.live)
  made (standing.value +ℤ drive.value)

-- a number with the axis whose sum it is
abbrev pub on_axis : Axis → Result Whole Wide → Result Whole SumWide
on_axis axis (Ok x) = Ok x
on_axis axis (Err e) = Err (record { axis = axis })

-- the three sums of a block, in the order x, y, m
unfoldable pub written_sums : Block → Whole → Whole → List Bearing → List (ℤ × ℤ) → Result Wrench SumWide
written_sums block scale factor bearings parts = do
  x ← on_axis X (written_sum X block scale factor bearings parts)
  y ← on_axis Y (written_sum Y block scale factor bearings parts)
  m ← on_axis M (written_sum M block scale factor bearings parts)
  Ok (record { fx = x.value; fy = y.value; m = m.value })

-- body i, as a block
abbrev pub block_of : Structure → ℕ → Block
block_of s i = record {
  body = i;
  corner = first_corner_of s i;
  dead = loads_on Dead s i;
  live = loads_on Live s i;
}

-- the three sums of body i, in the order x, y, m
abbrev pub written_sums_at : Surveyed → ForcesValue → ℕ → Result Wrench SumWide
written_sums_at s f i =
    written_sums (block_of s.structure i) (whole f.scale) (whole f.factor) s.bearings f.parts

-- the three sums of free block number b, which is counted among the free ones from 0
abbrev pub written_residue : Surveyed → ForcesValue → ℕ → Result Wrench SumWide
written_residue s f b = written_sums_at s f (free_of s.structure.bodies b)
