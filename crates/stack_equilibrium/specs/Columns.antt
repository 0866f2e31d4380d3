-- The force along an edge of a bearing's cone of friction, as it is made, and the sizes of its numbers.
use Rattle.std.specs.Prelude.{ℤ, pos, negsuc, Bool, neg_ℤ, ◌+ℤ◌, ◌*ℤ◌, if◌then◌else◌}
use Rattle.stack_algebra.specs.IntegerOrder.{◌≼◌}
use Rattle.stack_polygon.specs.declared.point.Point.{Point}
use Rattle.stack_polygon.specs.Sizes.{IsWithin}
use Rattle.stack_frame.specs.declared.cone.Cone.{Cone}
use Rattle.stack_contact.specs.declared.types.Bearing.{Bearing}
use Rattle.stack_statics.specs.declared.wrench.Wrench.{Wrench}
use Rattle.stack_equilibrium.specs.declared.force.Force.{Force}
use Rattle.stack_whole.specs.Whole.{whole}
use Rattle.stack_equilibrium.specs.LoadSizes.{IsMoment, arm_between, moment_with}

-- a coefficient's numerator or denominator, with a sign
pub record IsRate (z : ℤ) : Type 0 where
  pub low : negsuc 999 ≼ z
  pub high : z ≼ pos 1000

-- the size of a part of the tangent or of the normal, times such a number
abbrev pub IsShare : ℤ → Type 0
IsShare z = IsWithin 1 2000000000 z

-- the numerator p of a cone, or minus p
abbrev pub lean_of : Cone → Bool → ℤ
lean_of c plus = if plus then c.p else neg_ℤ c.p

-- the force along an edge of a cone: q*normal + p*tangent, or q*normal - p*tangent
abbrev pub edge_force_of : Bearing → Bool → Force
edge_force_of z plus = record {
  x = whole (z.cone.q *ℤ neg_ℤ z.frame.ty +ℤ lean_of z.cone plus *ℤ z.frame.tx);
  y = whole (z.cone.q *ℤ z.frame.tx +ℤ lean_of z.cone plus *ℤ z.frame.ty);
}

-- the wrench of that force about a corner
abbrev pub edge_wrench_of : Point → Bearing → Bool → Wrench
edge_wrench_of o z plus = let f = edge_force_of z plus in record {
  fx = f.x.value;
  fy = f.y.value;
  m = moment_with (arm_between o z.at) f;
}

-- the sizes of the wrench of a force along an edge of a cone
pub record IsEdgeWrench (w : Wrench) : Type 0 where
  pub fx : IsMoment w.fx
  pub fy : IsMoment w.fy
  pub m : IsMoment w.m
