-- How large the loads of a block can grow within the limits of a model.
use Rattle.std.specs.Prelude.{◌≡◌, ℕ, ℤ, pos, ◌-ℤ◌, ◌*ℤ◌}
use Rattle.stack_polygon.specs.Sizes.{IsStep}
use Rattle.stack_polygon.specs.declared.point.Point.{Point}
use Rattle.stack_polygon.specs.Limits.{IsInRange}
use Rattle.stack_polygon.specs.Sizes.{IsWithin}
use Rattle.stack_model.specs.declared.types.Load.{Load}
use Rattle.stack_statics.specs.declared.wrench.Wrench.{Wrench}
use Rattle.stack_equilibrium.specs.declared.force.Arm.{Arm}
use Rattle.stack_equilibrium.specs.declared.force.Force.{Force}
use Rattle.stack_whole.specs.Whole.{whole}
use Rattle.stack_whole.specs.Limits.{IsBelowBound}

-- each of the three is below the bound of loads
pub record IsSmall (w : Wrench) : Type 0 where
  pub fx : IsBelowBound w.fx
  pub fy : IsBelowBound w.fy
  pub m : IsBelowBound w.m

-- a number of at most 4,000,000,000 in size, as the force along an edge of a cone is
abbrev pub IsForce : ℤ → Type 0
IsForce z = IsWithin 1 4000000000 z

-- a force is within this limit along x and along y
pub record HasForceLimits (f : Force) : Type 0 where
  pub x : IsForce f.x.value
  pub y : IsForce f.y.value

-- the way from a corner to a point
abbrev pub arm_between : Point → Point → Arm
arm_between o at = record { lx = whole (at.x -ℤ o.x); ly = whole (at.y -ℤ o.y) }

-- an arm is no longer along x or along y than two coordinates within the limits may differ
pub record AreSteps (l : Arm) : Type 0 where
  pub lx : IsStep l.lx.value
  pub ly : IsStep l.ly.value

-- the moment of a force at the end of an arm
abbrev pub moment_with : Arm → Force → ℤ
moment_with l f = l.lx.value *ℤ f.y.value -ℤ l.ly.value *ℤ f.x.value

-- the size of one of the two products of a moment
abbrev pub IsTurn : ℤ → Type 0
IsTurn z = IsWithin 1 8000000000000000 z

-- the size of a moment, at most twice as large, as the difference of two such products is
abbrev pub IsMoment : ℤ → Type 0
IsMoment z = IsWithin 1 16000000000000000 z

-- the force of a listed load, in whole units and not in sixths
abbrev pub force_in : Load → Force
force_in l = record { x = whole l.fx; y = whole l.fy }

-- six times a force with its moment
abbrev pub sixfold_of : Force → ℤ → Wrench
sixfold_of f m = record { fx = pos 6 *ℤ f.x.value; fy = pos 6 *ℤ f.y.value; m = pos 6 *ℤ m }

-- a listed load within the limits
pub record IsLimited (l : Load) : Type 0 where
  pub at : IsInRange l.at
  pub fx : IsForce l.fx
  pub fy : IsForce l.fy

-- a wrench of at most n times six of these forces and moments
pub record AreLoads (n : ℕ) (w : Wrench) : Type 0 where
  pub fx : IsWithin n 24000000000 w.fx
  pub fy : IsWithin n 24000000000 w.fy
  pub m : IsWithin n 96000000000000000 w.m

-- a wrench of at most the weight of a body of 32 corners: fewer than 31 triangles, and three times 1,000,000 for each
-- of their areas, which are at most 8 * 10^12 when doubled; the arms of a triangle's corners are at most 4,000,000
-- together
pub record IsWeight (w : Wrench) : Type 0 where
  pub fx : w.fx ≡ pos 0
  pub fy : IsWithin 31 24000000000000000000 w.fy
  pub m : IsWithin 31 32000000000000000000000000 w.m
