-- A scene: bodies with their loads, and the bearings between them. What statics needs of a drawing, and
-- nothing else.
-- After Livesley (1978). Bodies and bearings are told by their numbers, from 0. Used by every law of statics.
use mathlib.Core.Bool.{Bool}
use Prim.Native.Nat.{ℕ, ◌<◌}
use lib.IntN.{ℤ, pos}
use Rattle.stack_algebra.specs.IntegerOrder.{◌≼◌, ◌≺◌}
use Rattle.stack_statics.specs.declared.wrench.Wrench.{Wrench}

-- the velocity of a body's first corner, and its turning rate, counter-clockwise
pub record Move : Type 0 where
  pub u : ℤ
  pub v : ℤ
  pub r : ℤ

-- what a bearing bears on the later body: a along its normal, b along its tangent
pub record BearingPart : Type 0 where
  pub a : ℤ
  pub b : ℤ

-- a body: whether it is free, its first corner, and the sums of its dead and of its live loads
pub record SceneBody : Type 0 where
  pub free : Bool
  pub ox : ℤ
  pub oy : ℤ
  pub dead : Wrench
  pub live : Wrench

-- a point where the body `first` and the later body `second` bear on one another: the point, the tangent of
-- the joint, whose normal (-ty, tx) points to the later body, and the coefficient of friction, p over q
pub record SceneBearing : Type 0 where
  pub first : ℕ
  pub second : ℕ
  pub px : ℤ
  pub py : ℤ
  pub tx : ℤ
  pub ty : ℤ
  pub p : ℤ
  pub q : ℤ

-- how many bodies and bearings there are, and each of them by its number
pub record Scene : Type 0 where
  pub bodies : ℕ
  pub body : ℕ → SceneBody
  pub bearings : ℕ
  pub bearing : ℕ → SceneBearing

-- a bearing lies between an earlier and a later body of the scene, and its coefficient has a positive
-- denominator and no negative numerator
pub record IsProperBearing (s : Scene) (z : SceneBearing) : Type 0 where
  pub second_exists : z.second < s.bodies
  pub first_before_second : z.first < z.second
  pub denominator_positive : pos 0 ≺ z.q
  pub numerator_nonneg : pos 0 ≼ z.p

-- what the laws need of a scene; every survey meets it
abbrev pub IsProper : Scene → Type 0
IsProper s = (k : ℕ) → k < s.bearings → IsProperBearing s (s.bearing k)
