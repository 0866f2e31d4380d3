-- How large differences, their products and sums over a fan can grow within the limits.
use Prim.Native.Nat.{ℕ, ◌*◌}
use lib.IntN.{ℤ, pos, negsuc, neg_ℤ}
use Rattle.stack_algebra.specs.IntegerOrder.{◌≼◌}
use Rattle.stack_polygon.specs.declared.fan.Sums.{Sums}

-- a number of at most 2,000,000 in size, as a difference of coordinates is
pub record IsStep (z : ℤ) : Type 0 where
  pub low : negsuc 1999999 ≼ z
  pub high : z ≼ pos 2000000

-- a number of at most the square of 2,000,000 in size
pub record IsSquare (z : ℤ) : Type 0 where
  pub low : negsuc 3999999999999 ≼ z
  pub high : z ≼ pos 4000000000000

-- a number of at most 3,000,000 in size, as the sum of three coordinates is
pub record IsThreeCoordinates (z : ℤ) : Type 0 where
  pub low : negsuc 2999999 ≼ z
  pub high : z ≼ pos 3000000

-- a number of at most 8 * 10^12 in size, as twice a triangle's area is
pub record IsTwiceArea (z : ℤ) : Type 0 where
  pub low : negsuc 7999999999999 ≼ z
  pub high : z ≼ pos 8000000000000

-- a number of at most n times a bound in size
pub record IsWithin (n bound : ℕ) (z : ℤ) : Type 0 where
  pub low : neg_ℤ (pos (n * bound)) ≼ z
  pub high : z ≼ pos (n * bound)

-- the sums of n triangles
pub record AreTriangleSums (n : ℕ) (s : Sums) : Type 0 where
  pub area : IsWithin n 8000000000000 s.area
  pub about_y : IsWithin n 24000000000000000000 s.about_y
  pub about_x : IsWithin n 24000000000000000000 s.about_x
