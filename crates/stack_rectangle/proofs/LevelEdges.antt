-- What a level or an upright edge says of a point. Each lemma serves points left of an edge or on it, and
-- points strictly left of it.
use Rattle.std.proofs.Common.{◌≡◌, ℤ, pos, ◌-ℤ◌, ◌*ℤ◌, neg_ℤ, Bool, true, false, arith}
use Rattle.std.proofs.Common.{◌↔◌}
use Rattle.stack_algebra.proofs.CrossProducts.{positive_cancel}
use Rattle.stack_algebra.specs.IntegerOrder.{◌≼◌, ◌≺◌}
use Rattle.stack_algebra.proofs.Integers.{sums, expand}
use Rattle.stack_algebra.proofs.Order.{mul_nonneg, nonneg-cancel, mul_pos}
use Rattle.stack_polygon.specs.declared.point.Point.{Point}
use Rattle.stack_polygon.specs.Plane.{Triple, left_of}

abbrev pub pt : ℤ → ℤ → Point
pt x y = record { x = x; y = y }

-- less, or at most
abbrev pub Before : Bool → ℤ → ℤ → Type 0
Before true a b = a ≺ b
Before false a b = a ≼ b

-- a product with a positive number keeps the order, one with a negative number turns it
pub kept : (strict : Bool) (s a b : ℤ) → pos 0 ≺ s
    → Before strict (pos 0) (s *ℤ (b -ℤ a)) ↔ Before strict a b
kept true s a b h = (
  λ p. let q = positive_cancel s (b -ℤ a) h p in omega (arith, sums),
  λ p. mul_pos s (b -ℤ a) h (omega (arith, sums)),
)
kept false s a b h = (
  λ p. let q = nonneg-cancel s (b -ℤ a) h p in omega (arith, sums),
  λ p. mul_nonneg s (b -ℤ a) (omega (arith, sums)) (omega (arith, sums)),
)

flipped : (s a b : ℤ) → s *ℤ (b -ℤ a) ≡ neg_ℤ s *ℤ (a -ℤ b)
flipped s a b = simp expand (omega (arith, sums))

turned : (strict : Bool) (s a b : ℤ) → s ≺ pos 0
    → Before strict (pos 0) (s *ℤ (b -ℤ a)) ↔ Before strict b a
turned strict s a b h = rw (flipped s a b) (kept strict (neg_ℤ s) b a (omega (arith, sums)))

-- what a level edge says, from x to u at the height y, and an upright one, from y to v: the product of its
-- length and of the distance of the point (X, Y) over w from its line
level_edge : (x u y X Y w : ℤ)
    → (u -ℤ x) *ℤ (Y -ℤ y *ℤ w) -ℤ (y -ℤ y) *ℤ (X -ℤ x *ℤ w) ≡ (u -ℤ x) *ℤ (Y -ℤ y *ℤ w)
level_edge x u y X Y w = simp expand (omega (arith, sums))

upright_edge : (x y v X Y w : ℤ)
    → (x -ℤ x) *ℤ (Y -ℤ y *ℤ w) -ℤ (v -ℤ y) *ℤ (X -ℤ x *ℤ w) ≡ (v -ℤ y) *ℤ (x *ℤ w -ℤ X)
upright_edge x y v X Y w = simp expand (omega (arith, sums))

-- the point lies left of an edge, or on it where that's allowed
abbrev pub IsLeft : Bool → Point → Point → Triple → Type 0
IsLeft strict o p X = Before strict (pos 0) (left_of o p X)

-- a level edge bounds y, an upright one bounds x
pub level_kept : (strict : Bool) (x u y : ℤ) (X : Triple) → x ≺ u
    → IsLeft strict (pt x y) (pt u y) X ↔ Before strict (y *ℤ X.w) X.y
level_kept strict x u y X h =
    rw (level_edge x u y X.x X.y X.w) (kept strict (u -ℤ x) (y *ℤ X.w) X.y (omega (arith, sums)))

pub level_turned : (strict : Bool) (x u y : ℤ) (X : Triple) → u ≺ x
    → IsLeft strict (pt x y) (pt u y) X ↔ Before strict X.y (y *ℤ X.w)
level_turned strict x u y X h =
    rw (level_edge x u y X.x X.y X.w) (turned strict (u -ℤ x) (y *ℤ X.w) X.y (omega (arith, sums)))

pub upright_kept : (strict : Bool) (x y v : ℤ) (X : Triple) → y ≺ v
    → IsLeft strict (pt x y) (pt x v) X ↔ Before strict X.x (x *ℤ X.w)
upright_kept strict x y v X h =
    rw (upright_edge x y v X.x X.y X.w) (kept strict (v -ℤ y) X.x (x *ℤ X.w) (omega (arith, sums)))

pub upright_turned : (strict : Bool) (x y v : ℤ) (X : Triple) → v ≺ y
    → IsLeft strict (pt x y) (pt x v) X ↔ Before strict (x *ℤ X.w) X.x
upright_turned strict x y v X h =
    rw (upright_edge x y v X.x X.y X.w) (turned strict (v -ℤ y) X.x (x *ℤ X.w) (omega (arith, sums)))
