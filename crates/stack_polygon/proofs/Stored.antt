-- What 64 bits keep of differences of coordinates and of their products.
use Rattle.std.proofs.Common.{arith, SFits, to_z, of_z}
use mathlib.Core.Path.{◌≡◌, sym, ◌∙◌, subst}
use lib.IntN.{ℤ, pos, negsuc, ◌+ℤ◌, ◌-ℤ◌, ◌*ℤ◌, neg_ℤ}
use mir.Syntax.{w64, w128}
use Rattle.std.specs.Int.{int_min, int_max}
use Rattle.std.proofs.lemmas.Int.{ints, to_z-of_z}
use Rattle.stack_algebra.proofs.Integers.{sums, expand}
use Rattle.stack_algebra.proofs.Order.{◌≼◌, mul-bounds}
use Rattle.stack_polygon.specs.declared.point.Point.{Point}
use Rattle.stack_polygon.specs.Plane.{triangle_of, advance_of}
use Rattle.stack_polygon.specs.Limits.{IsNear, IsInRange}
use Rattle.stack_polygon.specs.Sizes.{IsStep, IsSquare, IsTwiceArea, IsThreeCoordinates, IsWithin}

-- the product of two steps is no larger than the square of the largest
pub product-square : (x y : ℤ) → IsStep x → IsStep y → IsSquare (x *ℤ y)
product-square x y hx hy =
    let m = mul-bounds x y (pos 2000000) (pos 2000000) hx.high (omega (arith, ints)) hy.high (omega (arith, ints)) in
    let n = mul-bounds (neg_ℤ x) y (pos 2000000) (pos 2000000) (omega (arith, ints)) (omega (arith, ints)) hy.high
    (omega (arith, ints)) in
    record { low = omega (arith, sums, m); high = omega (arith, sums, simp expand at n) }

abbrev pub stored : ℤ → ℤ
stored z = to_z w64 (of_z w64 z)

square-stored : (z : ℤ) → IsSquare z → stored z ≡ z
square-stored z h = omega (arith, ints)

-- a step fits 64 bits
step-stored : (z : ℤ) → IsStep z → stored z ≡ z
step-stored z h = omega (arith, ints)

pub stored-product : (x y : ℤ) → IsStep x → IsStep y → stored (stored x *ℤ stored y) ≡ x *ℤ y
stored-product x y hx hy = (λ i. stored (step-stored x hx i *ℤ step-stored y hy i))
    ∙ square-stored (x *ℤ y) (product-square x y hx hy)

-- a number of at most 8 * 10^12 in size fits 64 bits
fits : (z : ℤ) → negsuc 7999999999999 ≼ z → z ≼ pos 8000000000000 → SFits w64 z
fits (pos n) l m = record { sfits = omega (arith, ints, m) }
fits (negsuc n) l m = record { sfits = omega (arith, ints, l) }

-- the product of two steps
pub product-fits : (x y : ℤ) → IsStep x → IsStep y → SFits w64 (stored x *ℤ stored y)
product-fits x y hx hy =
    let square = product-square x y hx hy in
    subst (λ z. SFits w64 z) (sym (λ i. step-stored x hx i *ℤ step-stored y hy i))
    (fits (x *ℤ y) (omega (arith, ints, square.low)) (omega (arith, ints, square.high)))

-- the difference of two coordinates
pub near-stored : (x y : ℤ) → IsNear x → IsNear y → stored (stored x -ℤ stored y) ≡ x -ℤ y
near-stored x y hx hy = omega (arith, ints)

pub is_step : (x y : ℤ) → IsNear x → IsNear y → IsStep (stored (stored x -ℤ stored y))
is_step x y hx hy = subst IsStep (sym (near-stored x y hx hy))
    (record { low = omega (arith, ints); high = omega (arith, ints) })

-- the difference of two products
pub less-fits : (r s : ℤ) → IsSquare r → IsSquare s → SFits w64 (stored r -ℤ stored s)
less-fits r s hr hs = subst (λ z. SFits w64 z) (sym (λ i. square-stored r hr i -ℤ square-stored s hs i))
    (plain r s hr hs)
  where
    plain : (r s : ℤ) → IsSquare r → IsSquare s → SFits w64 (r -ℤ s)
    plain r s hr hs = fits (r -ℤ s) (omega (arith, ints)) (omega (arith, ints))

stored-less : (r s : ℤ) → IsSquare r → IsSquare s → stored (stored r -ℤ stored s) ≡ r -ℤ s
stored-less r s hr hs = omega (arith, ints)

pub less-twice : (r s : ℤ) → IsSquare r → IsSquare s → IsTwiceArea (stored (stored r -ℤ stored s))
less-twice r s hr hs = subst IsTwiceArea (sym (stored-less r s hr hs))
    (record { low = omega (arith, ints); high = omega (arith, ints) })

-- what the code computes is twice the triangle's area
pub triangle-stored : (o p q : Point) (r s : ℤ) → IsInRange o → IsInRange p → IsInRange q → IsSquare r
    → IsSquare s →
    r ≡ stored (stored p.x -ℤ stored o.x) *ℤ stored (stored q.y -ℤ stored o.y) → s
    ≡ stored (stored p.y -ℤ stored o.y) *ℤ stored (stored q.x -ℤ stored o.x) →
    stored (stored r -ℤ stored s) ≡ triangle_of o p q
triangle-stored o p q r s ho hp hq hr hs er es = stored-less r s hr hs
    ∙ (λ i. er i -ℤ es i)
    ∙ (λ i. near-stored p.x o.x hp.x ho.x i *ℤ near-stored q.y o.y hq.y ho.y i -ℤ near-stored p.y o.y hp.y ho.y i
    *ℤ near-stored q.x o.x hq.x ho.x i)

-- the sum of two products
pub sum-fits : (r s : ℤ) → IsSquare r → IsSquare s → SFits w64 (stored r +ℤ stored s)
sum-fits r s hr hs = subst (λ z. SFits w64 z) (sym (λ i. square-stored r hr i +ℤ square-stored s hs i))
    (fits (r +ℤ s) (omega (arith, ints)) (omega (arith, ints)))

stored-sum : (r s : ℤ) → IsSquare r → IsSquare s → stored (stored r +ℤ stored s) ≡ r +ℤ s
stored-sum r s hr hs = omega (arith, ints)

pub advance-stored : (o p q : Point) (r s : ℤ) → IsInRange o → IsInRange p → IsInRange q → IsSquare r → IsSquare s →
    r ≡ stored (stored p.x -ℤ stored o.x) *ℤ stored (stored q.x -ℤ stored o.x) → s
    ≡ stored (stored p.y -ℤ stored o.y) *ℤ stored (stored q.y -ℤ stored o.y) →
    stored (stored r +ℤ stored s) ≡ advance_of o p q
advance-stored o p q r s ho hp hq hr hs er es = stored-sum r s hr hs
    ∙ (λ i. er i +ℤ es i)
    ∙ (λ i. near-stored p.x o.x hp.x ho.x i *ℤ near-stored q.x o.x hq.x ho.x i +ℤ near-stored p.y o.y hp.y ho.y i
    *ℤ near-stored q.y o.y hq.y ho.y i)

abbrev pub wide : ℤ → ℤ
wide z = to_z w128 (of_z w128 z)

moment-within : (x y : ℤ) → IsTwiceArea x → IsThreeCoordinates y → IsWithin 1 24000000000000000000 (x *ℤ y)
moment-within x y hx hy =
    let m = mul-bounds x y (pos 8000000000000) (pos 3000000) hx.high (omega (arith, ints)) hy.high
    (omega (arith, ints)) in
    let n = mul-bounds (neg_ℤ x) y (pos 8000000000000) (pos 3000000) (omega (arith, ints))
    (omega (arith, ints)) hy.high (omega (arith, ints)) in
    record { low = omega (arith, sums, m); high = omega (arith, sums, simp expand at n) }

pub moment-stored : (x y a b : ℤ) → a ≡ x → b ≡ y → IsTwiceArea x → IsThreeCoordinates y
    → IsWithin 1 24000000000000000000 (wide (wide a *ℤ wide b))
moment-stored x y a b ea eb hx hy = subst (IsWithin 1 24000000000000000000) (sym whole) (moment-within x y hx hy)
  where
    area : (z : ℤ) → IsTwiceArea z → wide z ≡ z
    area z h = omega (arith, ints)

    three : (z : ℤ) → IsThreeCoordinates z → wide z ≡ z
    three z h = omega (arith, ints)

    product : (z : ℤ) → IsWithin 1 24000000000000000000 z → wide z ≡ z
    product z h = omega (arith, ints)

    whole : wide (wide a *ℤ wide b) ≡ x *ℤ y
    whole = (λ i. wide (wide (ea i) *ℤ wide (eb i))) ∙ (λ i. wide (area x hx i *ℤ three y hy i))
        ∙ product (x *ℤ y) (moment-within x y hx hy)

-- twice an area fits 64 bits
pub twice-stored : (z : ℤ) → IsTwiceArea z → stored z ≡ z
twice-stored z h = omega (arith, ints)

-- the sum of three coordinates fits 64 bits
few-stored : (z : ℤ) → IsThreeCoordinates z → stored z ≡ z
few-stored z h = omega (arith, ints)

-- the moment of a triangle, from its two factors
pub moment-is : (m t s area sum : ℤ) → SFits w128 m → m ≡ stored t *ℤ stored s → IsTwiceArea t → IsThreeCoordinates s
    → t ≡ area → s ≡ sum → wide m ≡ area *ℤ sum
moment-is m t s area sum f h kt ks ht hs = to_z-of_z w128 m f ∙ h ∙ (λ i. twice-stored t kt i *ℤ few-stored s ks i)
    ∙ (λ i. ht i *ℤ hs i)

pub three-stored : (x y z s : ℤ) → IsNear x → IsNear y → IsNear z → s ≡ stored x +ℤ stored y +ℤ stored z
    → s ≡ x +ℤ y +ℤ z
three-stored x y z s hx hy hz h = omega (arith, ints)

-- the lesser of two numbers of 64 bits, as 64 bits hold it
pub least-stored : (r x y : ℤ) → SFits w64 r → SFits w64 x → SFits w64 y → r ≡ int_min (stored x) (stored y)
    → stored r ≡ int_min x y
least-stored r x y fr fx fy h = to_z-of_z w64 r fr ∙ h ∙ (λ i. int_min (to_z-of_z w64 x fx i) (to_z-of_z w64 y fy i))

-- the greater of two numbers of 64 bits, as 64 bits hold it
pub greatest-stored : (r x y : ℤ) → SFits w64 r → SFits w64 x → SFits w64 y → r ≡ int_max (stored x) (stored y)
    → stored r ≡ int_max x y
greatest-stored r x y fr fx fy h = to_z-of_z w64 r fr ∙ h
    ∙ (λ i. int_max (to_z-of_z w64 x fx i) (to_z-of_z w64 y fy i))

-- a coordinate in range stays so as 64 bits hold it
pub near-kept : (z : ℤ) → IsNear z → IsNear (stored z)
near-kept z h = subst IsNear (sym same) h
  where
    same : stored z ≡ z
    same = omega (arith, ints)

-- so does twice an area
pub twice-kept : (z : ℤ) → IsTwiceArea z → IsTwiceArea (stored z)
twice-kept z h = subst IsTwiceArea (sym (twice-stored z h)) h

-- so does the sum of three coordinates
pub three-kept : (z : ℤ) → IsThreeCoordinates z → IsThreeCoordinates (stored z)
three-kept z h = subst IsThreeCoordinates (sym (few-stored z h)) h
