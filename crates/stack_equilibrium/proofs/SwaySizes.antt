-- The sway's load is small. Twice the area of a triangle in range is at most 4 * 10^12: with three heights, each x
-- counts for the difference of the other two, and the three differences are together at most 4,000,000.
use Rattle.std.proofs.Common.{◌≡◌, sym, subst, ◌∙◌, ℕ, suc, ◌+◌, ◌*◌, ◌<◌, ◌≤◌, ℤ, pos, ◌+ℤ◌, ◌-ℤ◌, ◌*ℤ◌, neg_ℤ}
use Rattle.std.proofs.Common.{nat_abs, List, [], ◌∷◌, length, get_or, arith, to_z, of_z, SFits, lit<, mul-le-mul_right}
use mir.Syntax.{w128}
use Rattle.std.proofs.lemmas.Int.{ints, unsigned_abs-mul, to_z-of_z, fits_signed_mul}
use Rattle.stack_algebra.proofs.Integers.{sums, expand}
use Rattle.stack_algebra.proofs.Order.{◌≼◌}
use Rattle.stack_polygon.specs.declared.point.Point.{Point}
use Rattle.stack_polygon.specs.Plane.{triangle_of}
use Rattle.stack_polygon.specs.Corners.{origin}
use Rattle.stack_polygon.specs.Limits.{IsNear, IsInRange, IsPolygon}
use Rattle.stack_polygon.specs.Sizes.{IsWithin}
use Rattle.stack_statics.specs.Loads.{moment_of_triangle, sum_of_triangles}
use Rattle.stack_statics.specs.Weights.{IsUnitWeight}
use Rattle.stack_statics.specs.Sway.{level_moment_of_triangle, sway_load}
use Rattle.stack_equilibrium.proofs.TriangleSums.{summed, product_within}
use Rattle.stack_equilibrium.specs.SwaySizes.{IsShareOfWeight, IsOwnLoad}

-- a coordinate times a number
near_times : (x a : ℤ) → IsNear x → nat_abs (x *ℤ a) ≤ 1000000 * nat_abs a
near_times x a h =
    let m : nat_abs x ≤ 1000000 = omega (arith, ints, h.low, h.high) in
    let n : nat_abs x * nat_abs a ≤ 1000000 * nat_abs a = mul-le-mul_right (nat_abs a) m in
    omega (arith, unsigned_abs-mul x a, n)

-- three heights differ by at most 4,000,000 together
differences : (o p q : ℤ) → IsNear o → IsNear p → IsNear q →
    nat_abs (q -ℤ o) + nat_abs (o -ℤ p) + nat_abs (p -ℤ q) ≤ 4000000
differences o p q ho hp hq = omega (arith, ints, ho.low, ho.high, hp.low, hp.high, hq.low, hq.high)

by_heights : (ox oy px py qx qy : ℤ) → (px -ℤ ox) *ℤ (qy -ℤ oy) -ℤ (py -ℤ oy) *ℤ (qx -ℤ ox)
    ≡ px *ℤ (qy -ℤ oy) +ℤ qx *ℤ (oy -ℤ py) +ℤ ox *ℤ (py -ℤ qy)
by_heights ox oy px py qx qy = simp expand (omega (arith, sums))

doubled : (o p q : Point) → IsInRange o → IsInRange p → IsInRange q → IsWithin 1 4000000000000 (triangle_of o p q)
doubled o p q ho hp hq = subst (IsWithin 1 4000000000000) (sym (by_heights o.x o.y p.x p.y q.x q.y))
    (add (p.x *ℤ (q.y -ℤ o.y)) (q.x *ℤ (o.y -ℤ p.y)) (o.x *ℤ (p.y -ℤ q.y)) (nat_abs (q.y -ℤ o.y))
    (nat_abs (o.y -ℤ p.y)) (nat_abs (p.y -ℤ q.y))
    (near_times p.x (q.y -ℤ o.y) hp.x) (near_times q.x (o.y -ℤ p.y) hq.x) (near_times o.x (p.y -ℤ q.y) ho.x)
    (differences o.y p.y q.y ho.y hp.y hq.y))
  where
    add : (a b c : ℤ) (l m n : ℕ) → nat_abs a ≤ 1000000 * l → nat_abs b ≤ 1000000 * m → nat_abs c ≤ 1000000 * n →
        l + m + n ≤ 4000000 → IsWithin 1 4000000000000 (a +ℤ b +ℤ c)
    add a b c l m n h k j t = record {
      low = omega (arith, ints, h, k, j, t);
      high = omega (arith, ints, h, k, j, t);
    }

-- an area and two arms
turned : (t x y z : ℤ) → IsWithin 1 4000000000000 t → IsNear x → IsNear y → IsNear z →
    IsWithin 1 16000000000000000000 (t *ℤ ((y -ℤ x) +ℤ (z -ℤ x)))
turned t x y z ht hx hy hz = go ((y -ℤ x) +ℤ (z -ℤ x))
    (record {
      low = omega (arith, ints, hx.high, hy.low, hz.low);
      high = omega (arith, ints, hx.low, hy.high, hz.high);
    })
  where
    go : (a : ℤ) → IsWithin 1 4000000 a → IsWithin 1 16000000000000000000 (t *ℤ a)
    go a ha =
        let p = product_within t a (pos 4000000) (pos 4000000000000) (omega (arith, ints, ht.low)) ht.high
        (omega (arith, ints, ha.low)) ha.high in
        record { low = omega (arith, ints); high = omega (arith, ints) }

-- a number of so many triangles, times a unit weight and a part of the sway
module _ (w x : ℤ) (hw : IsUnitWeight w) (hx : IsShareOfWeight x) where
  weighed : (s B : ℤ) → neg_ℤ B ≼ s → s ≼ B →
      (neg_ℤ (pos 1000000 *ℤ B) ≼ w *ℤ s) × (w *ℤ s ≼ pos 1000000 *ℤ B)
  weighed s B low high = product_within w s B (pos 1000000) (omega (arith, ints, hw.least)) hw.most low high

  swayed : (s B : ℤ) → neg_ℤ B ≼ s → s ≼ B →
      (neg_ℤ (B *ℤ pos 1000) ≼ s *ℤ x) × (s *ℤ x ≼ B *ℤ pos 1000)
  swayed s B low high = product_within s x (pos 1000) B low high (omega (arith, ints, hx.least)) hx.most

  force_within : (s : ℤ) (n : ℕ) → n ≤ 31 → IsWithin n 4000000000000 s →
      IsWithin 31 12000000000000000000000 (pos 3 *ℤ (w *ℤ s) *ℤ x)
  force_within s n l k =
      let p = weighed s (pos 124000000000000) (omega (arith, ints, k.low, l)) (omega (arith, ints, k.high, l)) in
      let q = swayed (pos 3 *ℤ (w *ℤ s)) (pos 372000000000000000000) (omega (arith, ints, p.0))
      (omega (arith, ints, p.1)) in
      record { low = omega (arith, ints, q.0); high = omega (arith, ints, q.1) }

  moment_within : (s : ℤ) (n : ℕ) → n ≤ 31 → IsWithin n 16000000000000000000 s →
      IsWithin 31 16000000000000000000000000000 (w *ℤ s *ℤ x)
  moment_within s n l k =
      let p = weighed s (pos 496000000000000000000) (omega (arith, ints, k.low, l)) (omega (arith, ints, k.high, l)) in
      let q = swayed (w *ℤ s) (pos 496000000000000000000000000) (omega (arith, ints, p.0)) (omega (arith, ints, p.1)) in
      record { low = omega (arith, ints, q.0); high = omega (arith, ints, q.1) }

-- the sway within its bound
pub sway_within : (s : ℤ × ℤ) (w : ℤ) (ps : List Point) → IsShareOfWeight s.0 → IsShareOfWeight s.1 →
    IsUnitWeight w → IsPolygon ps → IsOwnLoad (sway_load s w ps)
sway_within s w [] hx hy hw polygon = absurd (omega (arith, polygon.least))
sway_within s w (o ∷ rest) hx hy hw polygon = record {
  fx = force_within w s.0 hw hx (sum_of_triangles triangle_of o rest) (length rest) few area;
  fy = force_within w s.1 hw hy (sum_of_triangles triangle_of o rest) (length rest) few area;
  m = less _ _
      (moment_within w s.1 hw hy (sum_of_triangles moment_of_triangle o rest) (length rest) few
      (summed moment_of_triangle 16000000000000000000 o rest
      (λ p q hp hq. turned (triangle_of o p q) o.x p.x q.x (doubled o p q first hp hq) first.x hp.x hq.x) later))
      (moment_within w s.0 hw hx (sum_of_triangles level_moment_of_triangle o rest) (length rest) few
      (summed level_moment_of_triangle 16000000000000000000 o rest
      (λ p q hp hq. turned (triangle_of o p q) o.y p.y q.y (doubled o p q first hp hq) first.y hp.y hq.y) later));
}
  where
    first : IsInRange o
    first = polygon.in_range 0 (omega (arith, polygon.least))

    later : (j : ℕ) → j < length rest → IsInRange (get_or rest j origin)
    later j l = polygon.in_range (suc j) (omega arith)

    few : length rest ≤ 31
    few = omega (arith, polygon.most)

    area : IsWithin (length rest) 4000000000000 (sum_of_triangles triangle_of o rest)
    area = summed triangle_of 4000000000000 o rest (λ p q. doubled o p q first) later

    less : (a b : ℤ) → IsWithin 31 16000000000000000000000000000 a → IsWithin 31 16000000000000000000000000000 b →
        IsWithin 31 32000000000000000000000000000 (a -ℤ b)
    less a b h k = record { low = omega (arith, ints, h.low, k.high); high = omega (arith, ints, h.high, k.low) }

-- a number times a part of the sway, as it is made
abbrev wide : ℤ → ℤ
wide z = to_z w128 (of_z w128 z)

-- the product fits, is what it says, and lies within its bound
module _ (a b : ℤ) (h : IsWithin 64 24000000000000000000000000 a) (k : IsShareOfWeight b) where
  swayed_product : SFits w128 (a *ℤ b)
  swayed_product = fits_signed_mul w128 a b 1536000000000000000000000000 1000 (omega (arith, ints, h.low, h.high))
      (omega (arith, ints, k.least, k.most)) (lit< tt)

  pub swayed_fits : SFits w128 a → SFits w128 b → SFits w128 (wide a *ℤ wide b)
  swayed_fits f g = subst (SFits w128) (λ i. sym (to_z-of_z w128 a f) i *ℤ sym (to_z-of_z w128 b g) i) swayed_product

  pub swayed_stored : SFits w128 a → SFits w128 b → wide (wide a *ℤ wide b) ≡ a *ℤ b
  swayed_stored f g = (λ i. wide (to_z-of_z w128 a f i *ℤ to_z-of_z w128 b g i))
      ∙ to_z-of_z w128 (a *ℤ b) swayed_product

  pub swayed_is_within : SFits w128 a → SFits w128 b
      → IsWithin 64 24000000000000000000000000000 (wide (wide a *ℤ wide b))
  swayed_is_within f g = subst (IsWithin 64 24000000000000000000000000000) (sym (swayed_stored f g))
      (record { low = omega (arith, ints, p.0); high = omega (arith, ints, p.1) })
    where
      p : (neg_ℤ (pos 1536000000000000000000000000 *ℤ pos 1000) ≼ a *ℤ b)
          × (a *ℤ b ≼ pos 1536000000000000000000000000 *ℤ pos 1000)
      p = product_within a b (pos 1000) (pos 1536000000000000000000000000) (omega (arith, ints, h.low))
          (omega (arith, ints, h.high)) (omega (arith, ints, k.least)) k.most
