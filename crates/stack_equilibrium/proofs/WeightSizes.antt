-- A body's weight and its moment are small: each triangle of its fan has an area and arms within the limits.
use Rattle.std.proofs.Common.{◌≡◌, refl, ℕ, suc, ◌<◌, ◌≤◌, ℤ, pos, ◌+ℤ◌, ◌-ℤ◌, ◌*ℤ◌, neg_ℤ, List, [], ◌∷◌, length}
use Rattle.std.proofs.Common.{get_or, arith}
use Rattle.std.proofs.lemmas.Int.{ints}
use Rattle.stack_algebra.proofs.Order.{◌≼◌}
use Rattle.stack_polygon.specs.declared.point.Point.{Point}
use Rattle.stack_polygon.specs.Plane.{triangle_of}
use Rattle.stack_polygon.specs.Corners.{origin}
use Rattle.stack_polygon.specs.Limits.{IsNear, IsInRange, IsPolygon}
use Rattle.stack_polygon.specs.Sizes.{IsStep, IsSquare, IsWithin}
use Rattle.stack_polygon.proofs.Stored.{product-square}
use Rattle.stack_statics.specs.Loads.{distances_of, moment_of_triangle, sum_of_triangles, weight_of}
use Rattle.stack_statics.specs.declared.wrench.Wrench.{Wrench}
use Rattle.stack_equilibrium.specs.LoadSizes.{IsWeight}
use Rattle.stack_equilibrium.specs.SwaySizes.{IsOwnLoad}
use Rattle.stack_statics.specs.Weights.{IsUnitWeight}
use Rattle.stack_equilibrium.proofs.TriangleSums.{summed, product_within}

step : (x y : ℤ) → IsNear x → IsNear y → IsStep (x -ℤ y)
step x y h k = record { low = omega (arith, ints); high = omega (arith, ints) }

-- twice a triangle's area
doubled : (o p q : Point) → IsInRange o → IsInRange p → IsInRange q →
    IsWithin 1 8000000000000 (triangle_of o p q)
doubled o p q ho hp hq = less _ _
    (product-square (p.x -ℤ o.x) (q.y -ℤ o.y) (step p.x o.x hp.x ho.x) (step q.y o.y hq.y ho.y))
    (product-square (p.y -ℤ o.y) (q.x -ℤ o.x) (step p.y o.y hp.y ho.y) (step q.x o.x hq.x ho.x))
  where
    less : (r s : ℤ) → IsSquare r → IsSquare s → IsWithin 1 8000000000000 (r -ℤ s)
    less r s h k = record { low = omega (arith, ints); high = omega (arith, ints) }

-- the size of a triangle's part of the moment
turning : (o p q : Point) → IsInRange o → IsInRange p → IsInRange q →
    IsWithin 1 32000000000000000000 (moment_of_triangle o p q)
turning o p q ho hp hq = go (triangle_of o p q) (distances_of o p q) (doubled o p q ho hp hq)
    (arms o.x p.x q.x ho.x hp.x hq.x)
  where
    arms : (o p q : ℤ) → IsNear o → IsNear p → IsNear q → IsWithin 1 4000000 ((p -ℤ o) +ℤ (q -ℤ o))
    arms o p q h k l = record { low = omega (arith, ints); high = omega (arith, ints) }

    go : (x y : ℤ) → IsWithin 1 8000000000000 x → IsWithin 1 4000000 y →
        IsWithin 1 32000000000000000000 (x *ℤ y)
    go x y hx hy =
        let p = product_within x y (pos 4000000) (pos 8000000000000) (omega (arith, ints)) (omega (arith, ints))
        (omega (arith, ints)) (omega (arith, ints)) in
        record { low = omega (arith, ints); high = omega (arith, ints) }

-- the weight within its bound
pub weight_within : (w : ℤ) (ps : List Point) → IsUnitWeight w → IsPolygon ps → IsWeight (weight_of w ps)
weight_within w [] h polygon = absurd (omega (arith, polygon.least))
weight_within w (o ∷ rest) h polygon = record {
  fx = refl;
  fy = falls (sum_of_triangles triangle_of o rest) (length rest) few
      (summed triangle_of 8000000000000 o rest (λ p q. doubled o p q first) later);
  m = turns (sum_of_triangles moment_of_triangle o rest) (length rest) few
      (summed moment_of_triangle 32000000000000000000 o rest (λ p q. turning o p q first) later);
}
  where
    first : IsInRange o
    first = polygon.in_range 0 (omega (arith, polygon.least))

    later : (j : ℕ) → j < length rest → IsInRange (get_or rest j origin)
    later j l = polygon.in_range (suc j) (omega arith)

    few : length rest ≤ 31
    few = omega (arith, polygon.most)

    falls : (s : ℤ) (n : ℕ) → n ≤ 31 → IsWithin n 8000000000000 s →
        IsWithin 31 24000000000000000000 (neg_ℤ (pos 3 *ℤ (w *ℤ s)))
    falls s n l k =
        let p = product_within w s (pos 248000000000000) (pos 1000000) (omega (arith, ints, h.least)) h.most
        (omega (arith, ints, k.low))
        (omega (arith, ints, k.high)) in
        go (w *ℤ s) p.0 p.1
      where
        go : (t : ℤ) → neg_ℤ (pos 1000000 *ℤ pos 248000000000000) ≼ t → t ≼ pos 1000000 *ℤ pos 248000000000000 →
            IsWithin 31 24000000000000000000 (neg_ℤ (pos 3 *ℤ t))
        go t l m = record { low = omega (arith, ints); high = omega (arith, ints) }

    turns : (s : ℤ) (n : ℕ) → n ≤ 31 → IsWithin n 32000000000000000000 s →
        IsWithin 31 32000000000000000000000000 (neg_ℤ (w *ℤ s))
    turns s n l k =
        let p = product_within w s (pos 992000000000000000000) (pos 1000000) (omega (arith, ints, h.least)) h.most
        (omega (arith, ints, k.low))
        (omega (arith, ints, k.high)) in
        go (w *ℤ s) p.0 p.1
      where
        go : (t : ℤ) → neg_ℤ (pos 1000000 *ℤ pos 992000000000000000000) ≼ t →
            t ≼ pos 1000000 *ℤ pos 992000000000000000000 → IsWithin 31 32000000000000000000000000 (neg_ℤ t)
        go t l m = record { low = omega (arith, ints); high = omega (arith, ints) }

-- it is within the bound of a body's own load
pub weight_is_own : {v : Wrench} → IsWeight v → IsOwnLoad v
weight_is_own {v} h = record { fx = none v.fx h.fx; fy = force v.fy h.fy; m = moment v.m h.m }
  where
    none : (z : ℤ) → z ≡ pos 0 → IsWithin 31 12000000000000000000000 z
    none z e = record { low = omega (arith, ints, e); high = omega (arith, ints, e) }

    force : (z : ℤ) → IsWithin 31 24000000000000000000 z → IsWithin 31 12000000000000000000000 z
    force z k = record { low = omega (arith, ints, k.low); high = omega (arith, ints, k.high) }

    moment : (z : ℤ) → IsWithin 31 32000000000000000000000000 z → IsWithin 31 32000000000000000000000000000 z
    moment z k = record { low = omega (arith, ints, k.low); high = omega (arith, ints, k.high) }
