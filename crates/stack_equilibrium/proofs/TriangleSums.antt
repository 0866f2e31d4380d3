-- Numbers of a size: sums over the triangles of a chain, and products.
use Rattle.std.proofs.Common.{ℕ, suc, ◌<◌, ℤ, ◌+ℤ◌, ◌*ℤ◌, neg_ℤ, List, [], ◌∷◌, length, get_or, arith}
use Rattle.std.proofs.lemmas.Int.{ints}
use Rattle.stack_algebra.proofs.Integers.{sums, expand}
use Rattle.stack_algebra.proofs.Order.{◌≼◌, mul-bounds}
use Rattle.stack_polygon.specs.declared.point.Point.{Point}
use Rattle.stack_polygon.specs.Corners.{origin}
use Rattle.stack_polygon.specs.Limits.{IsInRange}
use Rattle.stack_polygon.specs.Sizes.{IsWithin}
use Rattle.stack_statics.specs.Loads.{sum_of_triangles}

one_more : (n bound : ℕ) (x s : ℤ) → IsWithin 1 bound x → IsWithin n bound s → IsWithin (suc n) bound (x +ℤ s)
one_more n bound x s h k = record { low = omega (arith, ints); high = omega (arith, ints) }

-- a sum over a chain of corners in range
pub summed : (f : Point → Point → Point → ℤ) (bound : ℕ) (o : Point) (rest : List Point) →
    ((p q : Point) → IsInRange p → IsInRange q → IsWithin 1 bound (f o p q)) →
    ((j : ℕ) → j < length rest → IsInRange (get_or rest j origin)) →
    IsWithin (length rest) bound (sum_of_triangles f o rest)
summed f bound o [] each range = record { low = omega (arith, ints); high = omega (arith, ints) }
summed f bound o (p ∷ []) each range = record { low = omega (arith, ints); high = omega (arith, ints) }
summed f bound o (p ∷ q ∷ rest) each range = one_more (suc (length rest)) bound (f o p q)
    (sum_of_triangles f o (q ∷ rest)) (each p q (range 0 (omega arith)) (range 1 (omega arith)))
    (summed f bound o (q ∷ rest) each (λ j l. range (suc j) (omega arith)))

-- a product of two numbers of these sizes
pub product_within : (w s B C : ℤ) → neg_ℤ C ≼ w → w ≼ C → neg_ℤ B ≼ s → s ≼ B →
    (neg_ℤ (C *ℤ B) ≼ w *ℤ s) × (w *ℤ s ≼ C *ℤ B)
product_within w s B C least most low high =
    let m = mul-bounds w s C B most (omega (arith, sums, least)) high (omega (arith, sums, low)) in
    let n = mul-bounds (neg_ℤ w) s C B (omega (arith, sums, least)) (omega (arith, sums, most)) high
    (omega (arith, sums, low)) in
    (simp expand (omega (arith, sums, simp expand at m)), simp expand (omega (arith, sums, simp expand at n)))
