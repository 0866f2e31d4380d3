-- A body's weight by its area and its first moment, which are sums over the same triangles.
use Rattle.std.proofs.Common.{◌≡◌, refl, sym, ap, ◌∙◌, ℕ, suc, ◌+◌, ◌-◌, ℤ, pos, ◌+ℤ◌, ◌-ℤ◌, ◌*ℤ◌, neg_ℤ, List, []}
use Rattle.std.proofs.Common.{◌∷◌, length, get_or, arith}
use Rattle.stack_algebra.specs.Sums.{sum_to}
use Rattle.stack_algebra.proofs.Integers.{expand, sums}
use Rattle.stack_algebra.proofs.IntegerRing.{integers}
use Rattle.stack_algebra.proofs.Sums.{sum_same, sum-first}
use Rattle.stack_polygon.specs.declared.point.Point.{Point}
use Rattle.stack_polygon.specs.Plane.{triangle_of}
use Rattle.stack_polygon.specs.Corners.{origin, corner_of}
use Rattle.stack_polygon.specs.Area.{fan_of, twice_area_of, moment_about_y_of, six_moments_of}
use Rattle.stack_statics.specs.Loads.{sum_of_triangles, moment_of_triangle, weight_of}
use Rattle.stack_statics.specs.Weights.{weight_by}

-- a sum over a chain of corners, by their places
by_places : (f : Point → Point → Point → ℤ) (o : Point) (rest : List Point) → sum_of_triangles f o rest
    ≡ sum_to (length rest - 1) (λ i. f o (get_or rest i origin) (get_or rest (suc i) origin))
by_places f o [] = refl
by_places f o (p ∷ []) = refl
by_places f o (p ∷ q ∷ rest) =
    ap (λ t. f o p q +ℤ t) (by_places f o (q ∷ rest)
    ∙ ap (λ n. sum_to n (λ i. f o (get_or (q ∷ rest) i origin) (get_or (q ∷ rest) (suc i) origin)))
    (less (length rest)))
    ∙ sym (sum-first integers (length rest)
    (λ i. f o (get_or (p ∷ q ∷ rest) i origin) (get_or (p ∷ q ∷ rest) (suc i) origin)))
    ∙ ap (λ n. sum_to n (λ i. f o (get_or (p ∷ q ∷ rest) i origin) (get_or (p ∷ q ∷ rest) (suc i) origin)))
    (sym (less (suc (length rest))))
  where
    less : (n : ℕ) → suc n - 1 ≡ n
    less n = omega arith

pub fan_is : (f : Point → Point → Point → ℤ) (o : Point) (rest : List Point) → sum_of_triangles f o rest
    ≡ fan_of f (o ∷ rest)
fan_is f o rest =
    by_places f o rest
    ∙ ap (λ n. sum_to n (λ i. f o (get_or rest i origin) (get_or rest (suc i) origin))) (fewer (length rest))
    ∙ sum_same integers (suc (length rest) - 2) (λ i. f o (get_or rest i origin) (get_or rest (suc i) origin))
    (λ i. f o (corner_of (o ∷ rest) (i + 1)) (corner_of (o ∷ rest) (i + 2)))
    (λ i l j. f o (get_or (o ∷ rest) (next i j) origin) (get_or (o ∷ rest) (after i j) origin))
  where
    fewer : (n : ℕ) → n - 1 ≡ suc n - 2
    fewer n = omega arith

    next : (i : ℕ) → suc i ≡ i + 1
    next i = omega arith

    after : (i : ℕ) → suc (suc i) ≡ i + 2
    after i = omega arith

-- the moment about the first corner, by that about the y axis
moved : (o : Point) (rest : List Point) → sum_of_triangles moment_of_triangle o rest
    ≡ sum_of_triangles moment_about_y_of o rest -ℤ pos 3 *ℤ o.x *ℤ sum_of_triangles triangle_of o rest
moved o [] = none o.x
  where
    none : (x : ℤ) → pos 0 ≡ pos 0 -ℤ pos 3 *ℤ x *ℤ pos 0
    none x = simp expand (omega (arith, sums))
moved o (p ∷ []) = none o.x
  where
    none : (x : ℤ) → pos 0 ≡ pos 0 -ℤ pos 3 *ℤ x *ℤ pos 0
    none x = simp expand (omega (arith, sums))
moved o (p ∷ q ∷ rest) =
    ap (λ t. moment_of_triangle o p q +ℤ t) (moved o (q ∷ rest))
    ∙ one o.x p.x q.x (triangle_of o p q) (sum_of_triangles moment_about_y_of o (q ∷ rest))
    (sum_of_triangles triangle_of o (q ∷ rest))
  where
    one : (x u v t m a : ℤ) → t *ℤ ((u -ℤ x) +ℤ (v -ℤ x)) +ℤ (m -ℤ pos 3 *ℤ x *ℤ a)
        ≡ (t *ℤ (x +ℤ u +ℤ v) +ℤ m) -ℤ pos 3 *ℤ x *ℤ (t +ℤ a)
    one x u v t m a = simp expand (omega (arith, sums))

-- the weight along y, and its moment
pub weight_y : (w : ℤ) (ps : List Point) → (weight_of w ps).fy ≡ neg_ℤ (pos 3 *ℤ (w *ℤ twice_area_of ps))
weight_y w [] = none w
  where
    none : (w : ℤ) → pos 0 ≡ neg_ℤ (pos 3 *ℤ (w *ℤ pos 0))
    none w = simp expand (omega (arith, sums))
weight_y w (o ∷ rest) = ap (λ t. neg_ℤ (pos 3 *ℤ (w *ℤ t))) (fan_is triangle_of o rest)

pub weight_m : (w : ℤ) (ps : List Point) → (weight_of w ps).m
    ≡ neg_ℤ (w *ℤ ((six_moments_of ps).0 -ℤ pos 3 *ℤ (corner_of ps 0).x *ℤ twice_area_of ps))
weight_m w [] = none w
  where
    none : (w : ℤ) → pos 0 ≡ neg_ℤ (w *ℤ (pos 0 -ℤ pos 3 *ℤ pos 0 *ℤ pos 0))
    none w = simp expand (omega (arith, sums))
weight_m w (o ∷ rest) = ap (λ t. neg_ℤ (w *ℤ t)) (moved o rest
    ∙ (λ i. fan_is moment_about_y_of o rest i -ℤ pos 3 *ℤ o.x *ℤ fan_is triangle_of o rest i))

pub weight_x : (w : ℤ) (ps : List Point) → (weight_of w ps).fx ≡ pos 0
weight_x w [] = refl
weight_x w (o ∷ rest) = refl

-- the two sums of a body give its weight
pub weighs : (w : ℤ) (ps : List Point) (area moment : ℤ) → area ≡ twice_area_of ps
    → moment ≡ (six_moments_of ps).0 -ℤ pos 3 *ℤ (corner_of ps 0).x *ℤ twice_area_of ps →
    weight_by w area moment
    ≡ weight_of w ps
weighs w ps area moment is_area is_moment = λ i. record {
  fx = along_x i;
  fy = along_y i;
  m = turning i;
}
  where
    regroup : (w a : ℤ) → neg_ℤ (w *ℤ (pos 3 *ℤ a)) ≡ neg_ℤ (pos 3 *ℤ (w *ℤ a))
    regroup w a = simp expand (omega (arith, sums))

    along_x : pos 0 ≡ (weight_of w ps).fx
    along_x = sym (weight_x w ps)

    along_y : neg_ℤ (w *ℤ (pos 3 *ℤ area)) ≡ (weight_of w ps).fy
    along_y = regroup w area ∙ ap (λ a. neg_ℤ (pos 3 *ℤ (w *ℤ a))) is_area ∙ sym (weight_y w ps)

    turning : neg_ℤ (w *ℤ moment) ≡ (weight_of w ps).m
    turning = ap (λ t. neg_ℤ (w *ℤ t)) is_moment ∙ sym (weight_m w ps)
