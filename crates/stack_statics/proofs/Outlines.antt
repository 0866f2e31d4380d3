-- The weight of an outline doesn't depend on the corner that it is told from: sums over the triangles of a
-- fan are sums over the closed outline, and those can begin anywhere.
use mathlib.Core.Path.{◌≡◌, refl, sym, ap, ◌∙◌}
use mathlib.Core.List.{List, [], ◌∷◌, ◌++◌}
use native.Mathlib.Omega.{arith}
use lib.IntN.{ℤ, pos, ◌+ℤ◌, ◌-ℤ◌, ◌*ℤ◌, neg_ℤ}
use Rattle.stack_algebra.proofs.Integers.{expand, sums}
use Rattle.stack_algebra.proofs.Ring.{ring6, num, ◌⊕◌, ◌⊖◌, ◌⊗◌}
use Rattle.stack_algebra.proofs.IntegerRing.{integers}
use Rattle.stack_polygon.specs.declared.point.Point.{Point}
use Rattle.stack_polygon.specs.Plane.{triangle_of}
use Rattle.stack_statics.specs.Loads.{moment_of_triangle, sum_of_triangles}
use Rattle.stack_statics.specs.Laws.{AnyCornerWeighsTheSame}

-- twice the area of the triangle that an edge makes with the origin
abbrev area : Point → Point → ℤ
area p q = p.x *ℤ q.y -ℤ p.y *ℤ q.x

-- six times its moment about the y axis
abbrev moment : Point → Point → ℤ
moment p q = (p.x *ℤ q.y -ℤ p.y *ℤ q.x) *ℤ (p.x +ℤ q.x)

-- a number of each edge, over a chain of corners
edges : (Point → Point → ℤ) → Point → List Point → ℤ
edges f p [] = pos 0
edges f p (q ∷ rest) = f p q +ℤ edges f q rest

last : Point → List Point → Point
last p [] = p
last p (q ∷ rest) = last q rest

-- the sum of a number of each edge over the closed outline
closed : (Point → Point → ℤ) → Point → List Point → ℤ
closed f p rest = edges f p rest +ℤ f (last p rest) p

last-append : (p q : Point) (xs ys : List Point) → last p (xs ++ q ∷ ys) ≡ last q ys
unfolding last
last-append p q [] ys = refl
last-append p q (x ∷ xs) ys = last-append x q xs ys

edges-append : (f : Point → Point → ℤ) (p q : Point) (xs ys : List Point) →
    edges f p (xs ++ q ∷ ys) ≡ edges f p xs +ℤ f (last p xs) q +ℤ edges f q ys
unfolding edges last
edges-append f p q [] ys = first (f p q) (edges f q ys)
  where
    first : (a b : ℤ) → a +ℤ b ≡ pos 0 +ℤ a +ℤ b
    first a b = omega (arith, sums)
edges-append f p q (x ∷ xs) ys =
    ap (λ z. f p x +ℤ z) (edges-append f x q xs ys)
    ∙ shift (f p x) (edges f x xs) (f (last x xs) q) (edges f q ys)
  where
    shift : (a b c d : ℤ) → a +ℤ (b +ℤ c +ℤ d) ≡ a +ℤ b +ℤ c +ℤ d
    shift a b c d = omega (arith, sums)

-- an outline may begin at any of its corners
closed-turned : (f : Point → Point → ℤ) (p q : Point) (xs ys : List Point) → closed f q (ys ++ p ∷ xs)
    ≡ closed f p (xs ++ q ∷ ys)
unfolding closed
closed-turned f p q xs ys =
    (λ i. edges-append f q p ys xs i +ℤ f (last-append q p ys xs i) q)
    ∙ swap (edges f q ys) (f (last q ys) p) (edges f p xs) (f (last p xs) q)
    ∙ sym (λ i. edges-append f p q xs ys i +ℤ f (last-append p q xs ys i) p)
  where
    swap : (a b c d : ℤ) → a +ℤ b +ℤ c +ℤ d ≡ c +ℤ d +ℤ a +ℤ b
    swap a b c d = omega (arith, sums)

-- a triangle by its three edges
triangle-area : (ox oy px py qx qy : ℤ) →
    (px -ℤ ox) *ℤ (qy -ℤ oy) -ℤ (py -ℤ oy) *ℤ (qx -ℤ ox)
    ≡ (px *ℤ qy -ℤ py *ℤ qx) +ℤ (ox *ℤ py -ℤ oy *ℤ px) -ℤ (ox *ℤ qy -ℤ oy *ℤ qx)
triangle-area ox oy px py qx qy = simp expand (omega (arith, sums))

triangle-moment : (ox oy px py qx qy : ℤ) →
    ((px -ℤ ox) *ℤ (qy -ℤ oy) -ℤ (py -ℤ oy) *ℤ (qx -ℤ ox)) *ℤ ((px -ℤ ox) +ℤ (qx -ℤ ox))
    +ℤ pos 3 *ℤ ox *ℤ ((px -ℤ ox) *ℤ (qy -ℤ oy) -ℤ (py -ℤ oy) *ℤ (qx -ℤ ox))
    ≡ (px *ℤ qy -ℤ py *ℤ qx) *ℤ (px +ℤ qx) +ℤ (ox *ℤ py -ℤ oy *ℤ px) *ℤ (ox +ℤ px) -ℤ (ox *ℤ qy -ℤ oy *ℤ qx)
    *ℤ (ox +ℤ qx)
triangle-moment = ring6 integers (λ ox oy px py qx qy. (
  ((px ⊖ ox) ⊗ (qy ⊖ oy) ⊖ (py ⊖ oy) ⊗ (qx ⊖ ox)) ⊗ ((px ⊖ ox) ⊕ (qx ⊖ ox))
      ⊕ num (pos 3) ⊗ ox ⊗ ((px ⊖ ox) ⊗ (qy ⊖ oy) ⊖ (py ⊖ oy) ⊗ (qx ⊖ ox)),
  (px ⊗ qy ⊖ py ⊗ qx) ⊗ (px ⊕ qx) ⊕ (ox ⊗ py ⊖ oy ⊗ px) ⊗ (ox ⊕ px) ⊖ (ox ⊗ qy ⊖ oy ⊗ qx) ⊗ (ox ⊕ qx),
)) refl

-- the triangles over an open chain of edges
fan-area : (o p : Point) (rest : List Point) →
    sum_of_triangles triangle_of o (p ∷ rest) ≡ edges area p rest +ℤ area o p -ℤ area o (last p rest)
unfolding edges last
fan-area o p [] = ends (area o p)
  where
    ends : (a : ℤ) → pos 0 ≡ pos 0 +ℤ a -ℤ a
    ends a = omega (arith, sums)
fan-area o p (q ∷ rest) =
    (λ i. triangle o p q i +ℤ fan-area o q rest i)
    ∙ on (area p q) (area o p) (area o q) (edges area q rest) (area o (last q rest))
  where
    triangle : (o p q : Point) → triangle_of o p q ≡ area p q +ℤ area o p -ℤ area o q
    triangle o p q = triangle-area o.x o.y p.x p.y q.x q.y

    on : (a b c d e : ℤ) → (a +ℤ b -ℤ c) +ℤ (d +ℤ c -ℤ e) ≡ (a +ℤ d) +ℤ b -ℤ e
    on a b c d e = omega (arith, sums)

fan-moment : (o p : Point) (rest : List Point) →
    sum_of_triangles moment_of_triangle o (p ∷ rest) +ℤ pos 3 *ℤ o.x *ℤ sum_of_triangles triangle_of o
    (p ∷ rest)
    ≡ edges moment p rest +ℤ moment o p -ℤ moment o (last p rest)
unfolding edges last
fan-moment o p [] = ends o.x (moment o p)
  where
    ends : (x a : ℤ) → pos 0 +ℤ pos 3 *ℤ x *ℤ pos 0 ≡ pos 0 +ℤ a -ℤ a
    ends x a = simp expand (omega (arith, sums))
fan-moment o p (q ∷ rest) =
    gather o.x (moment_of_triangle o p q) (sum_of_triangles moment_of_triangle o (q ∷ rest))
    (triangle_of o p q) (sum_of_triangles triangle_of o (q ∷ rest))
    ∙ (λ i. triangle o p q i +ℤ fan-moment o q rest i)
    ∙ on (moment p q) (moment o p) (moment o q) (edges moment q rest) (moment o (last q rest))
  where
    gather : (x a b c d : ℤ) → (a +ℤ b) +ℤ pos 3 *ℤ x *ℤ (c +ℤ d)
        ≡ (a +ℤ pos 3 *ℤ x *ℤ c) +ℤ (b +ℤ pos 3 *ℤ x *ℤ d)
    gather x a b c d = simp expand (omega (arith, sums))

    triangle : (o p q : Point) → moment_of_triangle o p q +ℤ pos 3 *ℤ o.x *ℤ triangle_of o p q
        ≡ moment p q +ℤ moment o p -ℤ moment o q
    triangle o p q = triangle-moment o.x o.y p.x p.y q.x q.y

    on : (a b c d e : ℤ) → (a +ℤ b -ℤ c) +ℤ (d +ℤ c -ℤ e) ≡ (a +ℤ d) +ℤ b -ℤ e
    on a b c d e = omega (arith, sums)

-- the triangles over the closed outline
closed-area : (o : Point) (rest : List Point) → sum_of_triangles triangle_of o rest ≡ closed area o rest
unfolding closed edges last
closed-area o [] = plain o.x o.y
  where
    plain : (x y : ℤ) → pos 0 ≡ pos 0 +ℤ (x *ℤ y -ℤ y *ℤ x)
    plain x y = simp expand (omega (arith, sums))
closed-area o (p ∷ rest) = fan-area o p rest
    ∙ turn (edges area p rest) (area o p) o.x o.y (last p rest).x (last p rest).y
  where
    turn : (a b x y u v : ℤ) → a +ℤ b -ℤ (x *ℤ v -ℤ y *ℤ u) ≡ (b +ℤ a) +ℤ (u *ℤ y -ℤ v *ℤ x)
    turn a b x y u v = simp expand (omega (arith, sums))

closed-moment : (o : Point) (rest : List Point) →
    sum_of_triangles moment_of_triangle o rest +ℤ pos 3 *ℤ o.x *ℤ sum_of_triangles triangle_of o rest
    ≡ closed moment o rest
unfolding closed edges last
closed-moment o [] = plain o.x o.y
  where
    plain : (x y : ℤ) → pos 0 +ℤ pos 3 *ℤ x *ℤ pos 0 ≡ pos 0 +ℤ (x *ℤ y -ℤ y *ℤ x) *ℤ (x +ℤ x)
    plain x y = simp expand (omega (arith, sums))
closed-moment o (p ∷ rest) = fan-moment o p rest
    ∙ turn (edges moment p rest) (moment o p) o.x o.y (last p rest).x (last p rest).y
  where
    turn : (a b x y u v : ℤ) → a +ℤ b -ℤ (x *ℤ v -ℤ y *ℤ u) *ℤ (x +ℤ u)
        ≡ (b +ℤ a) +ℤ (u *ℤ y -ℤ v *ℤ x) *ℤ (u +ℤ x)
    turn a b x y u v = simp expand (omega (arith, sums))

-- from the sums of two fans over one outline to their wrenches
same_force : (w a b : ℤ) → a ≡ b → neg_ℤ (pos 3 *ℤ (w *ℤ a)) ≡ neg_ℤ (pos 3 *ℤ (w *ℤ b))
same_force w a b e = ap (λ t. neg_ℤ (pos 3 *ℤ (w *ℤ t))) e

same_moment : (w ox cx ly a b m n : ℤ) → a ≡ b → n +ℤ pos 3 *ℤ cx *ℤ b ≡ m +ℤ pos 3 *ℤ ox *ℤ a →
    neg_ℤ (w *ℤ n) +ℤ ((cx -ℤ ox) *ℤ neg_ℤ (pos 3 *ℤ (w *ℤ b)) -ℤ ly *ℤ pos 0) ≡ neg_ℤ (w *ℤ m)
same_moment w ox cx ly a b m n e h = simp expand
    (omega (
      arith,
      sums,
      simp expand at (ap (λ t. w *ℤ t) h),
      simp expand at (ap (λ t. pos 3 *ℤ w *ℤ ox *ℤ t) e),
    ))

pub any_corner_weighs_the_same : AnyCornerWeighsTheSame
any_corner_weighs_the_same w o xs c ys = λ i. record {
  fx = pos 0;
  fy = same_force w _ _ areas i;
  m = same_moment w o.x c.x (c.y -ℤ o.y) (sum_of_triangles triangle_of o (xs ++ c ∷ ys))
      (sum_of_triangles triangle_of c (ys ++ o ∷ xs)) _ _ (sym areas) moments i;
}
  where
    areas : sum_of_triangles triangle_of c (ys ++ o ∷ xs) ≡ sum_of_triangles triangle_of o (xs ++ c ∷ ys)
    areas = closed-area c (ys ++ o ∷ xs) ∙ closed-turned area o c xs ys ∙ sym (closed-area o (xs ++ c ∷ ys))

    moments : sum_of_triangles moment_of_triangle c (ys ++ o ∷ xs)
        +ℤ pos 3 *ℤ c.x *ℤ sum_of_triangles triangle_of c (ys ++ o ∷ xs)
        ≡ sum_of_triangles moment_of_triangle o (xs ++ c ∷ ys)
        +ℤ pos 3 *ℤ o.x *ℤ sum_of_triangles triangle_of o (xs ++ c ∷ ys)
    moments = closed-moment c (ys ++ o ∷ xs) ∙ closed-turned moment o c xs ys
        ∙ sym (closed-moment o (xs ++ c ∷ ys))
