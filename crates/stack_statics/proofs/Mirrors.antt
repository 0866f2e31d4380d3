-- Sums over triangles in the mirror that exchanges x and y: so a law on x distances is one on y distances.
use Rattle.std.proofs.Common.{◌≡◌, refl, ap, ◌∙◌, ℤ, ◌+ℤ◌, ◌-ℤ◌, ◌*ℤ◌, neg_ℤ, List, [], ◌∷◌, map, arith}
use Rattle.stack_algebra.proofs.Integers.{expand, sums}
use Rattle.stack_polygon.specs.declared.point.Point.{Point}
use Rattle.stack_polygon.specs.Plane.{triangle_of}
use Rattle.stack_statics.specs.Loads.{sum_of_triangles, moment_of_triangle}
use Rattle.stack_statics.specs.Sway.{level_moment_of_triangle}

abbrev pub mirror : Point → Point
mirror p = record { x = p.y; y = p.x }

-- a number of each triangle that is the opposite in the mirror
mirrored : (f g : Point → Point → Point → ℤ)
    → ((o p q : Point) → f (mirror o) (mirror p) (mirror q) ≡ neg_ℤ (g o p q)) → (o : Point) (rest : List Point)
    → sum_of_triangles f (mirror o) (map mirror rest) ≡ neg_ℤ (sum_of_triangles g o rest)
mirrored f g each o [] = refl
mirrored f g each o (p ∷ []) = refl
mirrored f g each o (p ∷ q ∷ rest) = (λ i. each o p q i +ℤ mirrored f g each o (q ∷ rest) i)
    ∙ both (g o p q) (sum_of_triangles g o (q ∷ rest))
  where
    both : (a b : ℤ) → neg_ℤ a +ℤ neg_ℤ b ≡ neg_ℤ (a +ℤ b)
    both a b = omega (arith, sums)

-- twice the area of a triangle is the opposite in the mirror
area-turns : (ox oy px py qx qy : ℤ) →
    (py -ℤ oy) *ℤ (qx -ℤ ox) -ℤ (px -ℤ ox) *ℤ (qy -ℤ oy)
    ≡ neg_ℤ ((px -ℤ ox) *ℤ (qy -ℤ oy) -ℤ (py -ℤ oy) *ℤ (qx -ℤ ox))
area-turns ox oy px py qx qy = turn ((px -ℤ ox) *ℤ (qy -ℤ oy)) ((py -ℤ oy) *ℤ (qx -ℤ ox))
  where
    turn : (a b : ℤ) → b -ℤ a ≡ neg_ℤ (a -ℤ b)
    turn a b = omega (arith, sums)

pub mirrored_area : (o : Point) (rest : List Point) → sum_of_triangles triangle_of (mirror o) (map mirror rest)
    ≡ neg_ℤ (sum_of_triangles triangle_of o rest)
mirrored_area = mirrored triangle_of triangle_of (λ o p q. area-turns o.x o.y p.x p.y q.x q.y)

pub mirrored_moment : (o : Point) (rest : List Point)
    → sum_of_triangles moment_of_triangle (mirror o) (map mirror rest)
    ≡ neg_ℤ (sum_of_triangles level_moment_of_triangle o rest)
mirrored_moment = mirrored moment_of_triangle level_moment_of_triangle
    (λ o p q. ap (λ t. t *ℤ ((p.y -ℤ o.y) +ℤ (q.y -ℤ o.y))) (area-turns o.x o.y p.x p.y q.x q.y)
    ∙ out (triangle_of o p q) ((p.y -ℤ o.y) +ℤ (q.y -ℤ o.y)))
  where
    out : (a b : ℤ) → neg_ℤ a *ℤ b ≡ neg_ℤ (a *ℤ b)
    out a b = simp expand (omega (arith, sums))
