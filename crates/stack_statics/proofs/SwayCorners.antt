-- The sway of an outline doesn't depend on the corner that it is told from: it is so for the weight, and for the
-- weight in the mirror.
use Rattle.std.proofs.Common.{◌≡◌, sym, ap, ◌∙◌, ℤ, pos, ◌+ℤ◌, ◌-ℤ◌, ◌*ℤ◌, neg_ℤ, List, ◌∷◌, ◌++◌, map, arith}
use Rattle.std.proofs.lemmas.List.{map-append}
use Rattle.stack_algebra.proofs.Integers.{expand, sums}
use Rattle.stack_polygon.specs.declared.point.Point.{Point}
use Rattle.stack_polygon.specs.Plane.{triangle_of}
use Rattle.stack_statics.specs.declared.wrench.Wrench.{Wrench}
use Rattle.stack_statics.specs.Loads.{sum_of_triangles, moment_of_triangle}
use Rattle.stack_statics.proofs.Outlines.{any_corner_weighs_the_same}
use Rattle.stack_statics.specs.Sway.{level_moment_of_triangle}
use Rattle.stack_statics.specs.SwayLaws.{AnyCornerSwaysTheSame}
use Rattle.stack_statics.proofs.Mirrors.{mirror, mirrored_area, mirrored_moment}

module _ (o : Point) (xs : List Point) (c : Point) (ys : List Point) where
  abbrev from_c : (Point → Point → Point → ℤ) → ℤ
  from_c f = sum_of_triangles f c (ys ++ o ∷ xs)

  abbrev from_o : (Point → Point → Point → ℤ) → ℤ
  from_o f = sum_of_triangles f o (xs ++ c ∷ ys)

  areas : from_c triangle_of ≡ from_o triangle_of
  areas = plain (from_c triangle_of) (from_o triangle_of)
      (ap (λ (v : Wrench). v.fy) (any_corner_weighs_the_same (pos 1) o xs c ys))
    where
      plain : (a b : ℤ) → neg_ℤ (pos 3 *ℤ (pos 1 *ℤ a)) ≡ neg_ℤ (pos 3 *ℤ (pos 1 *ℤ b)) → a ≡ b
      plain a b h = omega (arith, sums, simp expand at h)

  moments : from_c moment_of_triangle +ℤ pos 3 *ℤ (c.x -ℤ o.x) *ℤ from_c triangle_of
      ≡ from_o moment_of_triangle
  moments = plain (from_c moment_of_triangle) (from_c triangle_of) (from_o moment_of_triangle) (c.x -ℤ o.x)
      (c.y -ℤ o.y) (ap (λ (v : Wrench). v.m) (any_corner_weighs_the_same (pos 1) o xs c ys))
    where
      plain : (h a k x y : ℤ) →
          neg_ℤ (pos 1 *ℤ h) +ℤ (x *ℤ neg_ℤ (pos 3 *ℤ (pos 1 *ℤ a)) -ℤ y *ℤ pos 0) ≡ neg_ℤ (pos 1 *ℤ k) →
          h +ℤ pos 3 *ℤ x *ℤ a ≡ k
      plain h a k x y e = simp expand (omega (arith, sums, simp expand at e))

-- the sums of the moments about level lines, in the mirror
module _ (o : Point) (xs : List Point) (c : Point) (ys : List Point) where
  level : sum_of_triangles level_moment_of_triangle c (ys ++ o ∷ xs)
      +ℤ pos 3 *ℤ (c.y -ℤ o.y) *ℤ sum_of_triangles triangle_of c (ys ++ o ∷ xs)
      ≡ sum_of_triangles level_moment_of_triangle o (xs ++ c ∷ ys)
  level = plain _ _ _ (c.y -ℤ o.y) (
      (λ i. there (λ f. f) i)
      ∙ moments (mirror o) (map mirror xs) (mirror c) (map mirror ys)
      ∙ sym (ap (λ zs. sum_of_triangles moment_of_triangle (mirror o) zs) (map-append mirror xs (c ∷ ys)))
      ∙ mirrored_moment o (xs ++ c ∷ ys))
    where
      plain : (h a k y : ℤ) → neg_ℤ h +ℤ pos 3 *ℤ y *ℤ neg_ℤ a ≡ neg_ℤ k → h +ℤ pos 3 *ℤ y *ℤ a ≡ k
      plain h a k y e = simp expand (omega (arith, sums, simp expand at e))

      there : (ℤ → ℤ) → neg_ℤ (sum_of_triangles level_moment_of_triangle c (ys ++ o ∷ xs))
          +ℤ pos 3 *ℤ (c.y -ℤ o.y) *ℤ neg_ℤ (sum_of_triangles triangle_of c (ys ++ o ∷ xs))
          ≡ sum_of_triangles moment_of_triangle (mirror c) (map mirror ys ++ mirror o ∷ map mirror xs)
          +ℤ pos 3 *ℤ (c.y -ℤ o.y)
          *ℤ sum_of_triangles triangle_of (mirror c) (map mirror ys ++ mirror o ∷ map mirror xs)
      there f = λ i.
          (sym (mirrored_moment c (ys ++ o ∷ xs))
          ∙ ap (λ zs. sum_of_triangles moment_of_triangle (mirror c) zs) (map-append mirror ys (o ∷ xs))) i
          +ℤ pos 3 *ℤ (c.y -ℤ o.y)
          *ℤ (sym (mirrored_area c (ys ++ o ∷ xs))
          ∙ ap (λ zs. sum_of_triangles triangle_of (mirror c) zs) (map-append mirror ys (o ∷ xs))) i

-- from the sums of two fans over one outline to their loads
same_force : (w s a b : ℤ) → a ≡ b → pos 3 *ℤ (w *ℤ a) *ℤ s ≡ pos 3 *ℤ (w *ℤ b) *ℤ s
same_force w s a b e = ap (λ t. pos 3 *ℤ (w *ℤ t) *ℤ s) e

same_moment : (w x y u v a h k m n : ℤ) → h +ℤ pos 3 *ℤ u *ℤ a ≡ m → k +ℤ pos 3 *ℤ v *ℤ a ≡ n →
    (w *ℤ h *ℤ y -ℤ w *ℤ k *ℤ x) +ℤ (u *ℤ (pos 3 *ℤ (w *ℤ a) *ℤ y) -ℤ v *ℤ (pos 3 *ℤ (w *ℤ a) *ℤ x))
    ≡ w *ℤ m *ℤ y -ℤ w *ℤ n *ℤ x
same_moment w x y u v a h k m n e f = simp expand
    (omega (arith, sums, simp expand at (ap (λ t. w *ℤ t *ℤ y) e), simp expand at (ap (λ t. w *ℤ t *ℤ x) f)))

pub any_corner_sways_the_same : AnyCornerSwaysTheSame
any_corner_sways_the_same s w o xs c ys = λ i. record {
  fx = same_force w s.0 _ _ (areas o xs c ys) i;
  fy = same_force w s.1 _ _ (areas o xs c ys) i;
  m = same_moment w s.0 s.1 (c.x -ℤ o.x) (c.y -ℤ o.y) (sum_of_triangles triangle_of c (ys ++ o ∷ xs)) _ _ _ _
      (moments o xs c ys) (level o xs c ys) i;
}
