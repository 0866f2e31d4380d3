-- The sway's load by twice the area and the first moments about the axes.
use Rattle.std.proofs.Common.{◌≡◌, refl, sym, ap, ◌∙◌, ℤ, pos, ◌+ℤ◌, ◌-ℤ◌, ◌*ℤ◌, List, [], ◌∷◌, arith}
use Rattle.stack_algebra.proofs.Integers.{expand, sums}
use Rattle.stack_polygon.specs.declared.point.Point.{Point}
use Rattle.stack_polygon.specs.Plane.{triangle_of}
use Rattle.stack_polygon.specs.Corners.{corner_of}
use Rattle.stack_polygon.specs.Area.{twice_area_of, moment_about_y_of, moment_about_x_of, six_moments_of}
use Rattle.stack_statics.specs.Loads.{sum_of_triangles, moment_of_triangle}
use Rattle.stack_statics.proofs.FanSums.{fan_is}
use Rattle.stack_statics.specs.Sway.{level_moment_of_triangle, sway_load, sway_by}

-- along one coordinate g: six times the first moment about the line through o, and about the axis
module _ (g : Point → ℤ) where
  abbrev arm_moment : Point → Point → Point → ℤ
  arm_moment o p q = triangle_of o p q *ℤ ((g p -ℤ g o) +ℤ (g q -ℤ g o))

  abbrev axis_moment : Point → Point → Point → ℤ
  axis_moment o p q = triangle_of o p q *ℤ (g o +ℤ g p +ℤ g q)

  pub moved : (o : Point) (rest : List Point) → sum_of_triangles arm_moment o rest
      ≡ sum_of_triangles axis_moment o rest -ℤ pos 3 *ℤ g o *ℤ sum_of_triangles triangle_of o rest
  moved o [] = none (g o)
    where
      none : (x : ℤ) → pos 0 ≡ pos 0 -ℤ pos 3 *ℤ x *ℤ pos 0
      none x = simp expand (omega (arith, sums))
  moved o (p ∷ []) = none (g o)
    where
      none : (x : ℤ) → pos 0 ≡ pos 0 -ℤ pos 3 *ℤ x *ℤ pos 0
      none x = simp expand (omega (arith, sums))
  moved o (p ∷ q ∷ rest) =
      ap (λ t. arm_moment o p q +ℤ t) (moved o (q ∷ rest))
      ∙ one (g o) (g p) (g q) (triangle_of o p q) (sum_of_triangles axis_moment o (q ∷ rest))
      (sum_of_triangles triangle_of o (q ∷ rest))
    where
      one : (x u v t m a : ℤ) → t *ℤ ((u -ℤ x) +ℤ (v -ℤ x)) +ℤ (m -ℤ pos 3 *ℤ x *ℤ a)
          ≡ (t *ℤ (x +ℤ u +ℤ v) +ℤ m) -ℤ pos 3 *ℤ x *ℤ (t +ℤ a)
      one x u v t m a = simp expand (omega (arith, sums))

-- the first moments about the lines through the corner, by the sums over the fan
pub about_y_is : (o : Point) (rest : List Point) → sum_of_triangles moment_of_triangle o rest
    ≡ (six_moments_of (o ∷ rest)).0 -ℤ pos 3 *ℤ o.x *ℤ twice_area_of (o ∷ rest)
about_y_is o rest = moved (λ p. p.x) o rest
    ∙ (λ i. fan_is moment_about_y_of o rest i -ℤ pos 3 *ℤ o.x *ℤ fan_is triangle_of o rest i)

pub about_x_is : (o : Point) (rest : List Point) → sum_of_triangles level_moment_of_triangle o rest
    ≡ (six_moments_of (o ∷ rest)).1 -ℤ pos 3 *ℤ o.y *ℤ twice_area_of (o ∷ rest)
about_x_is o rest = moved (λ p. p.y) o rest
    ∙ (λ i. fan_is moment_about_x_of o rest i -ℤ pos 3 *ℤ o.y *ℤ fan_is triangle_of o rest i)

-- the three sums of a body give its sway
pub sways : (s : ℤ × ℤ) (w : ℤ) (ps : List Point) (area about_y about_x : ℤ) → area ≡ twice_area_of ps
    → about_y ≡ (six_moments_of ps).0 -ℤ pos 3 *ℤ (corner_of ps 0).x *ℤ twice_area_of ps
    → about_x ≡ (six_moments_of ps).1 -ℤ pos 3 *ℤ (corner_of ps 0).y *ℤ twice_area_of ps
    → sway_by s w area about_y about_x ≡ sway_load s w ps
sways s w [] area about_y about_x is_area is_y is_x =
    (λ i. sway_by s w (is_area i) ((is_y ∙ nothing) i) ((is_x ∙ nothing) i))
    ∙ (λ i. record { fx = force w s.0 i; fy = force w s.1 i; m = turning w s.0 s.1 i })
  where
    nothing : pos 0 -ℤ pos 3 *ℤ pos 0 *ℤ pos 0 ≡ pos 0
    nothing = refl

    force : (w x : ℤ) → w *ℤ (pos 3 *ℤ pos 0) *ℤ x ≡ pos 0
    force w x = simp expand (omega (arith, sums))

    turning : (w x y : ℤ) → w *ℤ pos 0 *ℤ y -ℤ w *ℤ pos 0 *ℤ x ≡ pos 0
    turning w x y = simp expand (omega (arith, sums))
sways s w (o ∷ rest) area about_y about_x is_area is_y is_x = λ i. record {
  fx = force s.0 i;
  fy = force s.1 i;
  m = w *ℤ turning i *ℤ s.1 -ℤ w *ℤ rising i *ℤ s.0;
}
  where
    regroup : (w a x : ℤ) → w *ℤ (pos 3 *ℤ a) *ℤ x ≡ pos 3 *ℤ (w *ℤ a) *ℤ x
    regroup w a x = simp expand (omega (arith, sums))

    force : (x : ℤ) → w *ℤ (pos 3 *ℤ area) *ℤ x ≡ pos 3 *ℤ (w *ℤ sum_of_triangles triangle_of o rest) *ℤ x
    force x = regroup w area x
        ∙ ap (λ a. pos 3 *ℤ (w *ℤ a) *ℤ x) (is_area ∙ sym (fan_is triangle_of o rest))

    turning : about_y ≡ sum_of_triangles moment_of_triangle o rest
    turning = is_y ∙ sym (about_y_is o rest)

    rising : about_x ≡ sum_of_triangles level_moment_of_triangle o rest
    rising = is_x ∙ sym (about_x_is o rest)
