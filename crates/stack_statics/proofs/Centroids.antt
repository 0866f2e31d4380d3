-- The sway acts at the centroid; straight down it is the weight, and it grows with the sway.
use Rattle.std.proofs.Common.{◌≡◌, refl, sym, ap, ◌∙◌, ℤ, pos, negsuc, ◌+ℤ◌, ◌-ℤ◌, ◌*ℤ◌, neg_ℤ, [], ◌∷◌, arith}
use Rattle.stack_algebra.proofs.Integers.{expand, sums}
use Rattle.stack_polygon.specs.Plane.{triangle_of}
use Rattle.stack_polygon.specs.Area.{twice_area_of, six_moments_of}
use Rattle.stack_statics.specs.Loads.{sum_of_triangles, moment_of_triangle}
use Rattle.stack_statics.proofs.FanSums.{fan_is}
use Rattle.stack_statics.specs.Sway.{level_moment_of_triangle}
use Rattle.stack_statics.specs.SwayLaws.{SwayActsAtCentroid, SwayDownIsWeight, NoSwayIsNoLoad, SwaysAddUp}
use Rattle.stack_statics.proofs.SwaySums.{about_y_is, about_x_is}

no_force : (x : ℤ) → pos 0 ≡ neg_ℤ (pos 0) *ℤ x
no_force x = simp expand (omega (arith, sums))

share_of_weight : (w a x : ℤ) → pos 3 *ℤ (w *ℤ a) *ℤ x ≡ neg_ℤ (neg_ℤ (pos 3 *ℤ (w *ℤ a))) *ℤ x
share_of_weight w a x = simp expand (omega (arith, sums))

-- X and W times an arm are three times the area times it
at_arm : (a h x X W : ℤ) → pos 3 *ℤ a *ℤ X ≡ (h +ℤ pos 3 *ℤ x *ℤ a) *ℤ W →
    pos 3 *ℤ a *ℤ (X -ℤ x *ℤ W) ≡ h *ℤ W
at_arm a h x X W e = simp expand (omega (arith, sums, simp expand at e))

-- the moment of the force at the centroid
at_centroid : (w x y a h k u v W : ℤ) → pos 3 *ℤ a *ℤ u ≡ h *ℤ W → pos 3 *ℤ a *ℤ v ≡ k *ℤ W →
    (w *ℤ h *ℤ y -ℤ w *ℤ k *ℤ x) *ℤ W
    ≡ u *ℤ (neg_ℤ (neg_ℤ (pos 3 *ℤ (w *ℤ a))) *ℤ y) -ℤ v *ℤ (neg_ℤ (neg_ℤ (pos 3 *ℤ (w *ℤ a))) *ℤ x)
at_centroid w x y a h k u v W e f = simp expand
    (omega (arith, sums, simp expand at (ap (λ t. w *ℤ t *ℤ y) e), simp expand at (ap (λ t. w *ℤ t *ℤ x) f)))

-- a first moment about an axis, by that about the line through the corner
back : (m h x a : ℤ) → h ≡ m -ℤ pos 3 *ℤ x *ℤ a → m ≡ h +ℤ pos 3 *ℤ x *ℤ a
back m h x a e = omega (arith, sums, e)

pub sway_acts_at_centroid : SwayActsAtCentroid
sway_acts_at_centroid s w [] X h = record {
  fx = no_force s.0;
  fy = no_force s.1;
  m = nothing X.w (X.x -ℤ pos 0 *ℤ X.w) (X.y -ℤ pos 0 *ℤ X.w) s.0 s.1;
}
  where
    nothing : (W u v x y : ℤ) → pos 0 *ℤ W ≡ u *ℤ (neg_ℤ (pos 0) *ℤ y) -ℤ v *ℤ (neg_ℤ (pos 0) *ℤ x)
    nothing W u v x y = simp expand (omega (arith, sums))
sway_acts_at_centroid s w (o ∷ rest) X h = record {
  fx = share_of_weight w area s.0;
  fy = share_of_weight w area s.1;
  m = at_centroid w s.0 s.1 area about_y about_x (X.x -ℤ o.x *ℤ X.w) (X.y -ℤ o.y *ℤ X.w) X.w
      (at_arm area about_y o.x X.x X.w (along_x ∙ ap (λ t. t *ℤ X.w) right_y))
      (at_arm area about_x o.y X.y X.w (along_y ∙ ap (λ t. t *ℤ X.w) right_x));
}
  where
    area : ℤ
    area = sum_of_triangles triangle_of o rest

    about_y : ℤ
    about_y = sum_of_triangles moment_of_triangle o rest

    about_x : ℤ
    about_x = sum_of_triangles level_moment_of_triangle o rest

    along_x : pos 3 *ℤ area *ℤ X.x ≡ (six_moments_of (o ∷ rest)).0 *ℤ X.w
    along_x = ap (λ a. pos 3 *ℤ a *ℤ X.x) (fan_is triangle_of o rest) ∙ h.x

    along_y : pos 3 *ℤ area *ℤ X.y ≡ (six_moments_of (o ∷ rest)).1 *ℤ X.w
    along_y = ap (λ a. pos 3 *ℤ a *ℤ X.y) (fan_is triangle_of o rest) ∙ h.y

    right_y : (six_moments_of (o ∷ rest)).0 ≡ about_y +ℤ pos 3 *ℤ o.x *ℤ area
    right_y = back _ _ o.x (twice_area_of (o ∷ rest)) (about_y_is o rest)
        ∙ ap (λ a. about_y +ℤ pos 3 *ℤ o.x *ℤ a) (sym (fan_is triangle_of o rest))

    right_x : (six_moments_of (o ∷ rest)).1 ≡ about_x +ℤ pos 3 *ℤ o.y *ℤ area
    right_x = back _ _ o.y (twice_area_of (o ∷ rest)) (about_x_is o rest)
        ∙ ap (λ a. about_x +ℤ pos 3 *ℤ o.y *ℤ a) (sym (fan_is triangle_of o rest))

pub sway_down_is_weight : SwayDownIsWeight
sway_down_is_weight w [] = refl
sway_down_is_weight w (o ∷ rest) = λ i. record {
  fx = level w (sum_of_triangles triangle_of o rest) i;
  fy = down w (sum_of_triangles triangle_of o rest) i;
  m = turning w (sum_of_triangles moment_of_triangle o rest) (sum_of_triangles level_moment_of_triangle o rest) i;
}
  where
    level : (w a : ℤ) → pos 3 *ℤ (w *ℤ a) *ℤ pos 0 ≡ pos 0
    level w a = simp expand (omega (arith, sums))

    down : (w a : ℤ) → pos 3 *ℤ (w *ℤ a) *ℤ negsuc 0 ≡ neg_ℤ (pos 3 *ℤ (w *ℤ a))
    down w a = simp expand (omega (arith, sums))

    turning : (w h k : ℤ) → w *ℤ h *ℤ negsuc 0 -ℤ w *ℤ k *ℤ pos 0 ≡ neg_ℤ (w *ℤ h)
    turning w h k = simp expand (omega (arith, sums))

pub no_sway_is_no_load : NoSwayIsNoLoad
no_sway_is_no_load w [] = refl
no_sway_is_no_load w (o ∷ rest) = λ i. record {
  fx = none w (sum_of_triangles triangle_of o rest) i;
  fy = none w (sum_of_triangles triangle_of o rest) i;
  m = still w (sum_of_triangles moment_of_triangle o rest) (sum_of_triangles level_moment_of_triangle o rest) i;
}
  where
    none : (w a : ℤ) → pos 3 *ℤ (w *ℤ a) *ℤ pos 0 ≡ pos 0
    none w a = simp expand (omega (arith, sums))

    still : (w h k : ℤ) → w *ℤ h *ℤ pos 0 -ℤ w *ℤ k *ℤ pos 0 ≡ pos 0
    still w h k = simp expand (omega (arith, sums))

pub sways_add_up : SwaysAddUp
sways_add_up a b s t w [] = λ i. record { fx = none a b i; fy = none a b i; m = none a b i }
  where
    none : (a b : ℤ) → pos 0 ≡ a *ℤ pos 0 +ℤ b *ℤ pos 0
    none a b = simp expand (omega (arith, sums))
sways_add_up a b s t w (o ∷ rest) = λ i. record {
  fx = force a b s.0 t.0 (pos 3 *ℤ (w *ℤ sum_of_triangles triangle_of o rest)) i;
  fy = force a b s.1 t.1 (pos 3 *ℤ (w *ℤ sum_of_triangles triangle_of o rest)) i;
  m = turning a b s.0 s.1 t.0 t.1 (w *ℤ sum_of_triangles moment_of_triangle o rest)
      (w *ℤ sum_of_triangles level_moment_of_triangle o rest) i;
}
  where
    force : (a b x y n : ℤ) → n *ℤ (a *ℤ x +ℤ b *ℤ y) ≡ a *ℤ (n *ℤ x) +ℤ b *ℤ (n *ℤ y)
    force a b x y n = simp expand (omega (arith, sums))

    turning : (a b x y u v h k : ℤ) → h *ℤ (a *ℤ y +ℤ b *ℤ v) -ℤ k *ℤ (a *ℤ x +ℤ b *ℤ u)
        ≡ a *ℤ (h *ℤ y -ℤ k *ℤ x) +ℤ b *ℤ (h *ℤ v -ℤ k *ℤ u)
    turning a b x y u v h k = simp expand (omega (arith, sums))
