-- What the sway's load is, in words that don't follow its sums.
use Rattle.std.specs.Prelude.{◌≡◌, ℤ, pos, negsuc, ◌+ℤ◌, ◌-ℤ◌, ◌*ℤ◌, neg_ℤ, List, ◌∷◌, ◌++◌}
use Rattle.stack_polygon.specs.declared.point.Point.{Point}
use Rattle.stack_polygon.specs.Plane.{Triple}
use Rattle.stack_polygon.specs.Corners.{corner_of}
use Rattle.stack_polygon.specs.Area.{twice_area_of, six_moments_of}
use Rattle.stack_statics.specs.declared.wrench.Wrench.{Wrench}
use Rattle.stack_statics.specs.Loads.{wrench_sum, wrench_times, weight_of, moved}
use Rattle.stack_statics.specs.Sway.{sway_load}

-- X is the centroid of an outline: the first moments of its area about both axes are those of the whole area at X
pub record IsCentroid (ps : List Point) (X : Triple) : Type 0 where
  pub x : pos 3 *ℤ twice_area_of ps *ℤ X.x ≡ (six_moments_of ps).0 *ℤ X.w
  pub y : pos 3 *ℤ twice_area_of ps *ℤ X.y ≡ (six_moments_of ps).1 *ℤ X.w

-- v is the force (f, g) at X, about o
pub record IsForceAt (o : Point) (f g : ℤ) (X : Triple) (v : Wrench) : Type 0 where
  pub fx : v.fx ≡ f
  pub fy : v.fy ≡ g
  pub m : v.m *ℤ X.w ≡ (X.x -ℤ o.x *ℤ X.w) *ℤ g -ℤ (X.y -ℤ o.y *ℤ X.w) *ℤ f

-- the sway's load is the size of the weight times the sway, at the centroid
abbrev pub SwayActsAtCentroid : Type 0
SwayActsAtCentroid = (s : ℤ × ℤ) (w : ℤ) (ps : List Point) (X : Triple) → IsCentroid ps X →
    IsForceAt (corner_of ps 0) (neg_ℤ (weight_of w ps).fy *ℤ s.0) (neg_ℤ (weight_of w ps).fy *ℤ s.1) X
    (sway_load s w ps)

-- a sway straight down is the weight
abbrev pub SwayDownIsWeight : Type 0
SwayDownIsWeight = (w : ℤ) (ps : List Point) → sway_load (pos 0, negsuc 0) w ps ≡ weight_of w ps

-- no sway is no load
abbrev pub NoSwayIsNoLoad : Type 0
NoSwayIsNoLoad = (w : ℤ) (ps : List Point) → sway_load (pos 0, pos 0) w ps
    ≡ record { fx = pos 0; fy = pos 0; m = pos 0 }

-- loads of sways add up as the sways do
abbrev pub SwaysAddUp : Type 0
SwaysAddUp = (a b : ℤ) (s t : ℤ × ℤ) (w : ℤ) (ps : List Point) →
    sway_load (a *ℤ s.0 +ℤ b *ℤ t.0, a *ℤ s.1 +ℤ b *ℤ t.1) w ps
    ≡ wrench_sum (wrench_times a (sway_load s w ps)) (wrench_times b (sway_load t w ps))

-- an outline sways the same whichever corner it is told from: for any corners at all, convex or not
abbrev pub AnyCornerSwaysTheSame : Type 0
AnyCornerSwaysTheSame = (s : ℤ × ℤ) (w : ℤ) (o : Point) (xs : List Point) (c : Point) (ys : List Point) →
    moved c o (sway_load s w (c ∷ ys ++ o ∷ xs)) ≡ sway_load s w (o ∷ xs ++ c ∷ ys)
