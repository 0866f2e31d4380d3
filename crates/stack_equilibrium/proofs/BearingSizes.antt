-- The bearings of a survey are within the limits: their points lie in polygons, and their friction is that of a
-- material or of a joint.
use Rattle.std.proofs.Common.{◌≡◌, refl, sym, subst, ℕ, ◌<◌, ℤ, pos, negsuc, ◌+ℤ◌}
use Rattle.std.proofs.Common.{◌*ℤ◌, List, length, Bool, true, false, arith, int_le}
use Rattle.std.proofs.Common.{if◌then◌else◌, Option, Some, None, IfSome}
use Rattle.std.proofs.lemmas.Int.{ints}
use Rattle.stack_algebra.proofs.Integers.{sums, expand}
use Rattle.stack_algebra.proofs.Order.{◌≼◌, ◌≺◌}
use Rattle.stack_polygon.specs.declared.point.Point.{Point}
use Rattle.stack_polygon.specs.Plane.{Triple, IsAt}
use Rattle.stack_polygon.specs.Corners.{corner_of}
use Rattle.stack_polygon.specs.Limits.{IsNear, IsInRange, IsPolygon}
use Rattle.stack_frame.specs.declared.cone.Coefficient.{Coefficient}
use Rattle.stack_frame.specs.Cones.{IsCoefficient, coefficient, lesser_of, lowest}
use Rattle.stack_frame.proofs.LesserCones.{lesser-first, lesser-second, lowest-is}
use Rattle.stack_model.specs.Structure.{joint_terms, AreTerms, Structure, body_of}
use Rattle.stack_model.proofs.Joined.{terms_between, terms_limits}
use Rattle.stack_overlap.proofs.ByForms.{convex-form, inside-form}
use Rattle.stack_overlap.proofs.Support.{below-inside}
use Rattle.stack_model.specs.Sound.{IsSound}
use Rattle.stack_contact.specs.declared.types.Bearing.{Bearing}
use Rattle.stack_contact.specs.ContactLists.{IsBearing, corners_of, material_friction, joint_or_lesser}
use Rattle.stack_contact.specs.Surveyed.{Surveyed, IsSurvey}
use Rattle.stack_statics.specs.Scene.{IsProper}
use Rattle.stack_equilibrium.specs.SurveyScene.{scene_of, bearing_of}
use Rattle.stack_equilibrium.proofs.SurveyBearings.{bearing_is}

-- a point with whole coordinates
abbrev place_of : Point → Triple
place_of c = record { x = c.x; y = c.y; w = pos 1; positive = omega (arith, ints) }

at_place : (c : Point) → IsAt (place_of c) c
at_place c = record { x = one c.x; y = one c.y }
  where
    one : (x : ℤ) → x ≡ x *ℤ pos 1
    one x = simp expand (omega (arith, sums))

-- a point inside a polygon is in range, since its corners are
inside_near : (P : List Point) → IsPolygon P → (c : Point) →
    ((l m n : ℤ) → ((j : ℕ) → j < length P → (l *ℤ (corner_of P j).x +ℤ m *ℤ (corner_of P j).y +ℤ n) ≼ pos 0) →
    (l *ℤ c.x +ℤ m *ℤ c.y +ℤ n *ℤ pos 1) ≼ pos 0) → IsInRange c
inside_near P polygon c below = record {
  x = record {
    low = low_x c.x c.y (below (negsuc 0) (pos 0) (negsuc 999999)
        (λ j h. corner_low_x (corner_of P j).x (corner_of P j).y (polygon.in_range j h).x));
    high = high_x c.x c.y (below (pos 1) (pos 0) (negsuc 999999)
        (λ j h. corner_high_x (corner_of P j).x (corner_of P j).y (polygon.in_range j h).x));
  };
  y = record {
    low = low_y c.x c.y (below (pos 0) (negsuc 0) (negsuc 999999)
        (λ j h. corner_low_y (corner_of P j).x (corner_of P j).y (polygon.in_range j h).y));
    high = high_y c.x c.y (below (pos 0) (pos 1) (negsuc 999999)
        (λ j h. corner_high_y (corner_of P j).x (corner_of P j).y (polygon.in_range j h).y));
  };
}
  where
    low_x : (x y : ℤ) → (negsuc 0 *ℤ x +ℤ pos 0 *ℤ y +ℤ negsuc 999999 *ℤ pos 1) ≼ pos 0 → negsuc 999999 ≼ x
    low_x x y h = omega (arith, ints)

    high_x : (x y : ℤ) → (pos 1 *ℤ x +ℤ pos 0 *ℤ y +ℤ negsuc 999999 *ℤ pos 1) ≼ pos 0 → x ≼ pos 1000000
    high_x x y h = omega (arith, ints)

    low_y : (x y : ℤ) → (pos 0 *ℤ x +ℤ negsuc 0 *ℤ y +ℤ negsuc 999999 *ℤ pos 1) ≼ pos 0 → negsuc 999999 ≼ y
    low_y x y h = omega (arith, ints)

    high_y : (x y : ℤ) → (pos 0 *ℤ x +ℤ pos 1 *ℤ y +ℤ negsuc 999999 *ℤ pos 1) ≼ pos 0 → y ≼ pos 1000000
    high_y x y h = omega (arith, ints)

    corner_low_x : (x y : ℤ) → IsNear x → (negsuc 0 *ℤ x +ℤ pos 0 *ℤ y +ℤ negsuc 999999) ≼ pos 0
    corner_low_x x y h = omega (arith, ints, h.low)

    corner_high_x : (x y : ℤ) → IsNear x → (pos 1 *ℤ x +ℤ pos 0 *ℤ y +ℤ negsuc 999999) ≼ pos 0
    corner_high_x x y h = omega (arith, ints, h.high)

    corner_low_y : (x y : ℤ) → IsNear y → (pos 0 *ℤ x +ℤ negsuc 0 *ℤ y +ℤ negsuc 999999) ≼ pos 0
    corner_low_y x y h = omega (arith, ints, h.low)

    corner_high_y : (x y : ℤ) → IsNear y → (pos 0 *ℤ x +ℤ pos 1 *ℤ y +ℤ negsuc 999999) ≼ pos 0
    corner_high_y x y h = omega (arith, ints, h.high)

-- the lesser of two coefficients is one
lesser_limits : (a b : Coefficient) → IsCoefficient a → IsCoefficient b → IsCoefficient (lesser_of a b)
lesser_limits a b ha hb = go (int_le (a.p *ℤ b.q) (b.p *ℤ a.q)) refl
  where
    go : (t : Bool) → int_le (a.p *ℤ b.q) (b.p *ℤ a.q) ≡ t → IsCoefficient (if t then lowest a else lowest b)
    go true e = (lesser-first a b ha hb e).in_limits
    go false e = (lesser-second a b ha hb e).in_limits

module _ (s : Structure) (sound : IsSound s) where
  body_limits : (i : ℕ) → i < length s.bodies → IsCoefficient (material_friction s (body_of s i).material)
  body_limits i l = let m = sound.materials (body_of s i).material (sound.bodies i l).has_material in record {
    p_least = m.least_p;
    p_greatest = m.most_p;
    q_least = m.least_q;
    q_greatest = m.most_q;
  }

  first_is_body : (z : Bearing) → IsBearing s z → z.first < length s.bodies
  first_is_body z h = omega (arith, h.pair.in_order, h.pair.is_body)

  friction_limits : (z : Bearing) → IsBearing s z → IsCoefficient z.cone
  friction_limits z h = subst IsCoefficient (sym h.friction)
      (by_terms (joint_terms s.joints a b)
      (terms_limits s.joints a b _ sound.joints _ (terms_between s.joints a b)))
    where
      a : ℕ
      a = (body_of s z.first).material

      b : ℕ
      b = (body_of s z.second).material

      by_terms : (o : Option (ℤ × ℤ)) → IfSome o (λ t. AreTerms t) →
          IsCoefficient (joint_or_lesser o (material_friction s a) (material_friction s b))
      by_terms (Some t) k = (lowest-is (coefficient t.0 t.1)
          (record { p_least = k.least_p; p_greatest = k.most_p; q_least = k.least_q; q_greatest = k.most_q })).in_limits
      by_terms None k = lesser_limits (material_friction s a) (material_friction s b)
          (body_limits z.first (first_is_body z h)) (body_limits z.second h.pair.is_body)

  in_range : (z : Bearing) → IsBearing s z → IsInRange z.at
  in_range z h =
      let P = corners_of s z.first in
      let one = (sound.bodies z.first (first_is_body z h)).polygon in
      let bears = h.bears (place_of z.at) (at_place z.at) in
      inside_near P one z.at (λ l m n below. below-inside P (convex-form P one.convex) one.least (place_of z.at)
      (inside-form P (place_of z.at) bears.is_end.is_in.first) (record { l = l; m = m; n = n }) below)

pub survey_in_range : (s : Surveyed) → IsSound s.structure → IsSurvey s.structure s → (k : ℕ) →
    k < length s.bearings → IsInRange (bearing_of s k).at
survey_in_range s sound survey k l = in_range s.structure sound (bearing_of s k) (bearing_is s survey k l)

pub survey_proper : (s : Surveyed) → IsSound s.structure → IsSurvey s.structure s → IsProper (scene_of s)
survey_proper s sound survey k l =
    let z = bearing_is s survey k l in
    let f = friction_limits s.structure sound (bearing_of s k) z in
    record {
      second_exists = z.pair.is_body;
      first_before_second = z.pair.in_order;
      denominator_positive = positive (bearing_of s k).cone.q f.q_least;
      numerator_nonneg = f.p_least;
    }
  where
    positive : (q : ℤ) → pos 1 ≼ q → pos 0 ≺ q
    positive q h = omega (arith, ints)
