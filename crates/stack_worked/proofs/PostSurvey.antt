-- The survey of the drawn post: the ground and the post are rectangles, so their ranges tell their contacts.
use Rattle.std.proofs.Common.{arith, Some, slice_get, true, ◌&&◌, int_le}
use mathlib.Core.Path.{◌≡◌, refl, sym, subst}
use mathlib.Core.Logic.{inl, inr, ◌⊎◌}
use Prim.Native.Nat.{ℕ, zero, suc, ◌<◌}
use lib.IntN.{ℤ, pos, negsuc}
use Rattle.std.proofs.lemmas.Int.{ints}
use Rattle.stack_algebra.proofs.Conjunctions.{both_true}
use Rattle.std.proofs.lemmas.Option.{same_Some, slice_get_within}
use Rattle.stack_algebra.specs.Gcd.{gcd}
use Rattle.stack_polygon.specs.Plane.{Triple, IsAt}
use Rattle.stack_polygon.specs.Outlines.{is_convex}
use Rattle.stack_polygon.proofs.Tested.{convex_from}
use Rattle.stack_polygon.specs.Limits.{IsNear}
use Rattle.stack_frame.specs.declared.frame.Frame.{Frame}
use Rattle.stack_overlap.specs.Separation.{Overlaps}
use Rattle.stack_contact.specs.declared.types.Bearing.{Bearing}
use Rattle.stack_contact.specs.declared.types.Touch.{Touch}
use Rattle.stack_contact.specs.declared.types.Contacts.{Contacts}
use Rattle.stack_contact.specs.declared.types.Contacts.TheVariants.{AtTwo}
use Rattle.stack_contact.specs.Bearings.{Bears, Touches}
use Rattle.stack_contact.specs.PairContacts.{AreContacts}
use Rattle.stack_contact.specs.ContactLists.{corners_of, IsPair, ComesBefore, IsBearing, IsBearingOf, AreBearings}
use Rattle.stack_contact.specs.ContactLists.{friction_between, IsTouchOf, AreTouches}
use Rattle.stack_contact.specs.Surveyed.{AreApart}
use Rattle.stack_rectangle.specs.Rectangles.{IsRectangle, RangesTellOverlaps, RangesTellSeparation, RangesTellContacts}
use Rattle.stack_worked.specs.Pieces.{at_point, upright}
use Rattle.stack_worked.specs.Scenes.{ground_corners, post_corners}
use Rattle.stack_worked.specs.SurveyedPost.{drawn_post, level_bearing, surveyed_post, PostIsSurveyed}
use Rattle.stack_worked.proofs.ClosedFacts.{below_four}

near : (z : ℤ) → int_le (negsuc 999999) z && int_le z (pos 1000000) ≡ true → IsNear z
near z h = let e = both_true (int_le (negsuc 999999) z) (int_le z (pos 1000000)) h in
    record { low = grind (arith, ints); high = grind (arith, ints) }

-- an upright rectangle whose sides are in range and whose convexity computes
rectangle : {x0 x1 y0 y1 : ℤ} → IsNear x0 → IsNear x1 → IsNear y0 → IsNear y1
    → is_convex (upright x0 x1 y0 y1) ≡ true → IsRectangle (upright x0 x1 y0 y1)
rectangle {x0} {x1} {y0} {y1} a b c d h = record {
  polygon = record {
    least = omega arith;
    most = omega arith;
    in_range = below_four _ (record { x = a; y = c }) (record { x = b; y = c }) (record { x = b; y = d })
        (record { x = a; y = d });
    convex = convex_from (upright x0 x1 y0 y1) h;
  };
  four = refl;
  sides = below_four _ (inl refl) (inr refl) (inl refl) (inr refl);
}

ground_is_rectangle : IsRectangle ground_corners
ground_is_rectangle = rectangle (near _ refl) (near _ refl) (near _ refl) (near _ refl) refl

post_is_rectangle : IsRectangle post_corners
post_is_rectangle = rectangle (near _ refl) (near _ refl) (near _ refl) (near _ refl) refl

-- the ground and the post are the only pair
pair : IsPair drawn_post 0 1
pair = record { in_order = omega arith; is_body = omega arith; not_both_fixed = refl }

only_pair : (P : ℕ → ℕ → Type 0) → P 0 1 → (i j : ℕ) → IsPair drawn_post i j → P i j
only_pair P h zero zero p = absurd (omega (arith, p.in_order))
only_pair P h zero (suc zero) p = h
only_pair P h zero (suc (suc j)) p = absurd (omega (arith, p.is_body))
only_pair P h (suc i) zero p = absurd (omega (arith, p.in_order))
only_pair P h (suc i) (suc j) p = absurd (omega (arith, p.in_order, p.is_body))

-- the two ends of the post's foot
abbrev left : Bearing
left = level_bearing (at_point (pos 0) (pos 0))

abbrev right : Bearing
right = level_bearing (at_point (pos 2) (pos 0))

abbrev foot : Contacts
foot = AtTwo left.at right.at left.frame

abbrev Bear : Frame → Triple → ℕ → ℕ → Type 0
Bear t X i j = Bears (corners_of drawn_post i) (corners_of drawn_post j) t X

abbrev Touch_at : Triple → ℕ → ℕ → Type 0
Touch_at X i j = Touches (corners_of drawn_post i) (corners_of drawn_post j) X

abbrev Found : Frame → Triple → ℕ → ℕ → Type 0
Found t X i j =
    (k : ℕ) × (z : Bearing) × ((slice_get surveyed_post.bearings k ≡ Some z) × IsBearingOf i j t X z)

-- one material with itself, whose coefficient is in lowest terms
same_friction : left.cone ≡ friction_between drawn_post 0 1
unfolding gcd
same_friction = refl

module _ (contacts : AreContacts ground_corners post_corners foot) where
  each : (k : ℕ) (z : Bearing) → slice_get surveyed_post.bearings k ≡ Some z → IsBearing drawn_post z
  each zero z e = subst (IsBearing drawn_post) (same_Some _ _ e) (record {
    pair = pair;
    bears = λ X a. (contacts.bearings left.frame X).1 (inl a, refl);
    friction = same_friction;
  })
  each (suc zero) z e = subst (IsBearing drawn_post) (same_Some _ _ e) (record {
    pair = pair;
    bears = λ X a. (contacts.bearings left.frame X).1 (inr a, refl);
    friction = same_friction;
  })
  each (suc (suc k)) z e = absurd (omega (arith, slice_get_within surveyed_post.bearings (suc (suc k)) z e))

  found : (t : Frame) (X : Triple) → (IsAt X left.at ⊎ IsAt X right.at) × (t ≡ left.frame) → Found t X 0 1
  found t X (inl a, e) = (0, left, (refl, record { first = refl; second = refl; along = sym e; at = a }))
  found t X (inr a, e) = (1, right, (refl, record { first = refl; second = refl; along = sym e; at = a }))

  all_bearings : AreBearings drawn_post surveyed_post.bearings
  all_bearings = record {
    each = each;
    all = λ i j t X p. only_pair (λ i j. Bear t X i j → Found t X i j)
        (λ b. found t X ((contacts.bearings t X).0 b)) i j p;
    in_order = in_order;
  } where
    in_order : (k l : ℕ) (y z : Bearing) → k < l → slice_get surveyed_post.bearings k ≡ Some y →
        slice_get surveyed_post.bearings l ≡ Some z → ComesBefore y.first y.second y.at z.first z.second z.at
    in_order zero (suc zero) y z h a b =
        subst (λ (y : Bearing). ComesBefore y.first y.second y.at z.first z.second z.at) (same_Some _ _ a)
        (subst (λ (z : Bearing). ComesBefore 0 1 left.at z.first z.second z.at) (same_Some _ _ b)
        (inr (refl, refl, inl (omega (arith, ints)))))
    in_order zero zero y z h a b = absurd (omega (arith, h))
    in_order zero (suc (suc l)) y z h a b =
        absurd (omega (arith, slice_get_within surveyed_post.bearings (suc (suc l)) z b))
    in_order (suc k) l y z h a b = absurd (omega (arith, h, slice_get_within surveyed_post.bearings l z b))

  no_touches : AreTouches drawn_post surveyed_post.touches
  no_touches = record {
    each = λ k z e. absurd (omega (arith, slice_get_within surveyed_post.touches k z e));
    all = λ i j X p. only_pair (λ i j. Touch_at X i j → (k : ℕ) × (z : Touch)
        × ((slice_get surveyed_post.touches k ≡ Some z) × IsTouchOf i j X z))
        (λ t. absurd ((contacts.touches X).0 t)) i j p;
    in_order = λ k l y z h a b. absurd (omega (arith, slice_get_within surveyed_post.touches l z b));
  }

pub post_is_surveyed : RangesTellOverlaps → RangesTellSeparation → RangesTellContacts → PostIsSurveyed
post_is_surveyed overlaps separation contacts = record {
  structure = refl;
  apart = only_pair (AreApart drawn_post)
      (separation ground_corners post_corners ground_is_rectangle post_is_rectangle);
  clear = only_pair (λ i j. ¬ (Overlaps (corners_of drawn_post i) (corners_of drawn_post j)))
      (overlaps ground_corners post_corners ground_is_rectangle post_is_rectangle);
  bearings = all_bearings (contacts ground_corners post_corners ground_is_rectangle post_is_rectangle);
  few = omega arith;
  touches = no_touches (contacts ground_corners post_corners ground_is_rectangle post_is_rectangle);
}
