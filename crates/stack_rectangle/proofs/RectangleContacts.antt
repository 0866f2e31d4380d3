-- The contacts of two rectangles by their ranges are those of the two polygons.
use Rattle.std.proofs.Common.{◌≡◌, ℤ, pos, ◌+ℤ◌, List, true, inl, inr, refl, arith, Option, Some, None, IfSome}
use Rattle.std.proofs.Common.{MatchOption, ◌↔◌}
use Rattle.std.proofs.lemmas.Int.{ints}
use Rattle.stack_algebra.specs.IntegerOrder.{◌≼◌, ◌≺◌}
use Rattle.stack_algebra.proofs.Integers.{sums, expand}
use Rattle.stack_polygon.specs.declared.point.Point.{Point}
use Rattle.stack_polygon.specs.Plane.{Triple}
use Rattle.stack_polygon.specs.Limits.{IsPolygon}
use Rattle.stack_frame.specs.declared.frame.Frame.{Frame}
use Rattle.stack_overlap.specs.declared.types.Common.{Common}
use Rattle.stack_overlap.specs.declared.types.Common.TheVariants.{Nothing, Corner, Segment}
use Rattle.stack_overlap.specs.declared.types.Which.TheVariants.{First}
use Rattle.stack_overlap.specs.CommonPoints.{IsCommonOf}
use Rattle.stack_overlap.specs.Separation.{Overlaps}
use Rattle.stack_overlap.proofs.Separated.{apart-first, apart-second}
use Rattle.stack_contact.specs.declared.types.Contacts.{Contacts}
use Rattle.stack_contact.specs.PairContacts.{AreContacts, contacts_by}
use Rattle.stack_contact.specs.Surveyed.{AreSeparated}
use Rattle.stack_rectangle.specs.Rectangles.{IsRectangle, Range, Extent, extent_of, common_of, count_of, least_corner}
use Rattle.stack_rectangle.specs.Rectangles.{greatest, contacts_in, contacts_by_ranges, level_frame, upright_frame}
use Rattle.stack_contact.proofs.OnePair.{are-contacts}
use Rattle.stack_rectangle.proofs.Boxes.{IsBox, boxed}
use Rattle.stack_rectangle.proofs.BoxPoints.{IsBetween, points, corner_at}
use Rattle.stack_rectangle.proofs.BoxSides.{AreDivided, divided_by_x, divided_by_y}
use Rattle.stack_rectangle.proofs.BoxCommons.{commons, level_segment, upright_segment, one_point}
use Rattle.stack_rectangle.proofs.CommonRanges.{of_common, Sized, empty, single, many, sized, no_number, beside, ends}

-- the two overlap, or these are their contacts
pub record Tells (ps qs : List Point) (o : Option Contacts) : Type 0 where
  pub overlaps : MatchOption o (Overlaps ps qs) (λ c. ¬ (Overlaps ps qs))
  pub separation : MatchOption o (¬ (AreSeparated ps qs)) (λ c. AreSeparated ps qs)
  pub contacts : IfSome o (λ c. AreContacts ps qs c)

module _ (ps qs : List Point) (p : IsPolygon ps) (q : IsPolygon qs) (a b : Extent) (one : IsBox ps a)
    (other : IsBox qs b) where
  abbrev x : Range
  x = common_of a.x b.x

  abbrev y : Range
  y = common_of a.y b.y

  overlapping : Overlaps ps qs → Tells ps qs None
  overlapping o = record {
    overlaps = o;
    separation = λ s. elim s [
      | inl h ↦ apart-first ps qs q h.0 h.1 o
      | inr h ↦ apart-second ps qs p h.0 h.1 o
    ];
    contacts = tt;
  }

  meeting : (t : Frame) → AreDivided ps qs t → (v : Common) → IsCommonOf ps qs v
      → Tells ps qs (Some (contacts_by v t))
  meeting t d v m = record {
    overlaps = apart-first ps qs q d.0 d.1.0;
    separation = inl (d.0, d.1.0);
    contacts = are-contacts ps qs p q First d.0 d.1.0 v m t d.1.1 (contacts_by v t) refl;
  }

  by_x : x.high ≼ x.low → AreDivided ps qs (upright_frame a b)
  by_x h = divided_by_x ps qs a b one other (beside a.x b.x one.wide other.wide h)

  by_y : y.high ≼ y.low → AreDivided ps qs (level_frame a b)
  by_y h = divided_by_y ps qs a b one other (beside a.y b.y one.tall other.tall h)

  -- the middle of two ranges with a length
  middle : (r : Range) → r.low ≺ r.high → IsBetween true r (r.low +ℤ r.high) (pos 2)
  middle r h = (simp expand (omega (arith, sums)), simp expand (omega (arith, sums)))

  both_long : x.low ≺ x.high → y.low ≺ y.high → Overlaps ps qs
  both_long h k =
      let X : Triple = record {
        x = x.low +ℤ x.high;
        y = y.low +ℤ y.high;
        w = pos 2;
        positive = omega (arith, ints);
      } in
      let u = of_common true a.x b.x X.x X.w X.positive (middle x h) in
      let v = of_common true a.y b.y X.y X.w X.positive (middle y k) in
      (X, ((points true ps a one X).1 (u.0, v.0), (points true qs b other X).1 (u.1, v.1)))

  not_less : (l h : ℤ) → h ≺ l → h ≼ l
  not_less l h k = omega (arith, sums)

  as_much : (l h : ℤ) → l ≡ h → h ≼ l
  as_much l h k = omega (arith, sums)

  none_by_x : x.high ≺ x.low → Tells ps qs (Some (contacts_by Nothing (upright_frame a b)))
  none_by_x h = meeting _ (by_x (not_less _ _ h)) Nothing
      (λ X m. no_number x X.x X.w X.positive h ((commons ps qs a b one other X).0 m).0)

  none_by_y : y.high ≺ y.low → Tells ps qs (Some (contacts_by Nothing (level_frame a b)))
  none_by_y h = meeting _ (by_y (not_less _ _ h)) Nothing
      (λ X m. no_number y X.y X.w X.positive h ((commons ps qs a b one other X).0 m).1)

  joined : {A B C : Type 0} → A ↔ B → B ↔ C → A ↔ C
  joined f g = (λ a. g.0 (f.0 a), λ c. f.1 (g.1 c))

  on_level : x.low ≺ x.high → y.low ≡ y.high
      → Tells ps qs (Some (contacts_by (Segment (least_corner x y) (greatest x y)) (level_frame a b)))
  on_level h e = meeting _ (by_y (as_much _ _ e)) (Segment (least_corner x y) (greatest x y)) (
    inl h,
    λ X. joined (commons ps qs a b one other X) (level_segment x.low x.high y.low y.high h e X),
  )

  on_upright : x.low ≡ x.high → y.low ≺ y.high
      → Tells ps qs (Some (contacts_by (Segment (least_corner x y) (greatest x y)) (upright_frame a b)))
  on_upright e h = meeting _ (by_x (as_much _ _ e)) (Segment (least_corner x y) (greatest x y)) (
    inr (e, h),
    λ X. joined (commons ps qs a b one other X) (upright_segment x.low x.high y.low y.high e h X),
  )

  at_point : x.low ≡ x.high → y.low ≡ y.high
      → Tells ps qs (Some (contacts_by (Corner (least_corner x y)) (level_frame a b)))
  at_point e f =
      let u = ends a.x b.x one.wide other.wide e in
      let v = ends a.y b.y one.tall other.tall f in
      meeting _ (by_y (as_much _ _ f)) (Corner (least_corner x y)) (
        corner_at ps a one x.low y.low u.0 v.0,
        corner_at qs b other x.low y.low u.1 v.1,
        λ X. joined (commons ps qs a b one other X) (one_point x.low x.high y.low y.high e f X),
      )

  abbrev Told : Type 0
  Told = Tells ps qs (contacts_in (count_of x) (count_of y) (least_corner x y) (greatest x y) a b)

  pub told : Sized x → Sized y → Told
  told (empty e h) s = rw e (none_by_x h)
  told (single e h) (empty f k) = rw (e, f) (none_by_y k)
  told (single e h) (single f k) = rw (e, f) (at_point h k)
  told (single e h) (many f k) = rw (e, f) (on_upright h k)
  told (many e h) (empty f k) = rw (e, f) (none_by_y k)
  told (many e h) (single f k) = rw (e, f) (on_level h k)
  told (many e h) (many f k) = rw (e, f) (overlapping (both_long h k))

pub tells : (ps qs : List Point) → IsRectangle ps → IsRectangle qs → Tells ps qs (contacts_by_ranges ps qs)
tells ps qs h k =
    let a = extent_of ps in
    let b = extent_of qs in
    told ps qs h.polygon k.polygon a b (boxed ps h) (boxed qs k) (sized (common_of a.x b.x))
    (sized (common_of a.y b.y))
