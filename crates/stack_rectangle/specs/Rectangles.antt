-- The contacts of two rectangles, told by their ranges alone. The rectangles [x0, x1] by [y0, y1] and [u0, u1]
-- by [v0, v1] have in common the x from max(x0, u0) to min(x1, u1) and the y from max(y0, v0) to min(y1, v1).
-- These are an area, on which they overlap; a segment, at whose ends they bear; a point, at which they touch;
-- or nothing.
use Rattle.std.specs.Prelude.{◌≡◌, ℕ, ◌<◌, ◌⊎◌, ℤ, pos, negsuc, List, length, int_lt, int_le, if◌then◌else◌}
use Rattle.std.specs.Prelude.{Option, Some, None, IfSome, MatchOption}
use Rattle.std.specs.Int.{int_min, int_max}
use Rattle.stack_polygon.specs.declared.point.Point.{Point}
use Rattle.stack_polygon.specs.Corners.{corner_of, end_of}
use Rattle.stack_polygon.specs.Limits.{IsPolygon}
use Rattle.stack_frame.specs.declared.frame.Frame.{Frame}
use Rattle.stack_overlap.specs.Separation.{Overlaps}
use Rattle.stack_contact.specs.declared.types.Contacts.{Contacts}
use Rattle.stack_contact.specs.declared.types.Contacts.TheVariants.{Free, Touching, AtTwo}
use Rattle.stack_contact.specs.PairContacts.{AreContacts}
use Rattle.stack_contact.specs.Surveyed.{AreSeparated}

-- a polygon of four corners with level and upright edges only
pub record IsRectangle (ps : List Point) : Type 0 where
  pub polygon : IsPolygon ps
  pub four : length ps ≡ 4
  pub sides : (i : ℕ) → i < length ps
      → ((corner_of ps i).y ≡ (end_of ps i).y) ⊎ ((corner_of ps i).x ≡ (end_of ps i).x)

-- the numbers from low to high: none where high is less, one where the two are the same
pub record Range : Type 0 where
  pub low : ℤ
  pub high : ℤ

-- the ranges of a rectangle
pub record Extent : Type 0 where
  pub x : Range
  pub y : Range

-- the numbers between a and b, in either order
abbrev pub range_between : ℤ → ℤ → Range
range_between a b = record { low = int_min a b; high = int_max a b }

-- a rectangle's corners are listed in order round it, so the first and the third are opposite
abbrev pub extent_of : List Point → Extent
extent_of ps = record {
  x = range_between (corner_of ps 0).x (corner_of ps 2).x;
  y = range_between (corner_of ps 0).y (corner_of ps 2).y;
}

-- the numbers that two ranges have in common
abbrev pub common_of : Range → Range → Range
common_of a b = record { low = int_max a.low b.low; high = int_min a.high b.high }

-- how many numbers a range has
pub data Count : Type 0 where
  Empty : Count
  Single : Count
  Many : Count

-- none where high is less than low, one where they are the same, and else many
abbrev pub count_of : Range → Count
count_of a = if int_lt a.high a.low then Empty else (if int_lt a.low a.high then Many else Single)

-- the tangent of a level joint: to the right where the later rectangle lies above the earlier one, else to the
-- left
abbrev pub level_frame : Extent → Extent → Frame
level_frame a b =
    if int_le a.y.high b.y.low then record { tx = pos 1; ty = pos 0 } else record { tx = negsuc 0; ty = pos 0 }

-- the tangent of an upright joint: downwards where the later rectangle lies right of the earlier one, else upwards
abbrev pub upright_frame : Extent → Extent → Frame
upright_frame a b =
    if int_le a.x.high b.x.low then record { tx = pos 0; ty = negsuc 0 } else record { tx = pos 0; ty = pos 1 }

-- the corner of what two ranges span with the least x and y
abbrev pub least_corner : Range → Range → Point
least_corner x y = record { x = x.low; y = y.low }

-- the corner of what two ranges span with the greatest x and y
abbrev pub greatest : Range → Range → Point
greatest x y = record { x = x.high; y = y.high }

-- the contacts of two rectangles that have so many x and y in common, from the least to the greatest of them;
-- None where they overlap
abbrev pub contacts_in : Count → Count → Point → Point → Extent → Extent → Option Contacts
contacts_in Many Many from to a b = None
contacts_in Many Single from to a b = Some (AtTwo from to (level_frame a b))
contacts_in Single Many from to a b = Some (AtTwo from to (upright_frame a b))
contacts_in Single Single from to a b = Some (Touching from)
contacts_in _ _ from to a b = Some Free

-- the contacts of an earlier and a later rectangle of these ranges
abbrev pub contacts_of : Extent → Extent → Option Contacts
contacts_of a b =
    let x = common_of a.x b.x in
    let y = common_of a.y b.y in
    contacts_in (count_of x) (count_of y) (least_corner x y) (greatest x y) a b

-- the contacts of the rectangles of two lists of corners, the earlier one first
abbrev pub contacts_by_ranges : List Point → List Point → Option Contacts
contacts_by_ranges ps qs = contacts_of (extent_of ps) (extent_of qs)

-- On rectangles this is the definition of all polygons: they overlap exactly if some point is strictly inside both, and
-- then no edge separates them; otherwise these are exactly their bearings and touches, in order.
abbrev pub RangesTellOverlaps : Type 0
RangesTellOverlaps = (ps qs : List Point) → IsRectangle ps → IsRectangle qs
    → MatchOption (contacts_by_ranges ps qs) (Overlaps ps qs) (λ c. ¬ (Overlaps ps qs))

-- if the ranges give an overlap no edge separates the two, and otherwise some edge does
abbrev pub RangesTellSeparation : Type 0
RangesTellSeparation = (ps qs : List Point) → IsRectangle ps → IsRectangle qs
    → MatchOption (contacts_by_ranges ps qs) (¬ (AreSeparated ps qs)) (λ c. AreSeparated ps qs)

-- if the ranges give no overlap, the contacts that they give are exactly those of the two as polygons
abbrev pub RangesTellContacts : Type 0
RangesTellContacts = (ps qs : List Point) → IsRectangle ps → IsRectangle qs
    → IfSome (contacts_by_ranges ps qs) (λ c. AreContacts ps qs c)
