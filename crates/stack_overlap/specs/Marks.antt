-- Corners on a line with their places along it, as the search for the common points keeps them.
use mathlib.Core.Path.{◌≡◌}
use mathlib.Core.Logic.{◌⊎◌}
use mathlib.Core.List.{List}
use Prim.Native.Nat.{ℕ, ◌<◌}
use lib.IntN.{ℤ, pos}
use Rattle.stack_algebra.specs.IntegerOrder.{◌≼◌}
use Rattle.stack_polygon.specs.declared.point.Point.{Point}
use Rattle.stack_polygon.specs.Corners.{corner_of}
use Rattle.stack_overlap.specs.declared.types.Which.{Which}
use Rattle.stack_overlap.specs.declared.types.Which.TheVariants.{First, Second}
use Rattle.stack_overlap.specs.declared.types.Common.{Common}
use Rattle.stack_overlap.specs.declared.types.Common.TheVariants.{Nothing, Corner, OnEdge, Segment}
use Rattle.stack_overlap.specs.declared.marks.Mark.{Mark}
use Rattle.stack_overlap.specs.declared.marks.Stretch.{Stretch}
use Rattle.stack_overlap.specs.Forms.{IsMark, at_corner, line, along, square}
use Rattle.stack_overlap.specs.CommonPoints.{IsCornerOf}

-- a corner on the line from a to b, at its place
abbrev pub IsMarked : Point → Point → Mark → Type 0
IsMarked a b m = IsMark a b m.at m.place

-- the first and the last, of the corners of Q below n, on the line from a to b
pub record IsStretch (a b : Point) (Q : List Point) (n : ℕ) (r : Stretch) : Type 0 where
  pub low : IsMarked a b r.low
  pub high : IsMarked a b r.high
  pub low_corner : IsCornerOf Q r.low.at
  pub high_corner : IsCornerOf Q r.high.at
  pub bounds : (j : ℕ) → j < n → at_corner (line a b) (corner_of Q j) ≡ pos 0
      → (r.low.place ≼ at_corner (along a b) (corner_of Q j)) × (at_corner (along a b) (corner_of Q j) ≼ r.high.place)

-- no corner below n is on the line from a to b
abbrev pub NoneOnLine : Point → Point → List Point → ℕ → Type 0
NoneOnLine a b Q n = (j : ℕ) → j < n → ¬ (at_corner (line a b) (corner_of Q j) ≡ pos 0)

-- m is one of a and b, and no later than either
pub record IsLower (a b m : Mark) : Type 0 where
  pub one : (m ≡ a) ⊎ (m ≡ b)
  pub first : m.place ≼ a.place
  pub second : m.place ≼ b.place

-- m is one of a and b, and no earlier than either
pub record IsHigher (a b m : Mark) : Type 0 where
  pub one : (m ≡ a) ⊎ (m ≡ b)
  pub first : a.place ≼ m.place
  pub second : b.place ≼ m.place

-- s is r with one more mark
pub record IsWider (r : Stretch) (m : Mark) (s : Stretch) : Type 0 where
  pub low : IsLower r.low m s.low
  pub high : IsHigher r.high m s.high

-- the later of two beginnings and the earlier of two ends
pub record IsCut (N lo hi f t : ℤ) : Type 0 where
  pub from_low : lo ≼ f
  pub from_start : pos 0 ≼ f
  pub to_high : t ≼ hi
  pub to_end : t ≼ N
  pub from_one : (f ≡ lo) ⊎ (f ≡ pos 0)
  pub to_one : (t ≡ hi) ⊎ (t ≡ N)

-- s is the part of the reach r that lies between a and b
pub record IsClipped (a b : Point) (r s : Stretch) : Type 0 where
  pub cut : IsCut (square a b) r.low.place r.high.place s.low.place s.high.place
  pub from : IsMarked a b s.low
  pub to : IsMarked a b s.high

-- the other one of two polygons
abbrev pub other_one : Which → Which
other_one First = Second
other_one Second = First

-- what two polygons have in common, as it is told when the second one comes first
abbrev pub swapped : Common → Common
swapped Nothing = Nothing
swapped (Corner c) = Corner c
swapped (OnEdge c e) = OnEdge c (record { which = other_one e.which; index = e.index })
swapped (Segment c d) = Segment c d
