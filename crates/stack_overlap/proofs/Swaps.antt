-- The common points of two polygons in the other order.
use mathlib.Core.List.{List}
use Prim.Native.Nat.{ℕ}
use Rattle.stack_polygon.specs.declared.point.Point.{Point}
use Rattle.stack_polygon.specs.Plane.{Triple}
use Rattle.stack_overlap.specs.declared.types.Which.{Which}
use Rattle.stack_overlap.specs.declared.types.Which.TheVariants.{First, Second}
use Rattle.stack_overlap.specs.declared.types.Common.{Common}
use Rattle.stack_overlap.specs.declared.types.Common.TheVariants.{Nothing, Corner, OnEdge, Segment}
use Rattle.stack_overlap.specs.Separation.{IsCommon}
use Rattle.stack_overlap.specs.CommonPoints.{IsCommonOf, IsOnOther}
use Rattle.stack_overlap.specs.Marks.{swapped, other_one}

common-swapped : (P Q : List Point) (X : Triple) → IsCommon P Q X → IsCommon Q P X
common-swapped P Q X m = record { first = m.second; second = m.first }

on_other-swapped : (P Q : List Point) (c : Point) (w : Which) (k : ℕ) → IsOnOther P Q c w k
    → IsOnOther Q P c (other_one w) k
on_other-swapped P Q c First k o = o
on_other-swapped P Q c Second k o = o

pub of-swapped : (P Q : List Point) (v : Common) → IsCommonOf P Q v → IsCommonOf Q P (swapped v)
of-swapped P Q Nothing m = λ X y. m X (common-swapped Q P X y)
of-swapped P Q (Corner c) m = (
  m.1,
  m.0,
  λ X. (
    λ y. (m.2 X).0
        (common-swapped Q P X y),
    λ y. common-swapped P Q X ((m.2 X).1 y),
  ),
)
of-swapped P Q (OnEdge c e) m = (
  on_other-swapped P Q c e.which e.index m.0,
  λ X.
      (λ y. (m.1 X).0 (common-swapped Q P X y), λ y. common-swapped P Q X ((m.1 X).1 y)),
)
of-swapped P Q (Segment c d) m = (
  m.0,
  λ X. (
    λ y. (m.1 X).0 (common-swapped Q P X y),
    λ y. common-swapped P Q X
        ((m.1 X).1 y),
  ),
)
