-- The points of a rectangle are those of its ranges, those strictly inside it the ones strictly between their
-- ends.
use Rattle.std.proofs.Common.{◌≡◌, ℕ, ◌<◌, ℤ, ◌*ℤ◌, List, length, Bool, ◌⊎◌, inl, inr, sym, subst, subst₂, arith, ◌↔◌}
use Rattle.stack_algebra.specs.IntegerOrder.{◌≼◌}
use Rattle.stack_algebra.proofs.Integers.{sums}
use Rattle.stack_polygon.specs.declared.point.Point.{Point}
use Rattle.stack_polygon.specs.Plane.{Triple}
use Rattle.stack_polygon.specs.Corners.{corner_of, end_of}
use Rattle.stack_overlap.specs.CommonPoints.{IsCornerOf}
use Rattle.stack_rectangle.specs.Rectangles.{Range, Extent}
use Rattle.stack_rectangle.proofs.LevelEdges.{pt, Before, IsLeft, level_kept, level_turned, upright_kept}
use Rattle.stack_rectangle.proofs.LevelEdges.{upright_turned}
use Rattle.stack_rectangle.proofs.Boxes.{HasEdge, IsSide, IsBox, low_left, low_right, high_right, high_left}

-- z over w lies in a range, or strictly between its ends
abbrev pub IsBetween : Bool → Range → ℤ → ℤ → Type 0
IsBetween strict r z w = Before strict (r.low *ℤ w) z × Before strict z (r.high *ℤ w)

abbrev pub IsWithin : Bool → Extent → Triple → Type 0
IsWithin strict e X = IsBetween strict e.x X.x X.w × IsBetween strict e.y X.y X.w

-- left of each edge of the list, or on it where that's allowed
abbrev pub AllLeft : Bool → List Point → Triple → Type 0
AllLeft strict ps X = (i : ℕ) → i < length ps → IsLeft strict (corner_of ps i) (end_of ps i) X

of_edge : (strict : Bool) (ps : List Point) (c d : Point) (X : Triple) → HasEdge ps c d → AllLeft strict ps X
    → IsLeft strict c d X
of_edge strict ps c d X (i, (lt, e, f)) h = subst₂ (λ p q. IsLeft strict p q X) e f (h i lt)

module _ (strict : Bool) (ps : List Point) (e : Extent) (box : IsBox ps e) (X : Triple) where
  between : AllLeft strict ps X → IsWithin strict e X
  between h = (
    (
      (upright_turned strict e.x.low e.y.high e.y.low X box.tall).0 (of_edge strict ps _ _ X box.left h),
      (upright_kept strict e.x.high e.y.low e.y.high X box.tall).0 (of_edge strict ps _ _ X box.right h),
    ),
    (
      (level_kept strict e.x.low e.x.high e.y.low X box.wide).0 (of_edge strict ps _ _ X box.lower h),
      (level_turned strict e.x.high e.x.low e.y.high X box.wide).0 (of_edge strict ps _ _ X box.upper h),
    ),
  )

  of_side : (c d : Point) → IsSide e c d → IsWithin strict e X → IsLeft strict c d X
  of_side c d (inl (inl (p, q))) b = subst₂ (λ c d. IsLeft strict c d X) (sym p) (sym q)
      ((level_kept strict e.x.low e.x.high e.y.low X box.wide).1 b.1.0)
  of_side c d (inl (inr (p, q))) b = subst₂ (λ c d. IsLeft strict c d X) (sym p) (sym q)
      ((upright_kept strict e.x.high e.y.low e.y.high X box.tall).1 b.0.1)
  of_side c d (inr (inl (p, q))) b = subst₂ (λ c d. IsLeft strict c d X) (sym p) (sym q)
      ((level_turned strict e.x.high e.x.low e.y.high X box.wide).1 b.1.1)
  of_side c d (inr (inr (p, q))) b = subst₂ (λ c d. IsLeft strict c d X) (sym p) (sym q)
      ((upright_turned strict e.x.low e.y.high e.y.low X box.tall).1 b.0.0)

  pub points : AllLeft strict ps X ↔ IsWithin strict e X
  points = (between, λ b i lt. of_side (corner_of ps i) (end_of ps i) (box.no_other i lt) b)

-- a number is an end of a range
abbrev pub IsEnd : Range → ℤ → Type 0
IsEnd r z = (z ≡ r.low) ⊎ (z ≡ r.high)

-- the corners of a rectangle are those of its ranges
pub corner_at : (ps : List Point) (e : Extent) → IsBox ps e → (x y : ℤ) → IsEnd e.x x → IsEnd e.y y
    → IsCornerOf ps (pt x y)
corner_at ps e box x y = elim [
  | inl p ↦ elim [ inl q ↦ from box.lower p q | inr q ↦ from box.left p q ]
  | inr p ↦ elim [ inl q ↦ from box.right p q | inr q ↦ from box.upper p q ]
]
  where
    from : {d : Point} {u v : ℤ} → HasEdge ps (pt u v) d → x ≡ u → y ≡ v → IsCornerOf ps (pt x y)
    from (i, (lt, c, _)) p q = (i, (lt, subst (λ o. corner_of ps i ≡ o) (λ k. pt (sym p k) (sym q k)) c))

-- the corners of a rectangle lie within its ranges
pub record IsCornerWithin (e : Extent) (c : Point) : Type 0 where
  pub x_low : e.x.low ≼ c.x
  pub x_high : c.x ≼ e.x.high
  pub y_low : e.y.low ≼ c.y
  pub y_high : c.y ≼ e.y.high

pub corner_within : (ps : List Point) (e : Extent) → IsBox ps e → (k : ℕ) → k < length ps
    → IsCornerWithin e (corner_of ps k)
corner_within ps e box k lt = go (box.no_other k lt)
  where
    at : (c d : Point) → corner_of ps k ≡ c → IsCornerWithin e c → IsCornerWithin e (corner_of ps k)
    at c d p h = subst (IsCornerWithin e) (sym p) h

    same : (z : ℤ) → z ≼ z
    same z = omega (arith, sums)

    wide : e.x.low ≼ e.x.high
    wide = let w = box.wide in omega (arith, sums)

    tall : e.y.low ≼ e.y.high
    tall = let w = box.tall in omega (arith, sums)

    go : IsSide e (corner_of ps k) (end_of ps k) → IsCornerWithin e (corner_of ps k)
    go (inl (inl (p, q))) = at (low_left e) (low_right e) p
        (record { x_low = same e.x.low; x_high = wide; y_low = same e.y.low; y_high = tall })
    go (inl (inr (p, q))) = at (low_right e) (high_right e) p
        (record { x_low = wide; x_high = same e.x.high; y_low = same e.y.low; y_high = tall })
    go (inr (inl (p, q))) = at (high_right e) (high_left e) p
        (record { x_low = wide; x_high = same e.x.high; y_low = tall; y_high = same e.y.high })
    go (inr (inr (p, q))) = at (high_left e) (low_left e) p
        (record { x_low = same e.x.low; x_high = wide; y_low = tall; y_high = same e.y.high })
