-- Bodies that have nothing in common: an edge separates them, and they neither bear nor touch.
use Rattle.std.proofs.Common.{◌≡◌, ℕ, ℤ, pos, negsuc, ◌+ℤ◌, ◌-ℤ◌, ◌*ℤ◌, List, length, sym, subst, subst₂, arith}
use Rattle.std.proofs.lemmas.Int.{ints}
use Rattle.stack_algebra.specs.IntegerOrder.{◌≼◌, ◌≺◌}
use Rattle.stack_algebra.proofs.Integers.{sums, expand}
use Rattle.stack_algebra.proofs.Order.{mul_pos}
use Rattle.stack_polygon.specs.declared.point.Point.{Point}
use Rattle.stack_polygon.specs.declared.point.Span.{Span}
use Rattle.stack_polygon.specs.Plane.{Triple}
use Rattle.stack_polygon.specs.Corners.{corner_of, IsInside}
use Rattle.stack_polygon.specs.Limits.{IsPolygon}
use Rattle.stack_polygon.specs.Spans.{IsLeast, IsSpanOf}
use Rattle.stack_overlap.specs.Separation.{IsCommon, Overlaps}
use Rattle.stack_overlap.specs.Boxes.{AreDisjoint}
use Rattle.stack_overlap.proofs.ByForms.{convex-form, inside-form}
use Rattle.stack_overlap.proofs.Support.{below-inside}
use Rattle.stack_overlap.proofs.Separated.{separated}
use Rattle.stack_overlap.proofs.SpanPoints.{inside-span, none-common, none-overlap}
use Rattle.stack_model.specs.Structure.{Structure}
use Rattle.stack_contact.specs.ContactLists.{corners_of}
use Rattle.stack_contact.specs.Surveyed.{AreApart}
use Rattle.stack_contact.specs.NearPairs.{AreFar}

-- a point inside a polygon lies past the least x of its corners
past-least : (Q : List Point) → IsPolygon Q → (z : ℤ) → IsLeast (length Q) (λ j. (corner_of Q j).x) z
    → (X : Triple) → IsInside Q X → z *ℤ X.w ≼ X.x
past-least Q polygon z h X inside = least X.x X.y X.w (below-inside Q (convex-form Q polygon.convex)
    polygon.least X (inside-form Q X inside) (record { l = negsuc 0; m = pos 0; n = z })
    (λ j l. corner (corner_of Q j).x (corner_of Q j).y (h.within j l)))
  where
    corner : (x y : ℤ) → z ≼ x → (negsuc 0 *ℤ x +ℤ pos 0 *ℤ y +ℤ z) ≼ pos 0
    corner x y l = omega (arith, ints)

    least : (x y w : ℤ) → negsuc 0 *ℤ x +ℤ pos 0 *ℤ y +ℤ z *ℤ w ≼ pos 0 → z *ℤ w ≼ x
    least x y w l = omega (arith, ints, l)

crossed : (l h z w : ℤ) → pos 0 ≺ w → h ≺ l → l *ℤ w ≼ z → z ≼ h *ℤ w → ⊥
crossed l h z w p e a b = let m = mul_pos (l -ℤ h) w (omega (arith, sums)) p in
    omega (arith, sums, simp expand at m)

swap : (P Q : List Point) (X : Triple) → IsCommon P Q X → IsCommon Q P X
swap P Q X c = record { first = c.second; second = c.first }

module _ (s : Structure) (i j : ℕ) where
  pub far-back : AreFar s i j → AreFar s j i
  far-back h X c = h X (swap (corners_of s j) (corners_of s i) X c)

  pub far-apart : (P Q : List Point) → P ≡ corners_of s i → Q ≡ corners_of s j → IsPolygon P → IsPolygon Q
      → (a b : Span) → IsSpanOf P a → IsSpanOf Q b → AreDisjoint a b → AreFar s i j
  far-apart P Q e f p q a b h k d = subst₂ (λ P Q. (X : Triple) → ¬ (IsCommon P Q X)) e f
      (none-common P Q p q a b h k d)

  -- one begins beyond the other's end
  pub far-beyond : (P : List Point) → P ≡ corners_of s i → IsPolygon P → (a : Span) → IsSpanOf P a
      → IsPolygon (corners_of s j) → (z : ℤ)
      → IsLeast (length (corners_of s j)) (λ k. (corner_of (corners_of s j) k).x) z → a.x1 ≺ z → AreFar s i j
  far-beyond P e p a h q z k l X c = crossed z a.x1 X.x X.w X.positive l
      (past-least (corners_of s j) q z k X c.second)
      ((inside-span P p a h X (subst (λ P. IsInside P X) (sym e) c.first)).to_x1)

  pub far-separated : IsPolygon (corners_of s i) → IsPolygon (corners_of s j) → AreFar s i j → AreApart s i j
  far-separated p q h = separated (corners_of s i) (corners_of s j) p q
      (none-overlap (corners_of s i) (corners_of s j) h)

  pub far-clear : AreFar s i j → ¬ (Overlaps (corners_of s i) (corners_of s j))
  far-clear h = none-overlap (corners_of s i) (corners_of s j) h
