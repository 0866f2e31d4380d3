-- On which side of an edge a point lies, as 64 bits tell it.
use Rattle.std.proofs.Common.{arith, inl, inr}
use mathlib.Core.Path.{◌≡◌, ap, ◌∙◌, sym, subst}
use mathlib.Core.List.{List}
use Prim.Native.Nat.{ℕ, ◌<◌}
use lib.IntN.{ℤ}
use lib.ListN.{length}
use Rattle.stack_algebra.specs.IntegerOrder.{signum}
use Rattle.stack_algebra.proofs.Search.{next_round, next_round-cases}
use Rattle.stack_polygon.specs.declared.point.Point.{Point}
use Rattle.stack_polygon.specs.Plane.{triangle_of}
use Rattle.stack_polygon.specs.Corners.{corner_of, side_of}
use Rattle.stack_polygon.specs.Sizes.{IsTwiceArea}
use Rattle.stack_polygon.proofs.Stored.{stored, twice-stored}

-- an edge's end is a corner
pub end-below : (n m i k : ℕ) → m ≡ n → k ≡ next_round m i → i < n → k < n
end-below n m i k em ek l = subst (λ z. z < n) (sym (ek ∙ ap (λ m. next_round m i) em)) (elim (next_round-cases n i l) [
  | inl e ↦ omega (arith, e)
  | inr e ↦ omega (arith, e)
])

-- the sign of what is computed for an edge and a point
pub side-sign : (ps : List Point) (m i k : ℕ) (a b c : Point) (turn s : ℤ) → m ≡ length ps → k ≡ next_round m i
    → a ≡ corner_of ps i → b ≡ corner_of ps k → turn ≡ triangle_of a b c → IsTwiceArea turn → s ≡ signum (stored turn)
    → s ≡ signum (side_of ps i c)
side-sign ps m i k a b c turn s em ek ea eb et size es = es ∙ ap signum (twice-stored turn size ∙ et
    ∙ (λ j. triangle_of (ea j) ((eb ∙ ap (corner_of ps) (ek ∙ ap (λ m. next_round m i) em)) j) c))
