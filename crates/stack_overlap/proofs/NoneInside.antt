-- Two outlines that an edge separates have no point strictly inside both.
use native.Mathlib.Omega.{arith}
use Prim.Native.Nat.{ℕ, ◌≤◌}
use mathlib.Core.Path.{◌≡◌}
use lib.IntN.{ℤ, pos}
use Rattle.stack_algebra.proofs.Integers.{sums}
use Rattle.stack_algebra.proofs.Order.{◌≼◌, ◌≺◌}
use mathlib.Core.List.{List}
use lib.ListN.{length}
use Rattle.stack_polygon.specs.declared.point.Point.{Point}
use Rattle.stack_overlap.specs.Forms.{edge}
use Rattle.stack_overlap.proofs.ByForms.{IsConvex, Meets, IsOuter}
use Rattle.stack_overlap.proofs.Support.{support}

pub apart : (P Q : List Point) → IsConvex Q → 3 ≤ length Q → (i : ℕ) → IsOuter P i Q → ¬ (Meets P Q)
apart P Q convex three i h (X, (p, q)) = both (p i h.is_edge)
    (support Q convex three X (λ k hk. weak (q k hk)) (edge P i) (edge P i) h.apart (λ j hj e. none e)
    (weak (p i h.is_edge)))
  where
    weak : {z : ℤ} → pos 0 ≺ z → pos 0 ≼ z
    weak l = omega (arith, sums)

    none : {z : ℤ} → z ≡ pos 0 → z ≼ pos 0
    none e = omega (arith, sums)

    both : {z : ℤ} → pos 0 ≺ z → z ≼ pos 0 → ⊥
    both l m = omega (arith, sums)
