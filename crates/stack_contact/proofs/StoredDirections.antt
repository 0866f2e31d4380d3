-- What 64 bits keep of the direction of an edge.
use Rattle.std.proofs.Common.{arith, w64, to_z, of_z}
use lib.IntN.{ℤ, pos, negsuc, ◌+ℤ◌, ◌-ℤ◌, ◌*ℤ◌}
use mathlib.Core.List.{List}
use lib.ListN.{length}
use mathlib.Core.Path.{◌≡◌, sym, subst, subst₂}
use mathlib.Core.Logic.{◌≢◌, ◌⊎◌, inl, inr}
use Prim.Native.Nat.{ℕ, zero, suc, ◌<◌}
use Rattle.std.proofs.lemmas.Int.{ints}
use Rattle.stack_algebra.proofs.Order.{◌≺◌}
use Rattle.stack_polygon.specs.declared.point.Point.{Point}
use Rattle.stack_polygon.specs.Corners.{corner_of, end_of}
use Rattle.stack_frame.specs.declared.frame.Frame.{Frame}
use Rattle.stack_overlap.specs.Forms.{square}
use Rattle.stack_overlap.proofs.ByForms.{convex-form}
use Rattle.stack_overlap.proofs.Identities.{square-reversed}
use Rattle.stack_overlap.proofs.Edges.{edge_long}
use Rattle.stack_polygon.specs.Limits.{IsInRange, IsPolygon}
use Rattle.stack_polygon.proofs.Stored.{near-stored}
use Rattle.stack_frame.specs.Directions.{IsFrameOf}
use Rattle.stack_contact.specs.PairContacts.{IsFrameFrom}

abbrev stored : ℤ → ℤ
stored z = to_z w64 (of_z w64 z)

-- two points apart differ in x or in y
apart-parts : (x y : ℤ) → pos 0 ≺ (x *ℤ x +ℤ y *ℤ y) → (x ≢ pos 0) ⊎ (y ≢ pos 0)
apart-parts (pos zero) (pos zero) h = absurd (omega (arith, ints, h))
apart-parts (pos zero) (pos (suc n)) h = inr (λ e. omega (arith, ints, e))
apart-parts (pos zero) (negsuc n) h = inr (λ e. omega (arith, ints, e))
apart-parts (pos (suc n)) y h = inl (λ e. omega (arith, ints, e))
apart-parts (negsuc n) y h = inl (λ e. omega (arith, ints, e))

pub stored-apart : (a b : Point) → IsInRange a → IsInRange b → pos 0 ≺ square a b
    → (stored (stored b.x -ℤ stored a.x) ≢ pos 0) ⊎ (stored (stored b.y -ℤ stored a.y) ≢ pos 0)
stored-apart a b ha hb long = subst₂ (λ x y. (x ≢ pos 0) ⊎ (y ≢ pos 0)) (sym (near-stored b.x a.x hb.x ha.x))
    (sym (near-stored b.y a.y hb.y ha.y)) (apart-parts (b.x -ℤ a.x) (b.y -ℤ a.y) long)

pub frame-stored : (a b : Point) (t : Frame) → IsInRange a → IsInRange b
    → IsFrameOf (stored (stored b.x -ℤ stored a.x)) (stored (stored b.y -ℤ stored a.y)) t → IsFrameFrom a b t
frame-stored a b t ha hb d = subst₂ (λ x y. IsFrameOf x y t) (near-stored b.x a.x hb.x ha.x)
    (near-stored b.y a.y hb.y ha.y) d

pub edge-apart : (P : List Point) → IsPolygon P → (i : ℕ) → i < length P → (a b : Point) → a ≡ corner_of P i
    → b ≡ end_of P i
    → (pos 0 ≺ square a b) × (pos 0 ≺ square b a)
edge-apart P p i hi a b ea eb =
    let l = subst₂ (λ x y. pos 0 ≺ square x y) (sym ea) (sym eb) (edge_long P
    (convex-form P p.convex) p.least i hi) in
    (l, subst (λ z. pos 0 ≺ z) (sym (square-reversed a b)) l)
