-- The contacts of one pair, as the code finds them.
use lib.IntN.{◌-ℤ◌}
use mathlib.Core.List.{List}
use mathlib.Core.Path.{◌≡◌, sym, subst}
use mathlib.Core.Logic.{inl, inr}
use Prim.Native.Nat.{ℕ}
use Rattle.std.specs.Prelude.{◌↔◌}
use Rattle.stack_polygon.specs.declared.point.Point.{Point}
use Rattle.stack_polygon.specs.Plane.{Triple}
use Rattle.stack_polygon.specs.Corners.{corner_of, end_of}
use Rattle.stack_frame.specs.declared.frame.Frame.{Frame}
use Rattle.stack_overlap.specs.declared.types.Which.{Which}
use Rattle.stack_overlap.specs.declared.types.Which.TheVariants.{First, Second}
use Rattle.stack_overlap.specs.declared.types.Common.{Common}
use Rattle.stack_overlap.specs.declared.types.Common.TheVariants.{Nothing, Corner, OnEdge, Segment}
use Rattle.stack_overlap.specs.CommonPoints.{IsCommonOf}
use Rattle.stack_overlap.proofs.ByForms.{convex-form, outer-form}
use Rattle.stack_contact.specs.Bearings.{Bears}
use Rattle.stack_contact.proofs.AcrossLines.{IsTangent}
use Rattle.stack_frame.proofs.Senses.{frames-by-parallels}
use Rattle.stack_frame.proofs.FramesOfDirections.{one-frame}
use Rattle.stack_polygon.specs.Limits.{IsPolygon}
use Rattle.stack_overlap.specs.Separation.{IsSeparatedBy}
use Rattle.stack_contact.specs.Surveyed.{AreSeparated}
use Rattle.stack_contact.specs.declared.types.Contacts.{Contacts}
use Rattle.stack_contact.proofs.EarlierEdge.{BearsBy, earlier-edge}
use Rattle.stack_contact.proofs.LaterEdge.{later-edge}
use Rattle.stack_contact.proofs.PairTouches.{touches-by}
use Rattle.stack_contact.specs.PairContacts.{IsFrameFrom, IsTangentBy, IsBearingAt, IsInOrder}
use Rattle.stack_contact.specs.PairContacts.{AreContacts, contacts_by}

-- an edge of one of the two that separates them is one of the first's or one of the second's
pub separated-by : (P Q : List Point) (w : Which) (i : ℕ) → IsSeparatedBy P Q w i → AreSeparated P Q
separated-by P Q First i h = inl (i, h)
separated-by P Q Second i h = inr (i, h)

joined : {A B C : Type 0} → A ↔ B → B ↔ C → A ↔ C
joined f g = (λ a. g.0 (f.0 a), λ c. f.1 (g.1 c))

-- the tangent from a to b, as a frame and as a direction
to-tangent : (a b : Point) (t : Frame) → IsFrameFrom a b t → IsTangent a b t
to-tangent a b t h = let r = (frames-by-parallels (b.x -ℤ a.x) (b.y -ℤ a.y) t).0 h in
    record { lowest = r.0; parallel = r.1.parallel; same_sense = r.1.same_sense }

to-frame : (a b : Point) (t : Frame) → IsTangent a b t → IsFrameFrom a b t
to-frame a b t h = (frames-by-parallels (b.x -ℤ a.x) (b.y -ℤ a.y) t).1
    (h.lowest, record { parallel = h.parallel; same_sense = h.same_sense })

one-tangent : (a b : Point) (t u : Frame) → IsTangent a b t → IsFrameFrom a b u → t ≡ u
one-tangent a b t u h k = one-frame (b.x -ℤ a.x) (b.y -ℤ a.y) t u (to-frame a b t h) k

by-frame : (a b : Point) (u : Frame) → IsFrameFrom a b u → (v : Common) (X : Triple) (t : Frame)
    → BearsBy v a b X t ↔ IsBearingAt (contacts_by v u) t X
by-frame a b u k Nothing X t = (λ h. h, λ h. h)
by-frame a b u k (Corner c) X t = (λ h. h, λ h. h)
by-frame a b u k (OnEdge c e) X t = (
  λ h. (h.0, one-tangent a b t u h.1 k),
  λ h. (h.0, subst (IsTangent a b) (sym h.1) (to-tangent a b u k)),
)
by-frame a b u k (Segment c d) X t = (
  λ h. (h.0, one-tangent a b t u h.1 k),
  λ h. (h.0, subst (IsTangent a b) (sym h.1) (to-tangent a b u k)),
)

-- what the code answers has exactly the bearings of the pair
bearings-by : (P Q : List Point) → IsPolygon P → IsPolygon Q → (w : Which) (i : ℕ) → IsSeparatedBy P Q w i
    → (v : Common)
    → IsCommonOf P Q v → (u : Frame) → IsTangentBy P Q w i u → (t : Frame) (X : Triple)
    → Bears P Q t X ↔ IsBearingAt (contacts_by v u) t X
bearings-by P Q p q First i h v m u k t X = joined
    (earlier-edge P Q (convex-form P p.convex) p.least (convex-form Q q.convex) q.least i
    (outer-form P i Q h) v m X t)
    (by-frame (end_of P i) (corner_of P i) u k v X t)
bearings-by P Q p q Second i h v m u k t X = joined
    (later-edge P Q (convex-form P p.convex) p.least (convex-form Q q.convex) q.least i
    (outer-form Q i P h) v m X t)
    (by-frame (corner_of Q i) (end_of Q i) u k v X t)

in-order : (P Q : List Point) (v : Common) → IsCommonOf P Q v → (u : Frame) → IsInOrder (contacts_by v u)
in-order P Q Nothing m u = tt
in-order P Q (Corner c) m u = tt
in-order P Q (OnEdge c e) m u = tt
in-order P Q (Segment c d) m u = m.0

pub are-contacts : (P Q : List Point) → IsPolygon P → IsPolygon Q → (w : Which) (i : ℕ)
    → IsSeparatedBy P Q w i → (v : Common)
    → IsCommonOf P Q v → (u : Frame) → IsTangentBy P Q w i u → (c : Contacts) → c ≡ contacts_by v u
    → AreContacts P Q c
are-contacts P Q p q w i h v m u k c e = subst (AreContacts P Q) (sym e) (record {
  bearings = λ t X. bearings-by P Q p q w i h v m u k t X;
  touches = λ X. touches-by P Q (convex-form P p.convex) p.least (convex-form Q q.convex) q.least v m u X;
  in_order = in-order P Q v m u;
})
