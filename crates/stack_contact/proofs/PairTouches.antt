-- Where a pair touches.
use Rattle.std.proofs.Common.{◌↔◌}
use lib.IntN.{ℤ, pos, ◌*ℤ◌, *ℤ_comm}
use mathlib.Core.List.{List}
use lib.ListN.{length}
use mathlib.Core.Path.{◌≡◌, sym, ◌∙◌}
use Prim.Native.Nat.{ℕ, ◌≤◌}
use Rattle.stack_algebra.proofs.Order.{◌≺◌}
use Rattle.stack_polygon.specs.declared.point.Point.{Point}
use Rattle.stack_polygon.specs.Plane.{Triple, IsAt}
use Rattle.stack_frame.specs.declared.frame.Frame.{Frame}
use Rattle.stack_overlap.specs.Separation.{IsCommon}
use Rattle.stack_overlap.specs.declared.types.Which.{Which}
use Rattle.stack_overlap.specs.declared.types.Which.TheVariants.{First, Second}
use Rattle.stack_overlap.specs.declared.types.Common.{Common}
use Rattle.stack_overlap.specs.declared.types.Common.TheVariants.{Nothing, Corner, OnEdge, Segment}
use Rattle.stack_overlap.specs.CommonPoints.{IsCornerOf, IsOnOther, IsBefore, IsCommonOf}
use Rattle.stack_overlap.proofs.ByForms.{IsConvex, segment-form}
use Rattle.stack_overlap.proofs.Identities.{place}
use Rattle.stack_algebra.proofs.CrossProducts.{cancel}
use Rattle.stack_overlap.proofs.Ends.{same-at}
use Rattle.stack_contact.specs.Bearings.{Touches}
use Rattle.stack_contact.proofs.OnCorners.{corner-at, at-corner, within-no-corner}
use Rattle.stack_contact.proofs.SegmentBears.{same-corner}
use Rattle.stack_contact.proofs.EarlierEdge.{before-apart, start-between, end-between}
use Rattle.stack_contact.specs.PairContacts.{IsTouchAt, contacts_by}

nothing-touches : (P Q : List Point) → ((X : Triple) → ¬ (IsCommon P Q X)) → (X : Triple) → ¬ (Touches P Q X)
nothing-touches P Q n X r = n X r.lone.common

-- a point at two corners, of which one is before the other
at-two : (X : Triple) (c d : Point) → IsBefore c d → IsAt X c → IsAt X d → ⊥
at-two X c d b h k = before-apart c d b
    (λ i. record { x = one X.w X.positive h.x k.x i; y = one X.w X.positive h.y k.y i })
  where
    one : {x c d : ℤ} (w : ℤ) → pos 0 ≺ w → x ≡ c *ℤ w → x ≡ d *ℤ w → c ≡ d
    one {c = c} {d = d} w p e f = cancel w c d p (*ℤ_comm w c ∙ sym e ∙ f ∙ *ℤ_comm d w)

-- a lone point within an edge is no corner of that polygon
on-other : (P Q : List Point) (convex_p : IsConvex P) (three_p : 3 ≤ length P) (convex_q : IsConvex Q)
    (three_q : 3 ≤ length Q)
    (c : Point) (w : Which) (k : ℕ) → IsOnOther P Q c w k → IsCornerOf P c → IsCornerOf Q c → ⊥
on-other P Q convex_p three_p convex_q three_q c First k o m n = within-no-corner P convex_p three_p k c o.1 m
on-other P Q convex_p three_p convex_q three_q c Second k o m n = within-no-corner Q convex_q three_q k c o.1 n

-- what the code answers has exactly the touches of the pair
pub touches-by : (P Q : List Point) (convex_p : IsConvex P) (three_p : 3 ≤ length P) (convex_q : IsConvex Q)
    (three_q : 3 ≤ length Q)
    (v : Common) → IsCommonOf P Q v → (u : Frame) (X : Triple) → Touches P Q X ↔ IsTouchAt (contacts_by v u) X
touches-by P Q cp tp cq tq Nothing m u X = (nothing-touches P Q m X, λ z. absurd z)
touches-by P Q cp tp cq tq (Corner c) m u X = (
  λ r. (m.2 X).0 r.lone.common,
  λ e. record {
    lone = record { common = (m.2 X).1 e; alone = λ Y y. same-at X Y c e ((m.2 Y).0 y) };
    first = corner-at P X c e m.0;
    second = corner-at Q X c e m.1;
  },
)
touches-by P Q cp tp cq tq (OnEdge c e) m u X = (
  λ r. let h = (m.1 X).0 r.lone.common in
      on-other P Q cp tp cq tq c e.which e.index m.0 (at-corner P X c h r.first) (at-corner Q X c h r.second),
  λ z. absurd z,
)
touches-by P Q cp tp cq tq (Segment c d) m u X = (
  λ r. at-two X c d m.0
      (same-corner X c (r.lone.alone (place c) ((m.1 (place c)).1 ((segment-form c d (place c)).0
      (start-between c d)))))
      (same-corner X d (r.lone.alone (place d) ((m.1 (place d)).1 ((segment-form c d (place d)).0
      (end-between c d))))),
  λ z. absurd z,
)
