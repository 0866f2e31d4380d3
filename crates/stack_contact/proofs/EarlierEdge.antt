-- Where a pair bears that an edge of the earlier body separates.
use Rattle.std.proofs.Common.{arith, ◌↔◌}
use lib.IntN.{ℤ, pos, ◌+ℤ◌, ◌-ℤ◌, ◌*ℤ◌}
use mathlib.Core.List.{List}
use lib.ListN.{length}
use mathlib.Core.Path.{◌≡◌, refl, sym, ap, ◌∙◌}
use mathlib.Core.Logic.{◌⊎◌, inl, inr}
use Prim.Native.Nat.{ℕ, ◌≤◌}
use Rattle.std.proofs.lemmas.Int.{ints}
use Rattle.stack_algebra.proofs.Integers.{sums, expand}
use Rattle.stack_algebra.proofs.Order.{◌≼◌, ◌≺◌, square_nonneg}
use Rattle.stack_polygon.specs.declared.point.Point.{Point}
use Rattle.stack_polygon.specs.Plane.{Triple, IsAt}
use Rattle.stack_polygon.specs.Corners.{corner_of, end_of}
use Rattle.stack_frame.specs.declared.frame.Frame.{Frame}
use Rattle.stack_overlap.specs.Separation.{IsCommon}
use Rattle.stack_overlap.specs.Forms.{IsMark, IsBetween, at_corner, line, along, square}
use Rattle.stack_overlap.specs.declared.types.Common.{Common}
use Rattle.stack_overlap.specs.declared.types.Common.TheVariants.{Nothing, Corner, OnEdge, Segment}
use Rattle.stack_overlap.specs.CommonPoints.{IsBefore, IsCommonOf}
use Rattle.stack_overlap.proofs.ByForms.{IsConvex, IsOuter, shared-form, segment-form}
use Rattle.stack_overlap.proofs.Identities.{place, value-place, line-start, along-start}
use Rattle.stack_overlap.proofs.Support.{either_side}
use Rattle.stack_overlap.proofs.Edges.{edge_long}
use Rattle.stack_overlap.proofs.Pieces.{same-mark, segment-stretch}
use Rattle.stack_overlap.proofs.CommonPoints.{common_on_line}
use Rattle.stack_overlap.proofs.Cases.{between-reversed}
use Rattle.stack_contact.specs.Bearings.{Bears}
use Rattle.stack_contact.proofs.AcrossLines.{IsTangent}
use Rattle.stack_contact.proofs.SegmentBears.{segment-bears}
use Rattle.stack_contact.proofs.LoneBears.{lone-bears, corner-bears-nothing}

-- where and along which tangent a pair with these common points bears, if the direction from a to b has the
-- later body on its left
abbrev pub BearsBy : Common → Point → Point → Triple → Frame → Type 0
BearsBy Nothing a b X t = ⊥
BearsBy (Corner c) a b X t = ⊥
BearsBy (OnEdge c e) a b X t = IsAt X c × IsTangent a b t
BearsBy (Segment c d) a b X t = (IsAt X c ⊎ IsAt X d) × IsTangent a b t

-- the two ends of a segment are on it
pub start-between : (c d : Point) → IsBetween c d (place c)
start-between c d = record {
  on_line = value-place (line c d) c
      ∙ line-start c d;
  above = least (value-place (along c d) c
      ∙ along-start c d);
  below = most (d.x -ℤ c.x) (d.y -ℤ c.y) (value-place (along c d) c
      ∙ along-start c d);
}
  where
    least : {z : ℤ} → z ≡ pos 0 → pos 0 *ℤ pos 1 ≼ z
    least e = omega (arith, ints)

    most : (x y : ℤ) {z : ℤ} → z ≡ pos 0 → z ≼ (x *ℤ x +ℤ y *ℤ y) *ℤ pos 1
    most x y e = let p = square_nonneg x in let q = square_nonneg y in simp expand (omega (arith, sums))

pub end-between : (c d : Point) → IsBetween c d (place d)
end-between c d = between-reversed d c (place d) (start-between d c)

-- the earlier corner isn't the later one
pub before-apart : (c d : Point) → IsBefore c d → c ≡ d → ⊥
before-apart c d b e = elim b [
  | inl l ↦ go (ap (λ (p : Point). p.x) e) l
  | inr m ↦ go (ap (λ
      (p : Point). p.y) e) m.1
]
  where
    go : {x y : ℤ} → x ≡ y → x ≺ y → ⊥
    go e l = omega (arith, sums)

nothing-bears : (P Q : List Point) → ((X : Triple) → ¬ (IsCommon P Q X)) → (X : Triple) (u : Frame)
    → ¬ (Bears P Q u X)
nothing-bears P Q n X u r = n X r.is_end.is_in

module _ (P Q : List Point) (convex_p : IsConvex P) (three_p : 3 ≤ length P) (convex_q : IsConvex Q)
    (three_q : 3 ≤ length Q) (i : ℕ) (h : IsOuter P i Q) where
  abbrev a : Point
  a = corner_of P i

  abbrev b : Point
  b = end_of P i

  -- the edge is the earlier body's
  pub earlier-edge : (v : Common) → IsCommonOf P Q v → (X : Triple) (u : Frame) → Bears P Q u X
      ↔ BearsBy v b a X u
  earlier-edge Nothing m X u = (nothing-bears P Q m X u, λ z. absurd z)
  earlier-edge (Corner c) m X u =
      (corner-bears-nothing P Q convex_p three_p convex_q three_q i h c m.2 m.0 m.1 X u, λ z. absurd z)
  earlier-edge
      (OnEdge c e) m X u = lone-bears P Q convex_p three_p convex_q three_q i h c m.1 e.which e.index m.0 X u
  earlier-edge (Segment c d) m X u = go (either_side (at_corner (along a b) c -ℤ at_corner (along a b) d))
    where
      points : (Y : Triple) → IsCommon P Q Y ↔ IsBetween c d Y
      points Y = let s = segment-form c d Y in (λ y. s.1 ((m.1 Y).0 y), λ y. (m.1 Y).1 (s.0 y))

      on : (e : Point) → IsBetween c d (place e) → at_corner (line a b) e ≡ pos 0
      on e k = sym (value-place (line a b) e) ∙ common_on_line P Q convex_p three_p convex_q three_q i h
          (place e) (shared-form P Q (place e) ((points (place e)).1 k))

      mark : (e : Point) → IsBetween c d (place e) → IsMark a b e (at_corner (along a b) e)
      mark e k = record { on_line = on e k; place = refl }

      first : IsMark a b c (at_corner (along a b) c)
      first = mark c (start-between c d)

      last : IsMark a b d (at_corner (along a b) d)
      last = mark d (end-between c d)

      long : pos 0 ≺ square a b
      long = edge_long P convex_p three_p i h.is_edge

      apart : at_corner (along a b) c ≡ at_corner (along a b) d → ⊥
      apart e = before-apart c d m.0 (same-mark a b long c d (at_corner (along a b) d)
          (record { on_line = first.on_line; place = e }) last)

      less : {x y : ℤ} → x -ℤ y ≼ pos 0 → (x ≡ y → ⊥) → x ≺ y
      less l n = omega (arith, sums)

      more : {x y : ℤ} → pos 0 ≼ x -ℤ y → (x ≡ y → ⊥) → y ≺ x
      more l n = omega (arith, sums)

      swap : {A B C : Type 0} → (A ⊎ B) × C → (B ⊎ A) × C
      swap r = (elim r.0 [ inl x ↦ inr x | inr y ↦ inl y ], r.1)

      go : ((at_corner (along a b) c -ℤ at_corner (along a b) d) ≼ pos 0)
          ⊎ (pos 0 ≼ (at_corner (along a b) c -ℤ at_corner
          (along a b) d)) → Bears P Q u X ↔ ((IsAt X c ⊎ IsAt X d) × IsTangent b a u)
      go (inl l) = let k = less l apart in
          segment-bears P Q convex_p three_p convex_q three_q i h (at_corner (along a b) c) (at_corner
          (along a b) d) c d first last k
          (λ Y. let s = segment-stretch a b long (at_corner (along a b) c)
          (at_corner (along a b) d) c d first last Y k in
          (λ y. s.1 ((points Y).0 y), λ y. (points Y).1 (s.0 y))) X u
      go (inr l) = let k = more l apart in
          let r = segment-bears P Q convex_p three_p convex_q three_q i h (at_corner (along a b) d) (at_corner
          (along a b) c) d c last first k
          (λ Y. let s = segment-stretch a b long (at_corner (along a b) d)
          (at_corner (along a b) c) d c last first Y k in (
            λ y. s.1 (between-reversed c d Y ((points Y).0 y)),
            λ y. (points Y).1 (between-reversed d c Y
                (s.0 y)),
          )) X u in
          (λ z. swap (r.0 z), λ z. r.1 (swap z))
