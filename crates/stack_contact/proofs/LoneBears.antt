-- Where two polygons with a lone common point bear.
use Rattle.std.proofs.Common.{arith, inl, inr, ◌⊎◌, ◌↔◌}
use lib.IntN.{ℤ, pos, ◌+ℤ◌, ◌-ℤ◌, ◌*ℤ◌, neg_ℤ, *ℤ_comm}
use mathlib.Core.List.{List}
use lib.ListN.{length}
use mathlib.Core.Path.{◌≡◌, sym, ap, ◌∙◌, subst}
use Prim.Native.Nat.{ℕ, ◌<◌, ◌≤◌}
use Rattle.std.proofs.lemmas.Int.{ints}
use Rattle.stack_algebra.proofs.Integers.{sums, expand}
use Rattle.stack_algebra.proofs.Order.{◌≼◌, ◌≺◌, mul_le_right}
use Rattle.stack_polygon.specs.declared.point.Point.{Point}
use Rattle.stack_polygon.specs.Plane.{Triple, IsAt}
use Rattle.stack_polygon.specs.Corners.{corner_of, end_of}
use Rattle.stack_frame.specs.declared.frame.Frame.{Frame}
use Rattle.stack_overlap.specs.Separation.{IsCommon}
use Rattle.stack_overlap.specs.Forms.{IsBetween, at_corner, line, along, square}
use Rattle.stack_overlap.specs.declared.types.Which.{Which}
use Rattle.stack_overlap.specs.declared.types.Which.TheVariants.{First, Second}
use Rattle.stack_overlap.specs.CommonPoints.{IsCornerOf, IsStrictlyBetween, IsWithinEdge, IsOnOther}
use Rattle.stack_overlap.specs.Ends.{IsExtremeIn}
use Rattle.stack_overlap.proofs.ByForms.{IsConvex, IsOuter, segment-form}
use Rattle.stack_overlap.proofs.Identities.{opposite, value-opposite, at-opposite}
use Rattle.stack_overlap.proofs.Edges.{edge_long, corner_inside}
use Rattle.stack_overlap.proofs.Pieces.{value-at}
use Rattle.stack_overlap.proofs.Ends.{same-at}
use Rattle.stack_contact.specs.OnOutlines.{IsCorner}
use Rattle.stack_contact.specs.Bearings.{IsParallel, IsOnParallelEdge, IsCornerOnEdge, Bears}
use Rattle.stack_contact.proofs.AcrossLines.{IsTangent, both-parallel, forth-is}
use Rattle.stack_contact.proofs.OnCorners.{form-within, corner-at, at-corner, within-no-corner, flat-edge}
use Rattle.stack_contact.proofs.AlongEdge.{sense, parallel-of, on, left-of-edge, right-of-edge}

module _ (P Q : List Point) (convex_p : IsConvex P) (three_p : 3 ≤ length P) (convex_q : IsConvex Q)
    (three_q : 3 ≤ length Q) (i : ℕ) (h : IsOuter P i Q) where
  abbrev a : Point
  a = corner_of P i

  abbrev b : Point
  b = end_of P i

  long : pos 0 ≺ square a b
  long = edge_long P convex_p three_p i h.is_edge

  -- a lone common point
  module _ (F : Point) (points : (X : Triple) → IsCommon P Q X ↔ IsAt X F) where
    lone-end : (X : Triple) → IsCommon P Q X → IsExtremeIn (IsCommon P Q) X
    lone-end X m = record { is_in = m; extreme = λ Y Z y z k. same-at Y Z F ((points Y).0 y) ((points Z).0 z) }

    -- that is a corner of both bodies bears nothing
    pub corner-bears-nothing : IsCornerOf P F → IsCornerOf Q F → (X : Triple) (u : Frame) → ¬ (Bears P Q u X)
    corner-bears-nothing cp cq X u r = let e = (points X).0 r.is_end.is_in in elim r.way [
      | inl s ↦ s.1.1 (same-at X s.0 F e ((points s.0).0 s.1.0))
      | inr s ↦ elim s.corner [
        | inl c ↦ c.of_one (corner-at Q X F e cq)
        | inr c ↦ c.of_one
            (corner-at P X F e cp)
      ]
    ]

    -- the line of the edge, not negative at the corners of Q
    right_of : (j : ℕ) → j < length Q → pos 0 ≼ at_corner (opposite (line a b)) (corner_of Q j)
    right_of j hj = flip (at-opposite (line a b) (corner_of Q j)) (h.apart j hj)
      where
        flip : {z y : ℤ} → y ≡ neg_ℤ z → z ≼ pos 0 → pos 0 ≼ y
        flip e l = omega (arith, sums)

    -- an edge with its ends on the line is parallel to it
    level-edge : (c d : Point) → at_corner (line a b) c ≡ pos 0 → at_corner (line a b) d ≡ pos 0
        → (d.x -ℤ c.x) *ℤ (b.y -ℤ a.y) ≡ (d.y -ℤ c.y) *ℤ (b.x -ℤ a.x)
    level-edge c d p q = go a.x a.y b.x b.y c.x c.y d.x d.y (forth-is (line a b) c d ∙ (λ i. q i -ℤ p i))
      where
        go : (ax ay bx by cx cy dx dy : ℤ) → (ay -ℤ by) *ℤ (dx -ℤ cx) +ℤ (bx -ℤ ax) *ℤ (dy -ℤ cy) ≡ pos 0
            → (dx -ℤ cx) *ℤ (by -ℤ ay) ≡ (dy -ℤ cy) *ℤ (bx -ℤ ax)
        go ax ay bx by cx cy dx dy e = simp expand (omega (arith, sums, simp expand at e))

    edge-parallel : (R : List Point) (convex : IsConvex R) (three : 3 ≤ length R) (X : Triple) (u : Frame)
        → ¬ (IsCorner R X) → IsOnParallelEdge R u X →
        ((k : ℕ) → k < length R → IsBetween (corner_of R k) (end_of R k) X
        → (at_corner (line a b) (corner_of R k) ≡ pos 0) × (at_corner (line a b) (end_of R k) ≡ pos 0))
        → IsParallel u a b
    edge-parallel R convex three X u alone (k, ((hk, n), par)) level =
        let m = (segment-form (corner_of R k) (end_of R k) X).1 n in let z = level k hk m in
        let c = corner_of R k in
        let d = end_of R k in
        both-parallel (d.x -ℤ c.x) (d.y -ℤ c.y) (b.x -ℤ a.x) (b.y -ℤ a.y) u.tx u.ty
        (edge_long R convex three k hk) par (level-edge c d z.0 z.1)

    level_p : (X : Triple) → IsCommon P Q X → ¬ (IsCorner P X) → (k : ℕ) → k < length P
        → IsBetween (corner_of P k) (end_of P k) X
        → (at_corner (line a b) (corner_of P k) ≡ pos 0) × (at_corner (line a b) (end_of P k) ≡ pos 0)
    level_p X m alone k hk w = flat-edge P convex_p three_p k hk X w alone (line a b)
        (λ j hj. corner_inside P convex_p three_p i j h.is_edge hj)
        (on P Q convex_p three_p convex_q three_q i h X m)

    level_q : (X : Triple) → IsCommon P Q X → ¬ (IsCorner Q X) → (k : ℕ) → k < length Q
        → IsBetween (corner_of Q k) (end_of Q k) X
        → (at_corner (line a b) (corner_of Q k) ≡ pos 0) × (at_corner (line a b) (end_of Q k) ≡ pos 0)
    level_q X m alone k hk w = let r = flat-edge Q convex_q three_q k hk X w alone (opposite
        (line a b)) right_of (zero (value-opposite (line a b) X)
        (on P Q convex_p three_p convex_q three_q i h X m)) in
        (back (at-opposite (line a b) (corner_of Q k)) r.0, back (at-opposite (line a b) (end_of Q k)) r.1)
      where
        zero : {z y : ℤ} → y ≡ neg_ℤ z → z ≡ pos 0 → y ≡ pos 0
        zero e l = omega (arith, sums)

        back : {z y : ℤ} → y ≡ neg_ℤ z → y ≡ pos 0 → z ≡ pos 0
        back e l = omega (arith, sums)

    -- a point within an edge, as a triple
    within-between : (c d : Point) (X : Triple) → IsAt X F → IsStrictlyBetween c d F → IsBetween c d X
    within-between c d X e n = let w = form-within c d F n in record {
      on_line = value-at (line c d) F X e ∙ ap (λ z. z *ℤ X.w) w.on_line ∙ none X.w;
      above = subst (λ z. pos 0 *ℤ X.w ≼ z) (sym (value-at (along c d) F X e)) (mul_le_right X.w (pos 0) _
          (positive X.positive) (positive w.after));
      below = subst (λ z. z ≼ square c d *ℤ X.w) (sym (value-at (along c d) F X e)) (mul_le_right X.w _
          (square c d) (positive X.positive) (less w.before));
    }
      where
        none : (w : ℤ) → pos 0 *ℤ w ≡ pos 0
        none w = omega (arith, ints)

        positive : {z : ℤ} → pos 0 ≺ z → pos 0 ≼ z
        positive l = omega (arith, sums)

        less : {x z : ℤ} → x ≺ z → x ≼ z
        less l = omega (arith, sums)

    -- a corner of one body alone, on an edge of the other
    corner-on : (R S : List Point) (convex : IsConvex S) (three : 3 ≤ length S) (X : Triple) (u : Frame)
        → IsAt X F → IsCornerOf R F → (k : ℕ) → IsWithinEdge S k F → IsTangent b a u →
        (¬ (IsCorner S X) → (at_corner (line a b) (corner_of S k) ≡ pos 0)
        × (at_corner (line a b) (end_of S k) ≡ pos 0))
        → IsCornerOnEdge R S u X
    corner-on R S convex three X u e c k w tangent level = let alone = (λ
        (m : IsCorner S X). within-no-corner S convex three k F w (at-corner S X F e m)) in
        let z = level alone in record {
          corner = corner-at R X F e c;
          of_one = alone;
          on_edge = (
            k,
            (
              (
                w.0,
                (segment-form (corner_of S k) (end_of S k) X).0 (within-between (corner_of S k)
                    (end_of S k) X e w.1),
              ),
              both-parallel (b.x -ℤ a.x) (b.y -ℤ a.y) ((end_of S k).x -ℤ (corner_of S k).x) ((end_of S k).y -ℤ
                  (corner_of S k).y) u.tx u.ty long
                  (parallel-of P Q convex_p three_p convex_q three_q i h u tangent) (swap
                  ((end_of S k).x -ℤ (corner_of S k).x) (b.y -ℤ a.y) ((end_of S k).y -ℤ
                  (corner_of S k).y) (b.x -ℤ a.x) (level-edge (corner_of S k)
                  (end_of S k) z.0 z.1)),
            ),
          );
        }
      where
        swap : (p q r s : ℤ) → p *ℤ q ≡ r *ℤ s → s *ℤ r ≡ q *ℤ p
        swap p q r s e = *ℤ_comm s r ∙ sym e ∙ *ℤ_comm p q

    -- that is a corner of one body, within an edge of the other, bears along the separating edge
    pub lone-bears : (w : Which) (k : ℕ) → IsOnOther P Q F w k → (X : Triple) (u : Frame) → Bears P Q u X
        ↔ (IsAt X F × IsTangent b a u)
    lone-bears w k other X u = (there, λ r. back w other r.0 r.1)
      where
        there : Bears P Q u X → IsAt X F × IsTangent b a u
        there r = let m = r.is_end.is_in in let e = (points X).0 m in (
          e,
          sense P Q convex_p three_p convex_q three_q i h X u
              (on P Q convex_p three_p convex_q three_q i h X m) (elim r.way [
                | inl s ↦ absurd (s.1.1 (same-at X s.0 F e ((points s.0).0 s.1.0)))
                | inr s ↦ elim s.corner [
                  | inl c ↦ edge-parallel Q convex_q three_q X u c.of_one c.on_edge (level_q X m c.of_one)
                  | inr c ↦ edge-parallel P convex_p three_p X u c.of_one c.on_edge (level_p X m c.of_one)
                ]
              ]) r.lowest r.earlier_right,
        )

        corner : (w : Which) → IsOnOther P Q F w k → IsAt X F → IsTangent b a u
            → IsCornerOnEdge P Q u X ⊎ IsCornerOnEdge Q P u X
        corner First (c, o) e tangent = inr (corner-on Q P convex_p three_p X u e c k o tangent
            (λ alone. level_p X ((points X).1 e) alone k o.0
            (within-between (corner_of P k) (end_of P k) X e o.1)))
        corner Second (c, o) e tangent = inl (corner-on P Q convex_q three_q X u e c k o tangent
            (λ alone. level_q X ((points X).1 e) alone k o.0
            (within-between (corner_of Q k) (end_of Q k) X e o.1)))

        back : (w : Which) → IsOnOther P Q F w k → IsAt X F → IsTangent b a u → Bears P Q u X
        back w other e tangent = let m = (points X).1 e in record {
          is_end = lone-end X m;
          way = inr (record {
            lone = record { common = m; alone = λ Y y. same-at X Y F e ((points Y).0 y) };
            corner = corner w other e tangent;
          });
          lowest = tangent.lowest;
          later_left = left-of-edge P Q convex_p three_p convex_q three_q i h X u m tangent;
          earlier_right = right-of-edge P Q convex_p three_p convex_q three_q i h X u m tangent;
        }
