-- Where a pair bears that an edge of the later body separates: the same with the bodies in the other order.
use Rattle.std.proofs.Common.{arith, inl, inr, ◌↔◌}
use lib.IntN.{ℤ, pos, ◌+ℤ◌, ◌-ℤ◌, ◌*ℤ◌, neg_ℤ, nat_abs}
use mathlib.Core.List.{List}
use lib.ListN.{length}
use mathlib.Core.Path.{◌≡◌, subst}
use Prim.Native.Nat.{ℕ, ◌≤◌, ◌∣◌}
use Rattle.std.proofs.lemmas.Int.{ints}
use Rattle.stack_algebra.proofs.Integers.{sums, expand}
use Rattle.stack_algebra.proofs.Order.{◌≼◌, ◌≺◌}
use Rattle.stack_polygon.specs.declared.point.Point.{Point}
use Rattle.stack_polygon.specs.Plane.{Triple}
use Rattle.stack_polygon.specs.Corners.{corner_of, end_of}
use Rattle.stack_frame.specs.declared.frame.Frame.{Frame}
use Rattle.stack_frame.specs.Directions.{IsLowest}
use Rattle.stack_overlap.specs.Separation.{IsCommon}
use Rattle.stack_overlap.specs.declared.types.Common.{Common}
use Rattle.stack_overlap.specs.declared.types.Common.TheVariants.{Nothing, Corner, OnEdge, Segment}
use Rattle.stack_overlap.specs.CommonPoints.{IsCommonOf}
use Rattle.stack_overlap.specs.Marks.{swapped}
use Rattle.stack_overlap.proofs.ByForms.{IsConvex, IsOuter}
use Rattle.stack_overlap.proofs.Swaps.{of-swapped}
use Rattle.stack_contact.specs.Bearings.{IsParallel, IsAlong, left_along, IsCornerOnEdge, Bears}
use Rattle.stack_contact.proofs.AcrossLines.{IsTangent}
use Rattle.stack_contact.proofs.EarlierEdge.{BearsBy, earlier-edge}

-- the direction the other way, as it is with the bodies in the other order
abbrev pub opposite_way : Frame → Frame
opposite_way t = record { tx = neg_ℤ t.tx; ty = neg_ℤ t.ty }

common-swapped : (P Q : List Point) (X : Triple) → IsCommon P Q X → IsCommon Q P X
common-swapped P Q X m = record { first = m.second; second = m.first }

abs-neg : (z : ℤ) → nat_abs (neg_ℤ z) ≡ nat_abs z
abs-neg z = omega (arith, ints)

lowest-back : (u : Frame) → IsLowest u.tx u.ty → IsLowest (neg_ℤ u.tx) (neg_ℤ u.ty)
lowest-back u h d e f = h d (subst (λ n. d ∣ n) (abs-neg u.tx) e) (subst (λ n. d ∣ n) (abs-neg u.ty) f)

parallel-back : (c d : Point) (u : Frame) → IsParallel u c d → IsParallel (opposite_way u) c d
parallel-back c d u e = go (d.x -ℤ c.x) (d.y -ℤ c.y) u.tx u.ty e
  where
    go : (x y ux uy : ℤ) → x *ℤ uy ≡ y *ℤ ux → x *ℤ neg_ℤ uy ≡ y *ℤ neg_ℤ ux
    go x y ux uy e = simp expand (omega (arith, sums, e))

step-back : (X Y : Triple) (u : Frame) → IsAlong u X Y → IsAlong (opposite_way u) X Y
step-back X Y u e = go _ _ u.tx u.ty e
  where
    go : (x y ux uy : ℤ) → x *ℤ uy ≡ y *ℤ ux → x *ℤ neg_ℤ uy ≡ y *ℤ neg_ℤ ux
    go x y ux uy e = simp expand (omega (arith, sums, e))

through-back : (X : Triple) (u : Frame) (c : Point) → left_along (opposite_way u) X c ≡ neg_ℤ (left_along u X c)
through-back X u c = go X.x X.y X.w u.tx u.ty c.x c.y
  where
    go : (x y w tx ty cx cy : ℤ) → neg_ℤ tx *ℤ (cy *ℤ w -ℤ y) -ℤ neg_ℤ ty *ℤ (cx *ℤ w -ℤ x) ≡ neg_ℤ (tx *ℤ
        (cy *ℤ w -ℤ y) -ℤ ty *ℤ (cx *ℤ w -ℤ x))
    go x y w tx ty cx cy = simp expand (omega (arith, sums))

corner_on-back : (P Q : List Point) (X : Triple) (u : Frame) → IsCornerOnEdge P Q u X
    → IsCornerOnEdge P Q (opposite_way u) X
corner_on-back P Q X u r = record {
  corner = r.corner;
  of_one = r.of_one;
  on_edge = let (
    k,
    (m, p),
  ) = r.on_edge in (k, (m, parallel-back (corner_of Q k) (end_of Q k) u p));
}

pub bears-swapped : (P Q : List Point) (X : Triple) (u : Frame) → Bears P Q u X → Bears Q P (opposite_way u) X
bears-swapped P Q X u r = record {
  is_end = record {
    is_in = common-swapped P Q X r.is_end.is_in;
    extreme = λ Y Z y z m. r.is_end.extreme Y Z
        (common-swapped Q P Y y) (common-swapped Q P Z z) m;
  };
  way = elim r.way [
    | inl s ↦ inl (s.0, (common-swapped P Q s.0 s.1.0, s.1.1, step-back X s.0 u s.1.2))
    | inr s ↦ inr (record {
      lone = record {
        common = common-swapped P Q X s.lone.common;
        alone = λ Y y. s.lone.alone Y
            (common-swapped Q P Y y);
      };
      corner = elim s.corner [
        | inl c ↦ inr (corner_on-back P Q X u c)
        | inr c ↦ inl
            (corner_on-back Q P X u c)
      ];
    })
  ];
  lowest = lowest-back u r.lowest;
  later_left = λ j hj. flip (through-back X u (corner_of P j)) (r.earlier_right j hj);
  earlier_right = λ j hj. flip' (through-back X u (corner_of Q j)) (r.later_left j hj);
}
  where
    flip : {y z : ℤ} → y ≡ neg_ℤ z → z ≼ pos 0 → pos 0 ≼ y
    flip e l = omega (arith, sums)

    flip' : {y z : ℤ} → y ≡ neg_ℤ z → pos 0 ≼ z → y ≼ pos 0
    flip' e l = omega (arith, sums)

tangent-back : (a b : Point) (u : Frame) → IsTangent a b u → IsTangent b a (opposite_way u)
tangent-back a b u k = record {
  lowest = lowest-back u k.lowest;
  parallel = par a.x a.y b.x b.y u.tx u.ty k.parallel;
  same_sense = sense a.x a.y b.x b.y u.tx u.ty k.same_sense;
}
  where
    par : (ax ay bx by ux uy : ℤ) → (bx -ℤ ax) *ℤ uy ≡ (by -ℤ ay) *ℤ ux
        → (ax -ℤ bx) *ℤ neg_ℤ uy ≡ (ay -ℤ by) *ℤ neg_ℤ ux
    par ax ay bx by ux uy e = simp expand (omega (arith, sums, simp expand at e))

    sense : (ax ay bx by ux uy : ℤ) → pos 0 ≺ ((bx -ℤ ax) *ℤ ux +ℤ (by -ℤ ay) *ℤ uy)
        → pos 0 ≺ ((ax -ℤ bx) *ℤ neg_ℤ ux +ℤ (ay -ℤ by) *ℤ neg_ℤ uy)
    sense ax ay bx by ux uy l = simp expand (omega (arith, sums, simp expand at l))

by-swapped : (v : Common) (a b : Point) (X : Triple) (u : Frame) → BearsBy v a b X u
    → BearsBy (swapped v) b a X (opposite_way u)
by-swapped Nothing a b X u r = r
by-swapped (Corner c) a b X u r = r
by-swapped (OnEdge c e) a b X u r = (r.0, tangent-back a b u r.1)
by-swapped (Segment c d) a b X u r = (r.0, tangent-back a b u r.1)

swapped-twice : (v : Common) (a b : Point) (X : Triple) (u : Frame) → BearsBy (swapped (swapped v)) a b X u
    → BearsBy v a b X u
swapped-twice Nothing a b X u r = r
swapped-twice (Corner c) a b X u r = r
swapped-twice (OnEdge c e) a b X u r = r
swapped-twice (Segment c d) a b X u r = r

neg-neg : (z : ℤ) → neg_ℤ (neg_ℤ z) ≡ z
neg-neg z = omega (arith, sums)

back-twice : (u : Frame) → opposite_way (opposite_way u) ≡ u
back-twice u = λ i. record { tx = neg-neg u.tx i; ty = neg-neg u.ty i }

-- the edge is the later body's
pub later-edge : (P Q : List Point) (convex_p : IsConvex P) (three_p : 3 ≤ length P) (convex_q : IsConvex Q)
    (three_q : 3 ≤ length Q) (i : ℕ) (h : IsOuter Q i P) →
    (v : Common) → IsCommonOf P Q v → (X : Triple) (u : Frame) → Bears P Q u X
    ↔ BearsBy v (corner_of Q i) (end_of Q i) X u
later-edge P Q convex_p three_p convex_q three_q i h v m X u =
    let r = earlier-edge Q P convex_q three_q convex_p three_p i h (swapped v) (of-swapped P Q v m) X
    (opposite_way u) in
    let c = corner_of Q i in
    let d = end_of Q i in (
      λ z. swapped-twice v c d X u (subst (λ t. BearsBy (swapped (swapped v)) c d X t) (back-twice u)
          (by-swapped (swapped v) d c X (opposite_way u) (r.0 (bears-swapped P Q X u z)))),
      λ z. subst (λ t. Bears P Q t X) (back-twice u) (bears-swapped Q P X (opposite_way u) (r.1
          (by-swapped v c d X u z))),
    )
