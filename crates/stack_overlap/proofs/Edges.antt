-- The edges of a convex outline.
use mathlib.Core.Path.{◌≡◌, sym, ap, ◌∙◌, subst}
use mathlib.Core.Logic.{◌⊎◌, inl, inr}
use Prim.Native.Nat.{ℕ, zero, suc, ◌<◌, ◌≤◌}
use native.Mathlib.Omega.{arith}
use native.Mathlib.Decide.{ℕ_discrete}
use lib.IntN.{ℤ, pos, negsuc, ◌+ℤ◌, ◌-ℤ◌, ◌*ℤ◌, neg_ℤ}
use Rattle.stack_algebra.proofs.Integers.{sums, expand}
use Rattle.stack_algebra.proofs.Order.{◌≼◌, ◌≺◌, square_nonneg}
use Rattle.std.proofs.lemmas.Int.{ints}
use Rattle.stack_polygon.specs.declared.point.Point.{Point}
use mathlib.Core.List.{List}
use lib.ListN.{length}
use Rattle.stack_algebra.specs.Search.{next_round}
use Rattle.stack_polygon.specs.Corners.{corner_of}
use Rattle.stack_overlap.specs.Forms.{IsMark, LinearForm, IsBetween, value, at_corner, along, square, edge}
use Rattle.stack_polygon.specs.Plane.{Triple}
use Rattle.stack_overlap.proofs.ByForms.{IsConvex, IsInside}
use Rattle.stack_overlap.proofs.Identities.{less, opposite, value-less, at-less, value-opposite, at-opposite}
use Rattle.stack_overlap.proofs.Identities.{line-start, line-end, along-start, along-end}
use Rattle.stack_overlap.proofs.Stretches.{between}
use Rattle.stack_overlap.proofs.Support.{support, next_below, next-inner, next-last}

module _ (P : List Point) (convex : IsConvex P) (three : 3 ≤ length P) where
  abbrev start : ℕ → Point
  start i = corner_of P i

  abbrev end : ℕ → Point
  end i = corner_of P (next_round (length P) i)

  -- a corner is an end of the edge, or strictly left of it
  pub corner-cases : (i j : ℕ) → i < length P → j < length P
      → (j ≡ i) ⊎ ((j ≡ next_round (length P) i) ⊎ (pos 0 ≺ at_corner (edge P i) (corner_of P j)))
  corner-cases i j hi hj = go (ℕ_discrete j i) (ℕ_discrete j (next_round (length P) i))
    where
      go : Dec (j ≡ i) → Dec (j ≡ next_round (length P) i)
          → (j ≡ i) ⊎ ((j ≡ next_round (length P) i) ⊎ (pos 0 ≺ at_corner (edge P i) (corner_of P j)))
      go (yes e) d = inl e
      go (no f) (yes e) = inr (inl e)
      go (no f) (no g) = inr (inr (convex i j hi hj f g))

  -- each corner is inside
  pub corner_inside : (i j : ℕ) → i < length P → j < length P → pos 0 ≼ at_corner (edge P i) (corner_of P j)
  corner_inside i j hi hj = elim (corner-cases i j hi hj) [
    | inl e ↦ subst (λ z. pos 0 ≼ z) (sym (ap (λ k. at_corner (edge P i) (corner_of P k)) e
        ∙ line-start (start i) (end i))) (omega (arith, ints))
    | inr s ↦ elim s [
      | inl e ↦ subst (λ z. pos 0 ≼ z) (sym (ap (λ k. at_corner (edge P i) (corner_of P k)) e
          ∙ line-end (start i) (end i))) (omega (arith, ints))
      | inr l ↦ positive _ l
    ]
  ]
    where
      positive : (z : ℤ) → pos 0 ≺ z → pos 0 ≼ z
      positive z l = omega (arith, sums)

  -- a corner on an edge's line is one of its ends
  pub on-edge : (i j : ℕ) → i < length P → j < length P → at_corner (edge P i) (corner_of P j) ≼ pos 0
      → (j ≡ i) ⊎ (j ≡ next_round (length P) i)
  on-edge i j hi hj h = elim (corner-cases i j hi hj) [
    | inl e ↦ inl e
    | inr s ↦ elim s [ inl e ↦ inr e | inr l ↦ absurd (both _ l h) ]
  ]
    where
      both : (z : ℤ) → pos 0 ≺ z → z ≼ pos 0 → ⊥
      both z l m = omega (arith, sums)

  -- some corner is strictly left of an edge
  pub third : (i : ℕ) → i < length P → (j : ℕ) × ((j < length P) × (pos 0 ≺ at_corner (edge P i) (corner_of P j)))
  third i hi = go (ℕ_discrete (suc i) (length P)) (ℕ_discrete (suc (suc i)) (length P))
    where
      go : Dec (suc i ≡ length P) → Dec (suc (suc i) ≡ length P)
          → (j : ℕ) × ((j < length P) × (pos 0 ≺ at_corner (edge P i) (corner_of P j)))
      go (yes e) d = (
        1,
        (
          omega arith,
          convex i 1 hi (omega arith) (λ f. omega arith)
              (λ f. omega (arith, f, subst (λ n. next_round n i ≡ 0) e (next-last i))),
        ),
      )
      go (no f) (yes e) = (
        0,
        (
          omega arith,
          convex i 0 hi (omega arith) (λ f. omega arith)
              (λ f. omega (arith, f, next-inner (length P) i (omega arith))),
        ),
      )
      go (no f) (no g) = let inner : suc i < length P = omega (arith, f, g) in
          let further : suc (suc i) < length P = omega (arith, f, g) in (
            suc (suc i),
            (
              further,
              convex i (suc (suc i)) hi further (λ e. omega arith)
                  (λ e. omega (arith, e, next-inner (length P) i inner)),
            ),
          )

  -- an edge has a length
  pub edge_long : (i : ℕ) → i < length P → pos 0 ≺ square (start i) (end i)
  edge_long i hi = let j = third i hi in long (start i).x (start i).y (end i).x (end i).y (corner_of P j.0).x
      (corner_of P j.0).y j.1.1
    where
      square_long : (d e u v : ℤ) → pos 0 ≺ d *ℤ v -ℤ e *ℤ u → pos 0 ≺ d *ℤ d +ℤ e *ℤ e
      square_long (pos zero) (pos zero) u v h = absurd (omega (arith, ints, h))
      square_long (pos zero) (pos (suc e)) u v h = omega (arith, ints)
      square_long (pos zero) (negsuc e) u v h = omega (arith, ints)
      square_long (pos (suc d)) e u v h = let s = square_nonneg e in
          let t : pos 0 ≺ pos (suc d) *ℤ pos (suc d) = omega (arith, ints) in omega (arith, sums)
      square_long (negsuc d) e u v h = let s = square_nonneg e in
          let t : pos 0 ≺ negsuc d *ℤ negsuc d = omega (arith, ints) in omega (arith, sums)

      long : (ax ay bx by x y : ℤ) → pos 0 ≺ ((ay -ℤ by) *ℤ x +ℤ (bx -ℤ ax) *ℤ y +ℤ (ax *ℤ by -ℤ bx *ℤ ay))
          → pos 0 ≺ ((bx -ℤ ax) *ℤ (bx -ℤ ax) +ℤ (by -ℤ ay) *ℤ (by -ℤ ay))
      long ax ay bx by x y h = square_long (bx -ℤ ax) (by -ℤ ay) (x -ℤ ax) (y -ℤ ay)
          (simp expand (omega (arith, sums, simp expand at h)))

  -- a point inside, on the line of an edge, is on the edge
  pub on_edge : (i : ℕ) → i < length P → (X : Triple) → IsInside P X → value (edge P i) X ≡ pos 0
      → IsBetween (start i) (end i) X
  on_edge i hi X inside h = record {
    on_line = h;
    above = least (value (along (start i) (end i)) X) X.w (value-opposite (along (start i) (end i)) X)
        (support P convex three X inside (opposite (edge P i)) (opposite (along (start i) (end i))) below
        (λ j hj e. ends j hj e (opposite (along (start i) (end i)))
        (minus (at-opposite (along (start i) (end i)) (start i)) (along-start (start i) (end i)))
        (minus_long (at-opposite (along (start i) (end i)) (end i)) (along-end (start i) (end i))
        (edge_long i hi)))
        zero_here);
    below = greatest (value (along (start i) (end i)) X) (square (start i) (end i)) X.w
        (value-less (along (start i) (end i)) (square (start i) (end i)) X)
        (support P convex three X inside (opposite (edge P i))
        (less (along (start i) (end i)) (square (start i) (end i))) below
        (λ j hj e. ends j hj e (less (along (start i) (end i)) (square (start i) (end i)))
        (less_long (at-less (along (start i) (end i)) (square (start i) (end i)) (start i))
        (along-start (start i) (end i)) (edge_long i hi))
        (less_none (at-less (along (start i) (end i)) (square (start i) (end i)) (end i))
        (along-end (start i) (end i))))
        zero_here);
  }
    where
      below : (j : ℕ) → j < length P → at_corner (opposite (edge P i)) (corner_of P j) ≼ pos 0
      below j hj = flip (at-opposite (edge P i) (corner_of P j)) (corner_inside i j hi hj)
        where
          flip : {z y : ℤ} → y ≡ neg_ℤ z → pos 0 ≼ z → y ≼ pos 0
          flip e l = omega (arith, sums)

      ends : (j : ℕ) → j < length P → at_corner (opposite (edge P i)) (corner_of P j) ≡ pos 0 → (g : LinearForm)
          → at_corner g (start i) ≼ pos 0 → at_corner g (end i) ≼ pos 0 → at_corner g (corner_of P j) ≼ pos 0
      ends j hj e g p q = elim (on-edge i j hi hj (flip (at-opposite (edge P i) (corner_of P j)) e)) [
        | inl s ↦ subst (λ k. at_corner g (corner_of P k) ≼ pos 0) (sym s) p
        | inr s ↦ subst (λ k. at_corner g (corner_of P k) ≼ pos 0) (sym s) q
      ]
        where
          flip : {z y : ℤ} → y ≡ neg_ℤ z → y ≡ pos 0 → z ≼ pos 0
          flip e l = omega (arith, sums)

      zero_here : pos 0 ≼ value (opposite (edge P i)) X
      zero_here = flip (value-opposite (edge P i) X) h
        where
          flip : {z y : ℤ} → y ≡ neg_ℤ z → z ≡ pos 0 → pos 0 ≼ y
          flip e l = omega (arith, sums)

      minus : {z y : ℤ} → y ≡ neg_ℤ z → z ≡ pos 0 → y ≼ pos 0
      minus e l = omega (arith, sums)

      minus_long : {z y s : ℤ} → y ≡ neg_ℤ z → z ≡ s → pos 0 ≺ s → y ≼ pos 0
      minus_long e l h = omega (arith, sums)

      less_long : {z y s : ℤ} → y ≡ z -ℤ s → z ≡ pos 0 → pos 0 ≺ s → y ≼ pos 0
      less_long e l h = omega (arith, sums)

      less_none : {z y s : ℤ} → y ≡ z -ℤ s → z ≡ s → y ≼ pos 0
      less_none e l = omega (arith, sums)

      least : (z w : ℤ) {y : ℤ} → y ≡ neg_ℤ z → y ≼ pos 0 → pos 0 *ℤ w ≼ z
      least z w e l = simp expand (omega (arith, sums))

      greatest : (z s w : ℤ) {y : ℤ} → y ≡ z -ℤ s *ℤ w → y ≼ pos 0 → z ≼ s *ℤ w
      greatest z s w e l = omega (arith, sums)

  pub start-mark : (i : ℕ) → IsMark (start i) (end i) (start i) (pos 0)
  start-mark i = record { on_line = line-start (start i) (end i); place = along-start (start i) (end i) }

  pub end-mark : (i : ℕ) → IsMark (start i) (end i) (end i) (square (start i) (end i))
  end-mark i = record { on_line = line-end (start i) (end i); place = along-end (start i) (end i) }

  -- a point between two marks that are corners, or points of an edge, is inside
  pub edge_inside : (i : ℕ) → i < length P → (X : Triple) → IsBetween (start i) (end i) X → IsInside P X
  edge_inside i hi X h k hk = between (edge P k) (start i) (end i) (start i) (end i) (pos 0)
      (square (start i) (end i)) X (edge_long i hi) (start-mark i) (end-mark i) h
      (corner_inside k i hk hi) (corner_inside k (next_round (length P) i) hk (next_below (length P) i hi))
