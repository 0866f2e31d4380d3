-- Two outlines that no edge separates have a point strictly inside both.
use mathlib.Core.Path.{◌≡◌, refl, sym, ap, ◌∙◌, subst}
use mathlib.Core.List.{[], ◌∷◌}
use mathlib.Core.Bool.{Bool, true, false, cond}
use mathlib.Core.Logic.{◌⊎◌, inl, inr}
use Prim.Native.Nat.{ℕ, zero, suc, ◌<◌, ◌≤◌, ◌+◌, ◌-◌}
use native.Mathlib.Omega.{arith}
use native.Mathlib.Decide.{ℕ_discrete}
use lib.Dec.{T, ltb, ltb→lt, lt→ltb}
use lib.IntN.{ℤ, pos, negsuc, ◌+ℤ◌, ◌-ℤ◌, ◌*ℤ◌, neg_ℤ, nat_abs}
use Rattle.stack_algebra.proofs.Integers.{sums, expand}
use Rattle.stack_algebra.proofs.Ring.{Exp, var, num, ◌⊕◌, ◌⊗◌, solve, nth}
use Rattle.stack_algebra.proofs.IntegerRing.{integers}
use Rattle.stack_algebra.proofs.Order.{◌≼◌, ◌≺◌, mul_nonneg}
use Rattle.std.proofs.lemmas.Int.{ints}
use Rattle.stack_polygon.specs.declared.point.Point.{Point}
use mathlib.Core.List.{List}
use lib.ListN.{length}
use Rattle.stack_algebra.specs.Search.{next_round}
use Rattle.stack_polygon.specs.Corners.{corner_of}
use Rattle.stack_polygon.specs.Plane.{Triple}
use Rattle.stack_overlap.specs.Forms.{LinearForm, value, at_corner, edge}
use Rattle.stack_overlap.proofs.ByForms.{IsConvex, IsDeep, Meets, NoneOuter}
use Rattle.stack_overlap.proofs.Edges.{corner-cases, corner_inside}
use Rattle.stack_overlap.proofs.HalfPlanes.{MeetByThrees, helly}

abbrev v : ℕ → Exp
v k = var k

-- a sum of three corners
abbrev sum_of_three : Point → Point → Point → Triple
sum_of_three a b c = record { x = a.x +ℤ b.x +ℤ c.x; y = a.y +ℤ b.y +ℤ c.y; w = pos 3; positive = three }
  where
    three : pos 0 ≺ pos 3
    three = omega (arith, ints)

value-three : (f : LinearForm) (a b c : Point) → value f (sum_of_three a b c)
    ≡ at_corner f a +ℤ at_corner f b +ℤ at_corner f c
value-three f a b c = solve integers (nth integers (f.l ∷ f.m ∷ f.n ∷ a.x ∷ a.y ∷ b.x ∷ b.y ∷ c.x ∷ c.y ∷ []))
    (v 0 ⊗ (v 3 ⊕ v 5 ⊕ v 7) ⊕ v 1 ⊗ (v 4 ⊕ v 6 ⊕ v 8) ⊕ v 2 ⊗ num (pos 3))
    ((v 0 ⊗ v 3 ⊕ v 1 ⊗ v 4 ⊕ v 2) ⊕ (v 0 ⊗ v 5 ⊕ v 1 ⊗ v 6 ⊕ v 2) ⊕ (v 0 ⊗ v 7 ⊕ v 1 ⊗ v 8 ⊕ v 2)) refl

-- n times a corner and a point together
abbrev drawn : (n : ℤ) → pos 0 ≼ n → Point → Triple → Triple
drawn n h c X =
    record { x = n *ℤ c.x +ℤ X.x; y = n *ℤ c.y +ℤ X.y; w = n +ℤ X.w; positive = more n X.w h X.positive }
  where
    more : (n w : ℤ) → pos 0 ≼ n → pos 0 ≺ w → pos 0 ≺ (n +ℤ w)
    more n w h p = omega (arith, sums)

value-drawn : (f : LinearForm) (n : ℤ) (h : pos 0 ≼ n) (c : Point) (X : Triple)
    → value f (drawn n h c X) ≡ n *ℤ at_corner f c +ℤ value f X
value-drawn f n h c X = solve integers (nth integers (f.l ∷ f.m ∷ f.n ∷ n ∷ c.x ∷ c.y ∷ X.x ∷ X.y ∷ X.w ∷ []))
    (v 0 ⊗ (v 3 ⊗ v 4 ⊕ v 6) ⊕ v 1 ⊗ (v 3 ⊗ v 5 ⊕ v 7) ⊕ v 2 ⊗ (v 3 ⊕ v 8))
    (v 3 ⊗ (v 0 ⊗ v 4 ⊕ v 1 ⊗ v 5 ⊕ v 2) ⊕ (v 0 ⊗ v 6 ⊕ v 1 ⊗ v 7 ⊕ v 2 ⊗ v 8)) refl

-- an index at which a number is positive, if there is one
pub search_positive : (n : ℕ) (g : ℕ → ℤ) → ((j : ℕ) → j < n → g j ≼ pos 0) ⊎ ((j : ℕ) × ((j < n) × (pos 0 ≺ g j)))
search_positive zero g = inl (λ j l. absurd (omega arith))
search_positive (suc n) g = go (search_positive n g) (g n) refl
  where
    below : ((j : ℕ) → j < n → g j ≼ pos 0) → g n ≼ pos 0 → (j : ℕ) → j < suc n → g j ≼ pos 0
    below h k j l = by (ℕ_discrete j n)
      where
        by : Dec (j ≡ n) → g j ≼ pos 0
        by (yes e) = subst (λ m. g m ≼ pos 0) (sym e) k
        by (no d) = let other : j ≡ n → ⊥ = d in h j (omega arith)

    go : ((j : ℕ) → j < n → g j ≼ pos 0) ⊎ ((j : ℕ) × ((j < n) × (pos 0 ≺ g j))) → (z : ℤ) → g n ≡ z
        → ((j : ℕ) → j < suc n → g j ≼ pos 0) ⊎ ((j : ℕ) × ((j < suc n) × (pos 0 ≺ g j)))
    go (inr r) z e = inr (r.0, (omega (arith, r.1.0), r.1.1))
    go (inl h) (pos (suc m)) e = inr (n, (omega arith, subst (λ z. pos 0 ≺ z) (sym e) (omega (arith, ints))))
    go (inl h) (pos zero) e = inl (below h (subst (λ z. z ≼ pos 0) (sym e) (omega (arith, ints))))
    go (inl h) (negsuc m) e = inl (below h (subst (λ z. z ≼ pos 0) (sym e) (omega (arith, ints))))

module _ (P : List Point) (convex : IsConvex P) (three : 3 ≤ length P) where
  -- the sum of three corners is strictly inside
  pub middle : Triple
  middle = sum_of_three (corner_of P 0) (corner_of P 1) (corner_of P 2)

  pub middle_inside : IsDeep P middle
  unfolding middle
  middle_inside i hi = subst (λ z. pos 0 ≺ z) (sym (value-three (edge P i) (corner_of P 0) (corner_of P 1)
      (corner_of P 2)))
      (go (corner-cases P convex three i 0 hi (omega arith)) (corner-cases P convex three i 1 hi (omega arith))
      (corner-cases P convex three i 2 hi (omega arith))
      (corner_inside P convex three i 0 hi (omega arith)) (corner_inside P convex three i 1 hi (omega arith))
      (corner_inside P convex three i 2 hi (omega arith)))
    where
      s : ℕ → ℤ
      s j = at_corner (edge P i) (corner_of P j)

      go : (0 ≡ i) ⊎ ((0 ≡ next_round (length P) i) ⊎ (pos 0 ≺ s 0))
          → (1 ≡ i) ⊎ ((1 ≡ next_round (length P) i) ⊎ (pos 0 ≺ s 1))
          → (2 ≡ i) ⊎ ((2 ≡ next_round (length P) i) ⊎ (pos 0 ≺ s 2)) →
          pos 0 ≼ s 0 → pos 0 ≼ s 1 → pos 0 ≼ s 2 → pos 0 ≺ (s 0 +ℤ s 1 +ℤ s 2)
      go (inr (inr l)) y z p q r = omega (arith, sums)
      go x (inr (inr l)) z p q r = omega (arith, sums)
      go x y (inr (inr l)) p q r = omega (arith, sums)
      go (inl a) (inl b) z p q r = absurd (omega (arith, a, b))
      go (inl a) y (inl c) p q r = absurd (omega (arith, a, c))
      go x (inl b) (inl c) p q r = absurd (omega (arith, b, c))
      go (inr (inl a)) (inr (inl b)) z p q r = absurd (omega (arith, a, b))
      go (inr (inl a)) y (inr (inl c)) p q r = absurd (omega (arith, a, c))
      go x (inr (inl b)) (inr (inl c)) p q r = absurd (omega (arith, b, c))

  -- where a half-plane has a corner, it has a point strictly inside
  pub near_corner : (f : LinearForm) (j : ℕ) → j < length P → pos 0 ≺ at_corner f (corner_of P j)
      → (X : Triple) × (IsDeep P X × (pos 0 ≺ value f X))
  near_corner f j hj h = (
    X,
    (
      λ i hi. subst (λ z. pos 0 ≺ z) (sym (value-drawn (edge P i) n big (corner_of P j) middle))
          (inner n (at_corner (edge P i) (corner_of P j)) (value (edge P i) middle) big
          (corner_inside P convex three i j hi hj) (middle_inside i hi)),
      subst (λ z. pos 0 ≺ z) (sym (value-drawn f n big (corner_of P j) middle))
          (outer n (at_corner f (corner_of P j)) (value f middle) big (past (value f middle)) h),
    ),
  )
    where
      n : ℤ
      n = pos (suc (nat_abs (value f middle)))

      big : pos 0 ≼ n
      big = omega (arith, ints)

      X : Triple
      X = drawn n big (corner_of P j) middle

      inner : (n a b : ℤ) → pos 0 ≼ n → pos 0 ≼ a → pos 0 ≺ b → pos 0 ≺ (n *ℤ a +ℤ b)
      inner n a b hn ha hb = let m = mul_nonneg n a hn ha in omega (arith, sums)

      past : (b : ℤ) → neg_ℤ b ≺ pos (suc (nat_abs b))
      past b = omega (arith, ints)

      outer : (n a b : ℤ) → pos 0 ≼ n → neg_ℤ b ≺ n → pos 0 ≺ a → pos 0 ≺ (n *ℤ a +ℤ b)
      outer n a b hn hb ha = let m = mul_nonneg n (a -ℤ pos 1) hn (omega (arith, sums)) in
          omega (arith, sums, simp expand at m)

-- the edges of P, then those of Q
abbrev all_edges : List Point → List Point → ℕ → LinearForm
all_edges P Q i = cond (ltb i (length P)) (edge P i) (edge Q (i - (length P)))

first-edges : (P Q : List Point) (i : ℕ) → i < length P → all_edges P Q i ≡ edge P i
first-edges P Q i l = go (ltb i (length P)) (lt→ltb i (length P) l)
  where
    go : (b : Bool) → T b → cond b (edge P i) (edge Q (i - (length P))) ≡ edge P i
    go true t = refl
    go false t = absurd t

later-edges : (P Q : List Point) (k : ℕ) → all_edges P Q (length P + k) ≡ edge Q k
later-edges P Q k = go (ltb (length P + k) (length P)) (ltb→lt (length P + k) (length P))
    ∙ ap (edge Q) (rest (length P) k)
  where
    go : (b : Bool) → (T b → length P + k < length P)
        → cond b (edge P (length P + k)) (edge Q (length P + k - (length P))) ≡ edge Q
        (length P + k - (length P))
    go true t = let l : length P + k < length P = t tt in absurd (omega arith)
    go false t = refl

    rest : (n k : ℕ) → n + k - n ≡ k
    rest n k = omega arith

-- which edge an index is
kind : (P Q : List Point) (i : ℕ) → i < length P + length Q
    → ((i < length P) × (all_edges P Q i ≡ edge P i)) ⊎
    ((k : ℕ) × ((k < length Q) × (all_edges P Q i ≡ edge Q k)))
kind P Q i l = go (ltb i (length P)) (ltb→lt i (length P)) (lt→ltb i (length P))
  where
    high : length P ≤ i → (k : ℕ) × ((k < length Q) × (all_edges P Q i ≡ edge Q k))
    high m = (
      i - (length P),
      (
        omega arith,
        ap (all_edges P Q) (again (length P) i m)
            ∙ later-edges P Q (i - (length P)),
      ),
    )
      where
        again : (n i : ℕ) → n ≤ i → i ≡ n + (i - n)
        again n i m = omega arith

    go : (b : Bool) → (T b → i < length P) → (i < length P → T b)
        → ((i < length P) × (all_edges P Q i ≡ edge P i)) ⊎
        ((k : ℕ) × ((k < length Q) × (all_edges P Q i ≡ edge Q k)))
    go true t u = inl (t tt, first-edges P Q i (t tt))
    go false t u = let not : i < length P → ⊥ = u in inr (high (omega arith))

module _ (P Q : List Point) (convex_p : IsConvex P) (three_p : 3 ≤ length P) (convex_q : IsConvex Q)
    (three_q : 3 ≤ length Q) (none_p : NoneOuter P Q) (none_q : NoneOuter Q P) where
  -- a point strictly inside P and strictly left of an edge of Q
  in-first : (k : ℕ) → k < length Q → (X : Triple) × (IsDeep P X × (pos 0 ≺ value (edge Q k) X))
  in-first k hk = elim (search_positive (length P) (λ j. at_corner (edge Q k) (corner_of P j))) [
    | inl h ↦ absurd (none_q k (record { is_edge = hk; apart = h }))
    | inr r ↦ near_corner P convex_p three_p (edge Q k) r.0 r.1.0 r.1.1
  ]

  in-second : (k : ℕ) → k < length P → (X : Triple) × (IsDeep Q X × (pos 0 ≺ value (edge P k) X))
  in-second k hk = elim (search_positive (length Q) (λ j. at_corner (edge P k) (corner_of Q j))) [
    | inl h ↦ absurd (none_p k (record { is_edge = hk; apart = h }))
    | inr r ↦ near_corner Q convex_q three_q (edge P k) r.0 r.1.0 r.1.1
  ]

  by-threes : MeetByThrees (length P + length Q) (all_edges P Q)
  by-threes i j k hi hj hk = go (kind P Q i hi) (kind P Q j hj) (kind P Q k hk)
    where
      Kind : ℕ → Type 0
      Kind i = ((i < length P) × (all_edges P Q i ≡ edge P i)) ⊎
          ((k : ℕ) × ((k < length Q) × (all_edges P Q i ≡ edge Q k)))

      to : {f g : LinearForm} (X : Triple) → f ≡ g → pos 0 ≺ value g X → pos 0 ≺ value f X
      to X e h = subst (λ f. pos 0 ≺ value f X) (sym e) h

      go : Kind i → Kind j → Kind k → (X : Triple) ×
          ((pos 0 ≺ value (all_edges P Q i) X) × (pos 0 ≺ value (all_edges P Q j) X) ×
          (pos 0 ≺ value (all_edges P Q k) X))
      go (inl a) (inl b) (inl c) = let X = middle P convex_p three_p in
          let m = middle_inside P convex_p three_p in
          (X, (to X a.1 (m i a.0), to X b.1 (m j b.0), to X c.1 (m k c.0)))
      go (inl a) (inl b) (inr (l, c)) = let (X, m) =
          in-first l c.0 in (X, (to X a.1 (m.0 i a.0), to X b.1 (m.0 j b.0), to X c.1 m.1))
      go (inl a) (inr (l, b)) (inl c) = let (X, m) =
          in-first l b.0 in (X, (to X a.1 (m.0 i a.0), to X b.1 m.1, to X c.1 (m.0 k c.0)))
      go (inr (l, a)) (inl b) (inl c) = let (X, m) =
          in-first l a.0 in (X, (to X a.1 m.1, to X b.1 (m.0 j b.0), to X c.1 (m.0 k c.0)))
      go (inl a) (inr (l, b)) (inr (n, c)) = let (X, m) =
          in-second i a.0 in (X, (to X a.1 m.1, to X b.1 (m.0 l b.0), to X c.1 (m.0 n c.0)))
      go (inr (l, a)) (inl b) (inr (n, c)) = let (X, m) =
          in-second j b.0 in (X, (to X a.1 (m.0 l a.0), to X b.1 m.1, to X c.1 (m.0 n c.0)))
      go (inr (l, a)) (inr (n, b)) (inl c) = let (X, m) =
          in-second k c.0 in (X, (to X a.1 (m.0 l a.0), to X b.1 (m.0 n b.0), to X c.1 m.1))
      go (inr (l, a)) (inr (n, b)) (inr (o, c)) = let X = middle Q convex_q three_q in
          let m = middle_inside Q convex_q three_q in
          (X, (to X a.1 (m l a.0), to X b.1 (m n b.0), to X c.1 (m o c.0)))

  -- a pair with no separating edge overlaps
  pub overlapping : Meets P Q
  overlapping = let n = length P + length Q - 3 in
      let same : suc (suc (suc n)) ≡ length P + length Q = omega arith in
      let r = helly n (all_edges P Q) (subst (λ m. MeetByThrees m (all_edges P Q)) (sym same) by-threes) in (
        r.0,
        (
          λ i hi. subst (λ f. pos 0 ≺ value f r.0) (first-edges P Q i hi) (r.1 i (omega arith)),
          λ k hk. subst (λ f. pos 0 ≺ value f r.0) (later-edges P Q k) (r.1 (length P + k) (omega arith)),
        ),
      )
