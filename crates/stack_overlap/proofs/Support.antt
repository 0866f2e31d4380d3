-- A form at a point inside a convex outline, from its values at the corners.
use mathlib.Core.Path.{◌≡◌, refl, sym, subst}
use mathlib.Core.Logic.{◌⊎◌, inl, inr}
use mathlib.Core.Bool.{Bool, true, false, cond}
use Prim.Native.Nat.{ℕ, zero, suc, ◌<◌, ◌≤◌, ◌-◌}
use native.Mathlib.Omega.{arith}
use lib.Dec.{T, eqb, eqb→eq, eqb_refl}
use lib.IntN.{ℤ, pos, negsuc, ◌+ℤ◌, ◌*ℤ◌, neg_ℤ}
use Rattle.stack_algebra.proofs.Integers.{sums, expand}
use Rattle.stack_algebra.proofs.Order.{◌≼◌, ◌≺◌, mul_nonneg, nonneg-cancel}
use Rattle.std.proofs.lemmas.Int.{ints}
use mathlib.Core.List.{List}
use lib.ListN.{length}
use Rattle.stack_polygon.specs.declared.point.Point.{Point}
use Rattle.stack_algebra.specs.Search.{next_round}
use Rattle.stack_polygon.specs.Corners.{corner_of}
use Rattle.stack_polygon.specs.Plane.{Triple}
use Rattle.stack_overlap.specs.Forms.{LinearForm, value, at_corner, line}
use Rattle.stack_overlap.proofs.ByForms.{IsConvex, IsInside}
use Rattle.stack_overlap.proofs.Identities.{triangle, reversed, turned}

-- the index after the last one, and after the others
pub next-last : (n : ℕ) → next_round (suc n) n ≡ 0
next-last n = go (eqb (suc n) (suc n)) (eqb_refl (suc n))
  where
    go : (b : Bool) → T b → cond b 0 (suc n) ≡ 0
    go true t = refl
    go false t = absurd t

pub next-inner : (n i : ℕ) → suc i < n → next_round n i ≡ suc i
next-inner n i l = go (eqb (suc i) n) (eqb→eq (suc i) n)
  where
    go : (b : Bool) → (T b → suc i ≡ n) → cond b 0 (suc i) ≡ suc i
    go true e = let same : suc i ≡ n = e tt in absurd (omega arith)
    go false e = refl

pub next_below : (n i : ℕ) → i < n → next_round n i < n
next_below n i l = go (eqb (suc i) n) (λ e. subst (λ m. T (eqb (suc i) m)) e (eqb_refl (suc i)))
  where
    go : (b : Bool) → (suc i ≡ n → T b) → cond b 0 (suc i) < n
    go true e = omega arith
    go false e = let other : suc i ≡ n → ⊥ = e in omega arith

-- a number is at most 0, or at least 0
pub either_side : (z : ℤ) → (z ≼ pos 0) ⊎ (pos 0 ≼ z)
either_side (pos n) = inr (omega (arith, ints))
either_side (negsuc n) = inl (omega (arith, ints))

-- between an index with a value of at least 0 and a later one of at most 0, two neighbours have such values
pub crossing : (f : ℕ → ℤ) (n : ℕ) → pos 0 ≼ f 1 → f (suc (suc n)) ≼ pos 0 →
    (k : ℕ) × ((0 < k) × (k ≤ suc n) × (pos 0 ≼ f k) × (f (suc k) ≼ pos 0))
crossing f zero h l = (1, (omega arith, omega arith, h, l))
crossing f (suc n) h l = go (either_side (f (suc (suc n)))) (crossing f n h)
  where
    go : (f (suc (suc n)) ≼ pos 0) ⊎ (pos 0 ≼ f (suc (suc n))) →
        (f (suc (suc n)) ≼ pos 0 → (k : ℕ) × ((0 < k) × (k ≤ suc n) × (pos 0 ≼ f k) × (f (suc k) ≼ pos 0))) →
        (k : ℕ) × ((0 < k) × (k ≤ suc (suc n)) × (pos 0 ≼ f k) × (f (suc k) ≼ pos 0))
    go (inl m) r = let s = r m in (s.0, (s.1.0, omega (arith, s.1.1), s.1.2, s.1.3))
    go (inr m) r = (suc (suc n), (omega arith, omega arith, m, l))

-- one term of three whose sum is not negative, where none is positive
term : (a f g : ℤ) → pos 0 ≼ a → f ≼ pos 0 → (f ≡ pos 0 → g ≼ pos 0) → pos 0 ≼ a *ℤ f → a *ℤ g ≼ pos 0
term a (pos zero) g ha hf hg h = omega (
  arith,
  sums,
  simp expand at
      (mul_nonneg a (neg_ℤ g) ha (let k = hg refl in omega (arith, sums))),
)
term a (pos (suc n)) g ha hf hg h = absurd (omega (arith, ints))
term (pos zero) (negsuc n) g ha hf hg h = omega (arith, ints)
term (pos (suc a)) (negsuc n) g ha hf hg h = absurd (omega (arith, ints))
term (negsuc a) (negsuc n) g ha hf hg h = absurd (omega (arith, ints))

at_most : (a f : ℤ) → pos 0 ≼ a → f ≼ pos 0 → a *ℤ f ≼ pos 0
at_most a f ha hf = omega (arith, sums, simp expand at (mul_nonneg a (neg_ℤ f) ha (omega (arith, sums))))

-- two forms that share the weights of three corners
weights : (d a b c f₀ f₁ f₂ g₀ g₁ g₂ F G : ℤ) → pos 0 ≺ d → pos 0 ≼ a → pos 0 ≼ b → pos 0 ≼ c →
    d *ℤ F ≡ a *ℤ f₀ +ℤ b *ℤ f₁ +ℤ c *ℤ f₂ → d *ℤ G ≡ a *ℤ g₀ +ℤ b *ℤ g₁ +ℤ c *ℤ g₂ →
    f₀ ≼ pos 0 → f₁ ≼ pos 0 → f₂ ≼ pos 0 →
    (f₀ ≡ pos 0 → g₀ ≼ pos 0) → (f₁ ≡ pos 0 → g₁ ≼ pos 0) → (f₂ ≡ pos 0 → g₂ ≼ pos 0) →
    pos 0 ≼ F → G ≼ pos 0
weights d a b c f₀ f₁ f₂ g₀ g₁ g₂ F G hd ha hb hc ef eg h₀ h₁ h₂ k₀ k₁ k₂ hF =
    let s = mul_nonneg d F (omega (arith, sums)) hF in
    let m₀ = at_most a f₀ ha h₀ in
    let m₁ = at_most b f₁ hb h₁ in
    let m₂ = at_most c f₂ hc h₂ in
    let t₀ = term a f₀ g₀ ha h₀ k₀ (omega (arith, sums)) in
    let t₁ = term b f₁ g₁ hb h₁ k₁ (omega (arith, sums)) in
    let t₂ = term c f₂ g₂ hc h₂ k₂ (omega (arith, sums)) in
    let z = nonneg-cancel d (neg_ℤ G) hd (simp expand (omega (arith, sums))) in
    omega (arith, sums)

-- a form that is nowhere positive at the corners, and not negative at a point inside, bounds each other form there
-- by the corners where it is 0
pub support : (P : List Point) → IsConvex P → 3 ≤ length P → (X : Triple) → IsInside P X → (f g : LinearForm) →
    ((j : ℕ) → j < length P → at_corner f (corner_of P j) ≼ pos 0) →
    ((j : ℕ) → j < length P → at_corner f (corner_of P j) ≡ pos 0 → at_corner g (corner_of P j) ≼ pos 0) →
    pos 0 ≼ value f X → value g X ≼ pos 0
support P convex three X inside f g hf hg h =
    let n = length P - 3 in
    let c = corner_of P in
    let first : pos 0 ≼ value (line (c 0) (c 1)) X =
    subst (λ i. pos 0 ≼ value (line (c 0) (c i)) X) (next-inner (length P) 0 (omega arith))
    (inside 0 (omega arith)) in
    let last : value (line (c 0) (c (suc (suc n)))) X ≼ pos 0 = closing (suc (suc n)) (omega arith) in
    let s = crossing (λ k. value (line (c 0) (c k)) X) n first last in
    let k = s.0 in
    let below : suc k < length P = omega (arith, s.1.1) in
    let side : pos 0 ≼ value (line (c k) (c (suc k))) X =
    subst (λ i. pos 0 ≼ value (line (c k) (c i)) X) (next-inner (length P) k below)
    (inside k (omega arith)) in
    let wide : pos 0 ≺ at_corner (line (c k) (c (suc k))) (c 0) =
    subst (λ i. pos 0 ≺ at_corner (line (c k) (c i)) (c 0)) (next-inner (length P) k below)
    (convex k 0 (omega arith) (omega arith) (λ e. omega (arith, s.1.0))
    (λ e. omega (arith, e, next-inner (length P) k below))) in
    weights (at_corner (line (c 0) (c k)) (c (suc k)))
    (value (line (c k) (c (suc k))) X) (value (line (c (suc k)) (c 0)) X) (value (line (c 0) (c k)) X)
    (at_corner f (c 0)) (at_corner f (c k)) (at_corner f (c (suc k))) (at_corner g (c 0)) (at_corner g (c k))
    (at_corner g (c (suc k))) (value f X)
    (value g X)
    (subst (λ z. pos 0 ≺ z) (sym (turned (c 0) (c k) (c (suc k)))) wide)
    side
    (subst (λ z. pos 0 ≼ z) (sym (reversed (c 0) (c (suc k)) X)) (flip _ s.1.3))
    s.1.2
    (triangle f (c 0) (c k) (c (suc k)) X)
    (triangle g (c 0) (c k) (c (suc k)) X)
    (hf 0 (omega arith)) (hf k (omega arith)) (hf (suc k) below)
    (hg 0 (omega arith)) (hg k (omega arith)) (hg (suc k) below)
    h
  where
    flip : (z : ℤ) → z ≼ pos 0 → pos 0 ≼ neg_ℤ z
    flip z l = omega (arith, sums)

    back : (z : ℤ) → pos 0 ≼ z → neg_ℤ z ≼ pos 0
    back z l = omega (arith, sums)

    closing : (m : ℕ) → suc m ≡ length P → value (line (corner_of P 0) (corner_of P m)) X ≼ pos 0
    closing m e = subst (λ z. z ≼ pos 0) (sym (reversed (corner_of P m) (corner_of P 0) X))
        (back _ (subst (λ i. pos 0 ≼ value (line (corner_of P m) (corner_of P i)) X)
        (subst (λ n. next_round n m ≡ 0) e (next-last m)) (inside m (omega arith))))

-- a form that is nowhere positive at the corners is not positive at a point inside
pub below-inside : (P : List Point) → IsConvex P → 3 ≤ length P → (X : Triple) → IsInside P X → (g : LinearForm) →
    ((j : ℕ) → j < length P → at_corner g (corner_of P j) ≼ pos 0) → value g X ≼ pos 0
below-inside P convex three X inside g h = support P convex three X inside
    (record { l = pos 0; m = pos 0; n = pos 0 }) g (λ j l. nothing (corner_of P j).x (corner_of P j).y)
    (λ j l e. h j l) (nothing_there X.x X.y X.w)
  where
    nothing : (x y : ℤ) → (pos 0 *ℤ x +ℤ pos 0 *ℤ y +ℤ pos 0) ≼ pos 0
    nothing x y = omega (arith, ints)

    nothing_there : (x y w : ℤ) → pos 0 ≼ (pos 0 *ℤ x +ℤ pos 0 *ℤ y +ℤ pos 0 *ℤ w)
    nothing_there x y w = omega (arith, ints)
