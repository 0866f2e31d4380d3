-- Helly: open half-planes of which each three have a common point have one together.
use mathlib.Core.Path.{◌≡◌, refl, sym, ◌∙◌, subst}
use mathlib.Core.Bool.{Bool, true, false, cond}
use mathlib.Core.Logic.{◌≢◌}
use Prim.Native.Nat.{ℕ, zero, suc, ◌<◌, ◌≤◌}
use native.Mathlib.Omega.{arith}
use lib.Dec.{T, ltb, ltb→lt, lt→ltb}
use lib.IntN.{pos}
use Rattle.stack_algebra.proofs.Order.{◌≺◌}
use Rattle.stack_polygon.specs.Plane.{Triple}
use Rattle.stack_overlap.specs.Forms.{LinearForm, value}
use Rattle.stack_overlap.proofs.Radon.{IsMeeting, meeting}

-- X is in the first n half-planes
abbrev pub IsInAll : ℕ → (ℕ → LinearForm) → Triple → Type 0
IsInAll n f X = (i : ℕ) → i < n → pos 0 ≺ value (f i) X

-- each three of the first n half-planes have a common point
abbrev pub MeetByThrees : ℕ → (ℕ → LinearForm) → Type 0
MeetByThrees n f = (i j k : ℕ) → i < n → j < n → k < n
    → (X : Triple) × ((pos 0 ≺ value (f i) X) × (pos 0 ≺ value (f j) X) × (pos 0 ≺ value (f k) X))

-- the indices without a
abbrev skip : ℕ → ℕ → ℕ
skip a i = cond (ltb i a) i (suc i)

skip_below : (a i n : ℕ) → i < n → skip a i < suc n
skip_below a i n l = go (ltb i a)
  where
    go : (b : Bool) → cond b i (suc i) < suc n
    go true = omega arith
    go false = omega arith

skip-low : (a i : ℕ) → i < a → skip a i ≡ i
skip-low a i l = go (ltb i a) (lt→ltb i a l)
  where
    go : (b : Bool) → T b → cond b i (suc i) ≡ i
    go true t = refl
    go false t = absurd t

skip-high : (a i : ℕ) → a ≤ i → skip a i ≡ suc i
skip-high a i l = go (ltb i a) (ltb→lt i a)
  where
    go : (b : Bool) → (T b → i < a) → cond b i (suc i) ≡ suc i
    go true t = let h : i < a = t tt in absurd (omega arith)
    go false t = refl

-- a point in all half-planes but one
all-but : (a n : ℕ) (f : ℕ → LinearForm) (X : Triple) → a < suc n → IsInAll n (λ i. f (skip a i)) X → (j : ℕ)
    → j < suc n → j ≢ a → pos 0 ≺ value (f j) X
all-but a n f X ha h j hj d = go (ltb j a) (ltb→lt j a) (lt→ltb j a)
  where
    low : j < a → pos 0 ≺ value (f j) X
    low l = subst (λ k. pos 0 ≺ value (f k) X) (skip-low a j l) (h j (omega arith))

    high : (k : ℕ) → j ≡ suc k → a ≤ k → pos 0 ≺ value (f j) X
    high k e l = subst (λ m. pos 0 ≺ value (f m) X) (skip-high a k l ∙ sym e) (h k (omega arith))

    past : (k : ℕ) → j ≡ k → (j < a → ⊥) → pos 0 ≺ value (f j) X
    past zero e n = let other : j ≡ a → ⊥ = d in absurd (omega (arith, n))
    past (suc k) e n = let other : j ≡ a → ⊥ = d in high k e (omega (arith, n))

    go : (b : Bool) → (T b → j < a) → (j < a → T b) → pos 0 ≺ value (f j) X
    go true t u = low (t tt)
    go false t u = past j refl u

fewer : (a n : ℕ) (f : ℕ → LinearForm) → MeetByThrees (suc n) f → MeetByThrees n (λ i. f (skip a i))
fewer a n f h i j k hi hj hk = h (skip a i) (skip a j) (skip a k) (skip_below a i n hi) (skip_below a j n hj)
    (skip_below a k n hk)

step : (n : ℕ) (f : ℕ → LinearForm) (X₀ X₁ X₂ X₃ : Triple) → IsInAll (suc (suc (suc n))) (λ i. f (skip 0 i)) X₀
    → IsInAll (suc (suc (suc n))) (λ i. f (skip 1 i)) X₁ →
    IsInAll (suc (suc (suc n))) (λ i. f (skip 2 i)) X₂ → IsInAll (suc (suc (suc n))) (λ i. f (skip 3 i)) X₃
    → (S : Triple) × IsInAll (suc (suc (suc (suc n)))) f S
step n f X₀ X₁ X₂ X₃ h₀ h₁ h₂ h₃ = let (S, m) = meeting X₀ X₁ X₂ X₃ in (S, by S m)
  where
    at₀ : (j : ℕ) → j < suc (suc (suc (suc n))) → j ≢ 0 → pos 0 ≺ value (f j) X₀
    at₀ = all-but 0 (suc (suc (suc n))) f X₀ (omega arith) h₀

    at₁ : (j : ℕ) → j < suc (suc (suc (suc n))) → j ≢ 1 → pos 0 ≺ value (f j) X₁
    at₁ = all-but 1 (suc (suc (suc n))) f X₁ (omega arith) h₁

    at₂ : (j : ℕ) → j < suc (suc (suc (suc n))) → j ≢ 2 → pos 0 ≺ value (f j) X₂
    at₂ = all-but 2 (suc (suc (suc n))) f X₂ (omega arith) h₂

    at₃ : (j : ℕ) → j < suc (suc (suc (suc n))) → j ≢ 3 → pos 0 ≺ value (f j) X₃
    at₃ = all-but 3 (suc (suc (suc n))) f X₃ (omega arith) h₃

    by : (S : Triple) → IsMeeting X₀ X₁ X₂ X₃ S → IsInAll (suc (suc (suc (suc n)))) f S
    by S m zero l = m.without_0 (f 0) (at₁ 0 l (λ e. omega (arith, e))) (at₂ 0 l (λ e. omega (arith, e)))
        (at₃ 0 l (λ e. omega (arith, e)))
    by S m (suc zero) l = m.without_1 (f 1) (at₀ 1 l (λ e. omega (arith, e))) (at₂ 1 l (λ e. omega (arith, e)))
        (at₃ 1 l (λ e. omega (arith, e)))
    by S m (suc (suc zero)) l = m.without_2 (f 2) (at₀ 2 l (λ e. omega (arith, e)))
        (at₁ 2 l (λ e. omega (arith, e))) (at₃ 2 l (λ e. omega (arith, e)))
    by S m (suc (suc (suc j))) l = m.without_3 (f (suc (suc (suc j)))) (at₀ _ l (λ e. omega (arith, e)))
        (at₁ _ l (λ e. omega (arith, e))) (at₂ _ l (λ e. omega (arith, e)))

pub helly : (n : ℕ) (f : ℕ → LinearForm) → MeetByThrees (suc (suc (suc n))) f
    → (X : Triple) × IsInAll (suc (suc (suc n))) f X
helly zero f h = let r = h 0 1 2 (omega arith) (omega arith) (omega arith) in (r.0, three r.0 r.1)
  where
    three : (X : Triple) → (pos 0 ≺ value (f 0) X) × (pos 0 ≺ value (f 1) X) × (pos 0 ≺ value (f 2) X)
        → IsInAll 3 f X
    three X r zero l = r.0
    three X r (suc zero) l = r.1
    three X r (suc (suc zero)) l = r.2
    three X r (suc (suc (suc j))) l = absurd (omega arith)
helly (suc n) f h =
    let r₀ = helly n (λ i. f (skip 0 i)) (fewer 0 (suc (suc (suc n))) f h) in
    let r₁ = helly n (λ i. f (skip 1 i)) (fewer 1 (suc (suc (suc n))) f h) in
    let r₂ = helly n (λ i. f (skip 2 i)) (fewer 2 (suc (suc (suc n))) f h) in
    let r₃ = helly n (λ i. f (skip 3 i)) (fewer 3 (suc (suc (suc n))) f h) in
    step n f r₀.0 r₁.0 r₂.0 r₃.0 r₀.1 r₁.1 r₂.1 r₃.1
