-- A set of basic columns as a number below 2^n: its binary digits say which columns are in it.
use Rattle.std.proofs.Common.{◌≡◌, refl, sym, ap, subst, ◌∙◌, ℕ, zero, suc, ◌<◌, ◌+◌, ◌^◌, Bool, true, false, cond, eqb}
use Rattle.std.proofs.Common.{◌||◌, arith, eqb-true, eq-eqb}
use Rattle.stack_rational.proofs.Common.{ℕ_discrete}
use Rattle.std.proofs.Math.Nat.{pow-suc}
use Rattle.stack_run.specs.BasicSets.{IsBasic, SameSet}

-- whether one of the first n has p
abbrev any : ℕ → (ℕ → Bool) → Bool
any zero p = false
any (suc n) p = any n p || p n

-- where the test holds, one of them has p
any-index : (n : ℕ) (p : ℕ → Bool) → any n p ≡ true → (i : ℕ) × (i < n) × (p i ≡ true)
any-index zero p e = absurd cc
any-index (suc n) p e = go (any n p) (any-index n p) e
  where
    go : (a : Bool) → (a ≡ true → (i : ℕ) × (i < n) × (p i ≡ true)) → (a || p n) ≡ true →
        (i : ℕ) × (i < suc n) × (p i ≡ true)
    go true h e = let r = h refl in (r.0, omega (arith, r.1), r.2)
    go false h e = (n, omega arith, e)

-- where one of them has p, the test holds
any-true : (n i : ℕ) (p : ℕ → Bool) → i < n → p i ≡ true → any n p ≡ true
any-true zero i p l e = absurd (omega arith)
any-true (suc n) i p l e = go (ℕ_discrete i n) (any n p) (any-true n i p)
  where
    go : Dec (i ≡ n) → (a : Bool) → (i < n → p i ≡ true → a ≡ true) → (a || p n) ≡ true
    go d true h = refl
    go (yes d) false h = ap p (sym d) ∙ e
    go (no d) false h = absurd (let k = h (omega arith) e in cc)

-- the number whose binary digits are f
abbrev pub code : ℕ → (ℕ → Bool) → ℕ
code zero f = 0
code (suc n) f = code n f + cond (f n) (2 ^ n) 0

-- the number is below 2^n, and tells the first n digits
pub code-below : (n : ℕ) (f : ℕ → Bool) → code n f < 2 ^ n
code-below zero f = omega arith
code-below (suc n) f = go (f n) (code-below n f)
  where
    go : (b : Bool) → code n f < 2 ^ n → code n f + cond b (2 ^ n) 0 < 2 ^ suc n
    go true h = omega (arith, pow-suc 2 n)
    go false h = omega (arith, pow-suc 2 n)

code-same : (n : ℕ) (f g : ℕ → Bool) → code n f ≡ code n g → (j : ℕ) → j < n → f j ≡ g j
code-same zero f g e j l = absurd (omega arith)
code-same (suc n) f g e j l = go (f n) refl (g n) refl e (code-same n f g) (ℕ_discrete j n)
  where
    go : (a : Bool) → f n ≡ a → (b : Bool) → g n ≡ b → code n f + cond a (2 ^ n) 0
        ≡ code n g + cond b (2 ^ n) 0 → (code n f ≡ code n g → (j : ℕ) → j < n → f j ≡ g j) → Dec (j ≡ n) →
        f j ≡ g j
    go true p true q e h (yes d) = ap f d ∙ p ∙ sym q ∙ ap g (sym d)
    go false p false q e h (yes d) = ap f d ∙ p ∙ sym q ∙ ap g (sym d)
    go true p true q e h (no d) = h (omega arith) j (omega arith)
    go false p false q e h (no d) = h (omega arith) j (omega arith)
    go true p false q e h d = absurd (omega (arith, code-below n f, code-below n g))
    go false p true q e h d = absurd (omega (arith, code-below n f, code-below n g))

-- the set of basic columns, as digits
abbrev pub has : ℕ → (ℕ → ℕ) → ℕ → Bool
has m basic j = any m (λ i. eqb (basic i) j)

-- a digit says that the column is basic
has-in : (m : ℕ) (basic : ℕ → ℕ) (j : ℕ) → has m basic j ≡ true → IsBasic m basic j
has-in m basic j e = let r = any-index m (λ i. eqb (basic i) j) e in record {
  row = r.0;
  below = r.1;
  there = eqb-true _ _ r.2;
}

in-has : (m : ℕ) (basic : ℕ → ℕ) (j : ℕ) → IsBasic m basic j → has m basic j ≡ true
in-has m basic j h = any-true m h.row (λ i. eqb (basic i) j) h.below (eq-eqb _ _ h.there)

-- sets with the same number are the same
pub same_set : (m n : ℕ) (b c : ℕ → ℕ) → ((i : ℕ) → i < m → b i < n) → ((i : ℕ) → i < m → c i < n) →
    code n (has m b) ≡ code n (has m c) → SameSet m b c
same_set m n b c hb hc e j = (
  λ h. has-in m c j (sym (code-same n (has m b) (has m c) e j
      (subst (λ k. k < n) h.there (hb h.row h.below))) ∙ in-has m b j h),
  λ h. has-in m b j (code-same n (has m b) (has m c) e j (subst (λ k. k < n) h.there (hc h.row h.below))
      ∙ in-has m c j h),
)

-- a number is below its power of 2
pub below_power : (n : ℕ) → n < 2 ^ n
below_power zero = omega arith
below_power (suc n) = omega (arith, below_power n, pow-suc 2 n)
