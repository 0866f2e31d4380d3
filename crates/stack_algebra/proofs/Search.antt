-- What the least index and the first item are, searches with evidence, and the index after another round a
-- list.
use Rattle.std.proofs.Common.{◌≡◌, ◌≢◌, refl, sym, ap, subst, ◌∙◌, ℕ, zero, suc, ◌<◌, ◌≤◌, ◌+◌, Bool, true, false}
use Rattle.std.proofs.Common.{cond, Option, Some, None, arith, add-one}
use mathlib.Core.Logic.{◌⊎◌, inl, inr}
use native.Mathlib.Decide.{ℕ_discrete}
use lib.Dec.{T, eqb, eqb→eq, eqb_refl}
pub use Rattle.stack_algebra.specs.Search.{least, first, or_else, only_if, next_round}

pub record IsLeast (n : ℕ) (p : ℕ → Bool) (j : ℕ) : Type 0 where
  pub below : j < n
  pub has : p j ≡ true
  pub none_before : (k : ℕ) → k < j → p k ≡ false

-- the first item: none, and found at an index before which there is none (for loops)
pub first-none : {P : Type 0} (n : ℕ) (f : ℕ → Option P) → first n f ≡ None → (k : ℕ) → k < n → f k ≡ None
first-none zero f e k l = absurd (omega arith)
first-none (suc n) f e k l = go (first n f) (ℕ_discrete k n) (first-none n f) e
  where
    go : (o : Option _) → Dec (k ≡ n) → (o ≡ None → (k : ℕ) → k < n → f k ≡ None) → or_else o (f n) ≡ None →
        f k ≡ None
    go (Some p) d h e = absurd cc
    go None (yes d) h e = ap f d ∙ e
    go None (no d) h e = h refl k (omega arith)

pub first_all-none : {P : Type 0} (n : ℕ) (f : ℕ → Option P) → ((k : ℕ) → k < n → f k ≡ None) → first n f
    ≡ None
first_all-none zero f h = refl
first_all-none (suc n) f h = ap (λ o. or_else o (f n)) (first_all-none n f (λ k l. h k (omega arith)))
    ∙ h n (omega arith)

pub record FoundAt {P : Type 0} (n : ℕ) (f : ℕ → Option P) (p : P) : Type 0 where
  pub index : ℕ
  pub below : index < n
  pub item : f index ≡ Some p
  pub none_before : first index f ≡ None

pub first-some : {P : Type 0} (n : ℕ) (f : ℕ → Option P) (p : P) → first n f ≡ Some p → FoundAt n f p
first-some zero f p e = absurd cc
first-some (suc n) f p e = go (first n f) refl (first-some n f) e
  where
    go : (o : Option _) → first n f ≡ o → ((q : _) → first n f ≡ Some q → FoundAt n f q) → or_else o (f n)
        ≡ Some p → FoundAt (suc n) f p
    go (Some q) e h d = let s = h p (e ∙ d) in
        record { index = s.index; below = omega (arith, s.below); item = s.item; none_before = s.none_before }
    go None e h d = record { index = n; below = omega arith; item = d; none_before = e }

pub first_found : {P : Type 0} (n i : ℕ) (f : ℕ → Option P) (p : P) → i < n → first i f ≡ None → f i
    ≡ Some p → first n f ≡ Some p
first_found zero i f p l h e = absurd (omega arith)
first_found (suc n) i f p l h e = go (ℕ_discrete i n) (first_found n i f p)
  where
    go : Dec (i ≡ n) → (i < n → first i f ≡ None → f i ≡ Some p → first n f ≡ Some p) → first (suc n) f
        ≡ Some p
    go (yes d) r = ap (λ k. or_else (first k f) (f k)) (sym d) ∙ ap (λ o. or_else o (f i)) h ∙ e
    go (no d) r = ap (λ o. or_else o (f n)) (r (omega arith) h e)

-- where the first of two is none, neither is there
pub or_none : {P : Type 0} (a b : Option P) → or_else a b ≡ None → (a ≡ None) × (b ≡ None)
or_none None b h = (refl, h)
or_none (Some p) b h = absurd cc

-- the first of equal items
pub first_same : {P : Type 0} (n : ℕ) (f g : ℕ → Option P) → ((i : ℕ) → i < n → f i ≡ g i) →
    first n f ≡ first n g
first_same zero f g h = refl
first_same (suc n) f g h = λ z. or_else (first_same n f g (λ i l. h i (omega (arith, l))) z) (h n (omega arith) z)

-- as a loop goes on by one, and over a gap
pub first_more : {P : Type 0} (i : ℕ) (f : ℕ → Option P) → first i f ≡ None → f i ≡ None →
    first (i + 1) f ≡ None
first_more i f h k = ap (λ n. first n f) (add-one i) ∙ ap (λ o. or_else o (f i)) h ∙ k

-- the first item of two stretches, where the first has none, and where one was found earlier
pub first_join : {P : Type 0} (a b : ℕ) (f : ℕ → Option P) → first a f ≡ None →
    first (a + b) f ≡ first b (λ k. f (a + k))
first_join a zero f h = let e : a + 0 ≡ a = omega arith in ap (λ n. first n f) e ∙ h
first_join a (suc b) f h = let e : a + suc b ≡ suc (a + b) = omega arith in
    ap (λ n. first n f) e ∙ ap (λ o. or_else o (f (a + b))) (first_join a b f h)

pub first_further : {P : Type 0} (a n : ℕ) (f : ℕ → Option P) (p : P) → a ≤ n → first a f ≡ Some p →
    first n f ≡ Some p
first_further a n f p l h = let s = first-some a f p h in
    first_found n s.index f p (omega (arith, s.below, l)) s.none_before s.item

pub only_if-none : {P : Type 0} (b : Bool) (x : P) → only_if b x ≡ None → b ≡ false
only_if-none true x e = absurd cc
only_if-none false x e = refl

pub only_if-some : {P : Type 0} (b : Bool) (x y : P) → only_if b x ≡ Some y → (b ≡ true) × (x ≡ y)
only_if-some true x y e = (refl, cc)
only_if-some false x y e = absurd cc

pub least-none : (n : ℕ) (p : ℕ → Bool) → least n p ≡ None → (k : ℕ) → k < n → p k ≡ false
least-none n p e k l = only_if-none (p k) k (first-none n _ e k l)

pub least-some : (n : ℕ) (p : ℕ → Bool) (j : ℕ) → least n p ≡ Some j → IsLeast n p j
least-some n p j e = let s = first-some n _ j e in let t = only_if-some (p s.index) s.index j s.item in
    subst (λ i. IsLeast n p i) t.1
    (record { below = s.below; has = t.0; none_before = least-none s.index p s.none_before })

-- 0 comes after the last index, and one more after each other
abbrev pub IsAfter : ℕ → ℕ → ℕ → Type 0
IsAfter n i k = ((suc i ≡ n) × (k ≡ 0)) ⊎ ((suc i < n) × (k ≡ suc i))

pub next_round-cases : (n i : ℕ) → i < n → IsAfter n i (next_round n i)
next_round-cases n i l = go (eqb (suc i) n) (eqb→eq (suc i) n)
    (λ e. subst (λ m. T (eqb (suc i) m)) e (eqb_refl (suc i)))
  where
    go : (b : Bool) → (T b → suc i ≡ n) → (suc i ≡ n → T b) → IsAfter n i (cond b 0 (suc i))
    go true e d = inl (e tt, refl)
    go false e d = let other : suc i ≢ n = d in inr (omega arith, refl)
