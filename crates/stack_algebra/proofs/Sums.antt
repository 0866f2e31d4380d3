-- Sums over the indices below n, and over a list, in any commutative ring.
use Rattle.std.proofs.Common.{arith, add-one}
use mathlib.Core.Path.{◌≡◌, refl, sym, ap, ◌∙◌}
use mathlib.Core.Logic.{◌≢◌}
use mathlib.Core.Bool.{Bool, true, false, cond}
use mathlib.Core.List.{List, [], ◌∷◌, ◌++◌}
use Prim.Native.Nat.{ℕ, zero, suc, ◌<◌, ◌+◌}
use lib.ListN.{length, get_or}
use native.Mathlib.Decide.{ℕ_discrete}
use lib.Dec.{T, eqb, eqb→eq, eqb_refl}
use lib.IntN.{pos, negsuc}
pub use Rattle.stack_algebra.specs.Sums.{sum, sum_over, at}
use Rattle.stack_algebra.proofs.Ring.{Ring, add_left_comm, mul_add, add-zero}

module _ (R : Ring) where
  four_add : (a b c d : R.C) → R.add (R.add a b) (R.add c d) ≡ R.add (R.add a c) (R.add b d)
  four_add a b c d = R.add_assoc a b (R.add c d) ∙ ap (λ z. R.add a z) (add_left_comm R b c d)
      ∙ sym (R.add_assoc a c (R.add b d))

  pub sum_same : (n : ℕ) (f g : ℕ → R.C) → ((i : ℕ) → i < n → f i ≡ g i) → sum R n f ≡ sum R n g
  sum_same zero f g h = refl
  sum_same (suc n) f g h = λ i. R.add (sum_same n f g (λ k l. h k (omega arith)) i) (h n (omega arith) i)

  pub sum_zero : (n : ℕ) (f : ℕ → R.C) → ((i : ℕ) → i < n → f i ≡ R.of (pos 0)) → sum R n f ≡ R.of (pos 0)
  sum_zero zero f h = refl
  sum_zero (suc n) f h = (λ i. R.add (sum_zero n f (λ k l. h k (omega arith)) i) (h n (omega arith) i))
      ∙ R.zero_add (R.of (pos 0))

  pub sum_add : (n : ℕ) (f g : ℕ → R.C) → sum R n (λ i. R.add (f i) (g i)) ≡ R.add (sum R n f) (sum R n g)
  sum_add zero f g = sym (R.zero_add (R.of (pos 0)))
  sum_add (suc n) f g = ap (λ z. R.add z (R.add (f n) (g n))) (sum_add n f g)
      ∙ four_add (sum R n f) (sum R n g) (f n) (g n)

  pub sum_scale : (n : ℕ) (c : R.C) (f : ℕ → R.C) → sum R n (λ i. R.mul c (f i)) ≡ R.mul c (sum R n f)
  sum_scale zero c f = sym (R.mul_comm c (R.of (pos 0)) ∙ R.zero_mul c)
  sum_scale (suc n) c f = ap (λ z. R.add z (R.mul c (f n))) (sum_scale n c f)
      ∙ sym (mul_add R c (sum R n f) (f n))

  pub sum_swap : (n m : ℕ) (f : ℕ → ℕ → R.C) → sum R n (λ i. sum R m (λ j. f i j))
      ≡ sum R m (λ j. sum R n (λ i. f i j))
  sum_swap zero m f = sym (sum_zero m (λ j. R.of (pos 0)) (λ j l. refl))
  sum_swap (suc n) m f = ap (λ z. R.add z (sum R m (λ j. f n j))) (sum_swap n m f)
      ∙ sym (sum_add m (λ j. sum R n (λ i. f i j)) (λ j. f n j))

  -- a sum with one term that is not 0
  pub sum_one : (n k : ℕ) (f : ℕ → R.C) → k < n → ((i : ℕ) → i < n → i ≢ k → f i ≡ R.of (pos 0)) → sum R n f
      ≡ f k
  sum_one zero k f l h = absurd (omega arith)
  sum_one (suc n) k f l h = go (ℕ_discrete n k) (sum_one n k f)
    where
      go : Dec (n ≡ k) → (k < n → ((i : ℕ) → i < n → i ≢ k → f i ≡ R.of (pos 0)) → sum R n f ≡ f k) →
          sum R (suc n) f ≡ f k
      go (yes e) r = ap (λ z. R.add z (f n)) (sum_zero n f (λ i m. h i (omega arith) (λ p. omega arith)))
          ∙ R.zero_add (f n) ∙ ap f e
      go (no e) r = (λ i. R.add (r (omega arith) (λ j m d. h j (omega arith) d) i) (h n (omega arith) e i))
          ∙ add-zero R (f k)

  pub sum_neg : (n : ℕ) (f : ℕ → R.C) → sum R n (λ i. R.neg (f i)) ≡ R.neg (sum R n f)
  sum_neg n f = sum_same n (λ i. R.neg (f i)) (λ i. R.mul (R.of (negsuc 0)) (f i)) (λ i l. R.neg_is (f i))
      ∙ sum_scale n (R.of (negsuc 0)) f ∙ sym (R.neg_is (sum R n f))

  pub at-other : (k i : ℕ) (x : R.C) → i ≢ k → at R k x i ≡ R.of (pos 0)
  at-other k i x d = go (eqb i k) (eqb→eq i k)
    where
      go : (b : Bool) → (T b → i ≡ k) → cond b x (R.of (pos 0)) ≡ R.of (pos 0)
      go true e = absurd (d (e tt))
      go false e = refl

  pub at-same : (k : ℕ) (x : R.C) → at R k x k ≡ x
  at-same k x = go (eqb k k) (eqb_refl k)
    where
      go : (b : Bool) → T b → cond b x (R.of (pos 0)) ≡ x
      go true t = refl
      go false t = absurd t

  pub sum_at : (n k : ℕ) (x : R.C) → k < n → sum R n (at R k x) ≡ x
  sum_at n k x l = sum_one n k (at R k x) l (λ i m d. at-other k i x d) ∙ at-same k x

  -- a sum with its first term apart
  pub sum-first : (n : ℕ) (f : ℕ → R.C) → sum R (suc n) f ≡ R.add (f 0) (sum R n (λ i. f (suc i)))
  sum-first zero f = R.add_comm (R.of (pos 0)) (f 0)
  sum-first (suc n) f = ap (λ z. R.add z (f (suc n))) (sum-first n f)
      ∙ R.add_assoc (f 0) (sum R n (λ i. f (suc i))) (f (suc n))

  -- the first w terms, and the m after them
  pub sum_plus : (w m : ℕ) (f : ℕ → R.C) → sum R (w + m) f ≡ R.add (sum R w f) (sum R m (λ k. f (w + k)))
  sum_plus w zero f = let e : w + zero ≡ w = omega arith in
      ap (λ k. sum R k f) e ∙ sym (add-zero R (sum R w f))
  sum_plus w (suc m) f = let e : w + suc m ≡ suc (w + m) = omega arith in
      ap (λ k. sum R k f) e ∙ ap (λ z. R.add z (f (w + m))) (sum_plus w m f)
      ∙ R.add_assoc (sum R w f) (sum R m (λ k. f (w + k))) (f (w + m))

  -- a sum with its last term apart, as a loop adds it
  pub sum_more : (n : ℕ) (f : ℕ → R.C) → sum R (n + 1) f ≡ R.add (sum R n f) (f n)
  sum_more n f = ap (λ k. sum R k f) (add-one n)

  -- a list's sum, by its indices
  pub over-index : {X : Type 0} (f : X → R.C) (xs : List X) (d : X) → sum_over R f xs
      ≡ sum R (length xs) (λ i. f (get_or xs i d))
  over-index f [] d = refl
  over-index f (x ∷ xs) d = ap (R.add (f x)) (over-index f xs d)
      ∙ sym (sum-first (length xs) (λ i. f (get_or (x ∷ xs) i d)))

  pub over-append : {X : Type 0} (f : X → R.C) (xs ys : List X) → sum_over R f (xs ++ ys)
      ≡ R.add (sum_over R f xs) (sum_over R f ys)
  over-append f [] ys = sym (R.zero_add (sum_over R f ys))
  over-append f (x ∷ xs) ys = ap (R.add (f x)) (over-append f xs ys)
      ∙ sym (R.add_assoc (f x) (sum_over R f xs) (sum_over R f ys))
