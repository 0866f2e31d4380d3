-- The least column in which a row is negative.
use Rattle.std.proofs.Common.{◌≡◌, refl, sym, ap, ℕ, ◌<◌, ◌≤◌, Bool, true, false, None, Some}
use Rattle.std.proofs.Common.{arith, ℤ, pos, negsuc, ◌<ℤ◌}
use Rattle.stack_rational.proofs.Common.{ints, least, only_if, first_all-none, first_found, least-none, least-some}
use Rattle.stack_rational.proofs.Common.{sign_of}
use Rattle.stack_bland.specs.Choice.{is_negative_sign}

-- a negative number has the sign of one
pub negative_is : (x : ℤ) → x <ℤ pos 0 → is_negative_sign (sign_of x) ≡ true
negative_is (pos n) h = absurd (omega (arith, ints, h))
negative_is (negsuc n) h = refl

module _ (n : ℕ) (p : ℕ → Bool) where
  -- where none has a property, none is the least that has it
  pub least_none : ((k : ℕ) → k < n → p k ≡ false) → least n p ≡ None
  least_none h = first_all-none n _ (λ k l. ap (λ b. only_if b k) (h k l))

module _ (n : ℕ) (p : ℕ → Bool) (j : ℕ) where
  -- the one that has it, and none before it
  pub least_is : j < n → p j ≡ true → ((k : ℕ) → k < j → p k ≡ false) → least n p ≡ Some j
  least_is l t h = first_found n j _ j l (least_none j p h) (ap (λ b. only_if b j) t)

-- the least of fewer
module _ (n m : ℕ) (p : ℕ → Bool) (l : m ≤ n) where
  pub none_among : None ≡ least n p → None ≡ least m p
  none_among e = sym (least_none m p (λ k b. least-none n p (sym e) k (omega (arith, l, b))))

  pub some_among : (j : ℕ) → j < m → Some j ≡ least n p → Some j ≡ least m p
  some_among j b e = let s = least-some n p j (sym e) in sym (least_is m p j b s.has s.none_before)

  pub none_left : (j : ℕ) → m ≤ j → Some j ≡ least n p → None ≡ least m p
  none_left j b e =
      let s = least-some n p j (sym e) in
      sym (least_none m p (λ k q. s.none_before k (omega (arith, b, q))))
