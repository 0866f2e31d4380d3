-- The sign of what is stored.
use Rattle.std.proofs.Common.{arith, Bool, true, false, int_lt, IsTrue, ◌↔◌, ◌≡◌, refl, sym, ap, ◌∙◌, zero, suc, ℤ, pos}
use Rattle.std.proofs.Common.{negsuc}
use Rattle.stack_rational.proofs.Common.{ints, Fraction, ◌≼◌, ◌≺◌, over, IsStored, is_zero_whole}
use Rattle.stack_algebra.specs.IntegerOrder.{signum}
use Rattle.stack_rational.proofs.Crosswise.{stored-num}
use Rattle.stack_rational.proofs.ByWholeParts.{yes-less, no-less}

is_zero-whole : (z : ℤ) (t : Bool) → IsTrue t ↔ (z ≡ pos 0) → t ≡ is_zero_whole z
is_zero-whole (pos zero) t h = h.1 refl
is_zero-whole (pos (suc n)) true h = absurd (omega (arith, ints, h.0 refl))
is_zero-whole (pos (suc n)) false h = refl
is_zero-whole (negsuc n) true h = absurd (omega (arith, ints, h.0 refl))
is_zero-whole (negsuc n) false h = refl

pub is_zero-stored : (m a b : ℤ) (x : Fraction) (t : Bool) → IsStored m a b → over a b ≡ x →
    IsTrue t ↔ (a ≡ pos 0) → t ≡ is_zero_whole x.num
is_zero-stored m a b x t s e h = is_zero-whole a t h ∙ ap is_zero_whole (stored-num m a b x s e)

pub sign-zero : (m a b : ℤ) (x : Fraction) (t : Bool) → IsStored m a b → over a b ≡ x →
    IsTrue t ↔ (a ≡ pos 0) → t ≡ true → pos 0 ≡ signum x.num
sign-zero m a b x t s e h on = ap signum (sym (h.0 on)) ∙ ap signum (stored-num m a b x s e)

pub sign-below : (m a b : ℤ) (x : Fraction) (t : Bool) → IsStored m a b → over a b ≡ x → t
    ≡ int_lt a (pos 0) → t ≡ true → negsuc 0 ≡ signum x.num
sign-below m a b x t s e et on = below a (yes-less a (pos 0) t et on)
    ∙ ap signum (stored-num m a b x s e)
  where
    below : (a : ℤ) → a ≺ pos 0 → negsuc 0 ≡ signum a
    below (pos a) h = absurd (omega (arith, ints))
    below (negsuc a) h = refl

pub sign-above : (m a b : ℤ) (x : Fraction) (t u : Bool) → IsStored m a b → over a b ≡ x →
    IsTrue u ↔ (a ≡ pos 0) → u ≡ false → t ≡ int_lt a (pos 0) → t ≡ false → pos 1 ≡ signum x.num
sign-above m a b x t u s e h other et off = above a (no-less a (pos 0) t et off) (λ z. let k = h.1 z in cc)
    ∙ ap signum (stored-num m a b x s e)
  where
    above : (a : ℤ) → pos 0 ≼ a → ¬ (a ≡ pos 0) → pos 1 ≡ signum a
    above (pos zero) h n = absurd (n refl)
    above (pos (suc a)) h n = refl
    above (negsuc a) h n = absurd (omega (arith, ints))
