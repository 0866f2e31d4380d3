-- A loop that joins one denominator after the other.
use Rattle.std.proofs.Common.{arith, to_z, of_z, to_z-of_z, ◌≡◌, refl, sym, ap, subst, ◌∙◌, List, ℕ, ◌+◌, ◌<◌, ◌≤◌}
use Rattle.std.proofs.Common.{take, length, get_or, ℤ, pos, nat_abs}
use Rattle.stack_rational.proofs.Common.{ℕ_discrete, w128, ints, ◌≺◌, Fraction, Within, widest, signed-keeps}
use Rattle.stack_rational.proofs.Common.{common_multiple}
use Rattle.stack_whole.specs.Whole.{greatest_number}
use Rattle.stack_rational.specs.CommonScale.{scale_of, IsFirstTooWide}
use Rattle.stack_rational.proofs.Multiples.{scale_of-more, scale_positive}

-- s is the scale of the first i items, and none before was too wide
pub record IsRunning (xs : List Fraction) (i : ℕ) (s : ℤ) : Type 0 where
  pub is : s ≡ pos (scale_of (take i xs))
  pub fits : (k : ℕ) → k ≤ i → scale_of (take k xs) ≤ greatest_number

pub running_first : (xs : List Fraction) → IsRunning xs 0 (pos 1)
unfolding scale_of
running_first xs = record { is = refl; fits = λ k l. first k (omega (arith, l)) }
  where
    first : (k : ℕ) → k ≡ 0 → scale_of (take k xs) ≤ greatest_number
    first k e = subst (λ j. scale_of (take j xs) ≤ greatest_number) (sym e) (omega arith)

pub running_within : (xs : List Fraction) (i : ℕ) (s : ℤ) → IsRunning xs i s → Within widest s × (pos 0 ≺ s)
running_within xs i s r = (
  omega (arith, ap nat_abs r.is, r.fits i (omega arith)),
  omega (arith, ints, r.is, scale_positive (take i xs)),
)

-- the multiple that is made next
next_is : (xs : List Fraction) (i : ℕ) (d : Fraction) (s : ℤ) → i < length xs → d ≡ get_or xs i d →
    IsRunning xs i s →
    common_multiple (nat_abs s) d.den ≡ scale_of (take (i + 1) xs)
next_is xs i d s l is r = ap (λ (z : ℤ). common_multiple (nat_abs z) d.den) r.is
    ∙ ap (λ (x : Fraction). common_multiple (scale_of (take i xs)) x.den) is ∙ sym (scale_of-more xs i d l)

pub running_more : (xs : List Fraction) (i : ℕ) (d : Fraction) (s n : ℤ) → i < length xs → d ≡ get_or xs i d →
    IsRunning xs i s →
    Within widest (pos (common_multiple (nat_abs s) d.den)) → n ≡ pos (common_multiple (nat_abs s) d.den) →
    IsRunning xs (i + 1) n
running_more xs i d s n l is r w en = record {
  is = en ∙ ap pos (next_is xs i d s l is r);
  fits = λ k m. go k m (ℕ_discrete k (i + 1));
}
  where
    go : (k : ℕ) → k ≤ i + 1 → Dec (k ≡ i + 1) → scale_of (take k xs) ≤ greatest_number
    go k m (yes q) = subst (λ j. scale_of (take j xs) ≤ greatest_number) (sym q)
        (omega (arith, w, next_is xs i d s l is r))
    go k m (no q) = r.fits k (omega (arith, m, q))

pub running_out : (xs : List Fraction) (i : ℕ) (d : Fraction) (s : ℤ) → i < length xs → d ≡ get_or xs i d →
    IsRunning xs i s →
    ¬ (Within widest (pos (common_multiple (nat_abs s) d.den))) → IsFirstTooWide xs i
running_out xs i d s l is r w = record {
  below = l;
  is_too_wide = omega (arith, w, next_is xs i d s l is r);
  fits_before = r.fits;
}

-- what fits is held as it is
pub held : (z n : ℤ) → Within widest z → n ≡ z → to_z w128 (of_z w128 n) ≡ z
held z n w e = to_z-of_z (signed-keeps w128 n (omega (arith, w, ap nat_abs e))) ∙ e
