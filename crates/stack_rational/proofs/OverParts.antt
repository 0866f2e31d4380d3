-- The quotient of two numbers that fit is the first over the second in lowest terms, and fits.
use Rattle.std.proofs.Common.{◌≡◌, sym, ap, subst, ◌∙◌, ℕ, ◌<◌, ◌/◌, ◌≢◌, ◌*ℤ◌, false, true, not, arith, to_z, of_z}
use Rattle.std.proofs.Common.{to_z-of_z, ℤ, pos, negsuc, nat_abs, le-leb}
use Rattle.stack_rational.proofs.Common.{w128, ints, ◌≺◌, Fraction, gcd, expand, sums, of, mul, mul-is, same_values}
use Rattle.stack_rational.proofs.Common.{inv, over, over-is, widest, fraction_fits, is_too_wide, signed, of-is}
use Rattle.stack_rational.proofs.Common.{abs_signed, over-parts, signed-keeps}
use Rattle.std.proofs.Math.Nat.{div-le_self}
use Rattle.stack_algebra.specs.Fraction.{IsOver}
use Rattle.stack_algebra.proofs.FractionField.{inv-is}
use Rattle.stack_whole.specs.Whole.{IsFitting}
use Rattle.stack_rational.specs.declared.exact.Op.TheVariants.{Whole, Quotient}
use Rattle.stack_rational.proofs.Fitting.{fits-of}
use Rattle.stack_rational.proofs.WideWholes.{num_of, den_of}

-- a number that fits is never too wide
whole_fits : (n : ℤ) → IsFitting n → is_too_wide widest Whole (of n) (of n) ≡ false
whole_fits n h = ap not (le-leb _ _ (omega (arith, ap nat_abs (num_of n), h)))

inverse : (d : ℕ) → 0 < d → IsOver (inv (of (pos d))) (pos 1) (pos d)
inverse d h = subst (λ (p : ℤ × ℤ). IsOver (inv (of (pos d))) p.0 p.1) same
    (inv-is (of (pos d)) (omega (arith, ap nat_abs (num_of (pos d)), h)))
  where
    same : ◌≡◌ {A = ℤ × ℤ} (signed (of (pos d)).num (of (pos d)).den, pos (nat_abs (of (pos d)).num))
        (pos 1, pos d)
    same = λ i. (signed (num_of (pos d) i) (den_of (pos d) i), pos (nat_abs (num_of (pos d) i)))

quotient_is : (n d : ℤ) → pos 0 ≺ d → mul (inv (of d)) (of n) ≡ over n d
quotient_is n (pos d) h = same_values _ _ _ _ _ _
    (mul-is _ _ _ _ _ _ (inverse d (omega (arith, ints, h))) (of-is n)) (over-is n (pos d) h) (cross n (pos d))
  where
    cross : (n d : ℤ) → pos 1 *ℤ n *ℤ d ≡ n *ℤ (d *ℤ pos 1)
    cross n d = simp expand (omega (arith, sums))
quotient_is n (negsuc d) h = absurd (omega (arith, ints, h))

over_fits : (n d : ℤ) → pos 0 ≺ d → IsFitting n → IsFitting d → fraction_fits widest (over n d) ≡ true
over_fits n d l p q = let o = over-parts n d l in fits-of widest (over n d) (record {
  num = omega (
    arith,
    ap nat_abs o.0,
    abs_signed n (nat_abs n / gcd (nat_abs n) (nat_abs d)),
    div-le_self (nat_abs n) (gcd (nat_abs n) (nat_abs d)),
    p,
  );
  den = omega (arith, o.1, div-le_self (nat_abs d) (gcd (nat_abs n) (nat_abs d)), q);
})

-- what fits is held as it is
pub is_held : (n : ℤ) → IsFitting n → to_z w128 (of_z w128 n) ≡ n
is_held n h = to_z-of_z (signed-keeps w128 n (omega (arith, h)))

pub never_too_wide : (n : ℤ) → IsFitting n →
    is_too_wide widest Whole (of (to_z w128 (of_z w128 n))) (of (to_z w128 (of_z w128 n))) ≡ true → ⊥
never_too_wide n h e =
    let b : true ≡ false = sym e
    ∙ subst (λ z. is_too_wide widest Whole (of z) (of z) ≡ false) (sym (is_held n h)) (whole_fits n h) in
    absurd cc

-- a positive divisor, as a call has it, is not 0
pub divisor_some : (d : ℤ) (y : Fraction) → y ≡ of d → pos 0 ≺ d → y.num ≢ pos 0
divisor_some d y e l z = absurd (omega (arith, ints, l, sym (num_of d) ∙ ap (λ (x : Fraction). x.num) (sym e) ∙ z))

module _ (n d : ℤ) (x y : Fraction) (e : x ≡ of n) (g : y ≡ of d) (l : pos 0 ≺ d) where
  pub quotient_of : mul (inv y) x ≡ over n d
  quotient_of = (λ i. mul (inv (g i)) (e i)) ∙ quotient_is n d l

  pub quotient_never_too_wide : IsFitting n → IsFitting d → is_too_wide widest Quotient x y ≡ true → ⊥
  quotient_never_too_wide p q h = let b : true ≡ false = sym h ∙ ap not (ap (fraction_fits widest) quotient_of
      ∙ over_fits n d l p q) in absurd cc
