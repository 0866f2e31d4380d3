-- Numbers over one denominator: what is written of two of them is no wider than these numbers.
use Rattle.std.proofs.Common.{arith, true, ◌≡◌, sym, ap, subst, ◌∙◌, ℕ, zero, suc, ◌*◌, ◌/◌, ◌<◌, ◌≤◌, ℤ, pos, negsuc}
use Rattle.std.proofs.Common.{nat_abs, neg_ℤ, ◌+ℤ◌, ◌*ℤ◌, le-leb, ◌≢◌}
use Rattle.stack_rational.proofs.Common.{◌∣◌, mul-div_cancel', ints, unsigned_abs-mul, gcd, Fraction, expand, sums, ◌≺◌}
use Rattle.stack_rational.proofs.Common.{mul_pos, gcd-left, gcd-right, add, add-is, mul, mul-is, neg, same_values, over}
use Rattle.stack_rational.proofs.Common.{over-is, fraction_fits, sum_fits, Within, sign_of, nought, ordered_fractions}
use Rattle.stack_rational.proofs.Common.{inv, dvd-mul_right, signed, neg_own, abs_signed, over-parts, common_multiple}
use Rattle.stack_rational.proofs.Common.{common_denominator, left_term, right_term, sign_is, and_true}
use Rattle.std.proofs.Math.Nat.{mul-div_cancel_left, div-le_self}
use Rattle.stack_algebra.specs.Fraction.{low_num, low_den}
use Rattle.stack_algebra.proofs.Integers.{neg_mul, add_mul}
use Rattle.stack_algebra.proofs.Fractions.{mul_assoc, one_mul}
use Rattle.stack_rational.proofs.Fitting.{fits-of, sign-not}
use Rattle.stack_rational.proofs.Multiples.{divided}

-- the reduced fraction is no greater than its parts
pub over_fits : (m z d : ℤ) → pos 0 ≺ d → Within m z → Within m d → fraction_fits m (over z d) ≡ true
over_fits m z d l hz hd = fits-of m (over z d) (record {
  num = omega (
    arith,
    ap nat_abs p.0,
    abs_signed z (nat_abs z / gcd (nat_abs z) (nat_abs d)),
    div-le_self (nat_abs z) (gcd (nat_abs z) (nat_abs d)),
    hz,
  );
  den = omega (arith, p.1, div-le_self (nat_abs d) (gcd (nat_abs z) (nat_abs d)), hd);
})
  where
    p : ((over z d).num ≡ low_num z (nat_abs d)) × ((over z d).den ≡ low_den z (nat_abs d))
    p = over-parts z d l

-- z over d is u times the parts of its fraction
pub record IsMultiple (x : Fraction) (z : ℤ) (d : ℕ) : Type 0 where
  pub by : ℕ
  pub num : z ≡ x.num *ℤ pos by
  pub den : d ≡ x.den * by

-- the sign of a product
signed_times : (z : ℤ) (a g : ℕ) → g * a ≡ nat_abs z → z ≡ signed z a *ℤ pos g
signed_times (pos n) a g h = ap pos (sym h ∙ turn g a)
  where
    turn : (a b : ℕ) → a * b ≡ b * a
    turn a b = omega arith
signed_times (negsuc n) a g h = ap neg_ℤ (ap pos (sym h ∙ turn g a)) ∙ sym (neg_mul (pos a) (pos g))
  where
    turn : (a b : ℕ) → a * b ≡ b * a
    turn a b = omega arith

-- a number over d in lowest terms, times a whole number
multiple : (z : ℤ) (d : ℕ) → 0 < d → IsMultiple (over z (pos d)) z d
multiple z d h = record {
  by = gcd (nat_abs z) d;
  num = signed_times z (nat_abs z / gcd (nat_abs z) d) (gcd (nat_abs z) d) (mul-div_cancel' _ (gcd-left (nat_abs z) d))
      ∙ ap (λ t. t *ℤ pos (gcd (nat_abs z) d)) (sym p.0);
  den = sym (mul-div_cancel' (gcd (nat_abs z) d) (gcd-right (nat_abs z) d))
      ∙ turn (gcd (nat_abs z) d) (d / gcd (nat_abs z) d)
      ∙ ap (λ t. t * gcd (nat_abs z) d) (sym p.1);
}
  where
    p : ((over z (pos d)).num ≡ low_num z d) × ((over z (pos d)).den ≡ low_den z d)
    p = over-parts z (pos d) (omega (arith, ints, h))

    turn : (a b : ℕ) → a * b ≡ b * a
    turn a b = omega arith

-- a number whose multiple is within m is within m
pub within_multiple : (m z w : ℤ) (s : ℕ) → 0 < s → w ≡ z *ℤ pos s → Within m w → Within m z
within_multiple m z w s h e k = grow (nat_abs z) s (nat_abs w) h (sym (ap nat_abs e ∙ unsigned_abs-mul z (pos s))) k
  where
    grow : (a s w : ℕ) → 0 < s → a * s ≡ w → w ≤ nat_abs m → a ≤ nat_abs m
    grow a zero w h e k = absurd (omega arith)
    grow a (suc s) w h e k = omega (arith, e, k)

-- x, and its parts times u, over one denominator with y: the terms over their least common denominator, times s
pub record Terms (x y : Fraction) (a b : ℤ) (d : ℕ) : Type 0 where
  pub by : ℕ
  pub some : 0 < by
  pub den : pos d ≡ common_denominator x y *ℤ pos by
  pub left : a ≡ left_term x y *ℤ pos by
  pub right : b ≡ right_term x y *ℤ pos by

-- one factor serves both parts
pub same_factor : (a u w : ℕ) → 0 < a → a * u ≡ a * w → u ≡ w
same_factor a u w h e = sym (mul-div_cancel_left u h) ∙ ap (λ t. t / a) e ∙ mul-div_cancel_left w h

-- of plain numbers: g times p, and g times q, are the denominators
is_left : (g p q u s d : ℕ) → d ≡ g * p * u → p * (g * q) * s ≡ d → 0 < g * p → u ≡ q * s
is_left g p q u s d eu es hx = same_factor (g * p) u (q * s) hx (sym eu ∙ sym es ∙ turn)
  where
    turn : p * (g * q) * s ≡ g * p * (q * s)
    turn = omega arith

-- the factor serves the numerator
is_right : (g p q v s d : ℕ) → d ≡ g * q * v → p * (g * q) * s ≡ d → 0 < g * q → v ≡ p * s
is_right g p q v s d ev es hy = same_factor (g * q) v (p * s) hy (sym ev ∙ sym es ∙ turn)
  where
    turn : p * (g * q) * s ≡ g * q * (p * s)
    turn = omega arith

-- it isn't 0
some_times : (k d t : ℕ) → k * t ≡ d → 0 < d → 0 < t
some_times k d zero e h = absurd (omega (arith, e, h))
some_times k d (suc t) e h = omega arith

-- the terms of a sum over the least common denominator
pub terms : (x y : Fraction) (a b : ℤ) (d : ℕ) → 0 < d → IsMultiple x a d → IsMultiple y b d → Terms x y a b d
terms x y a b d h mx my = record {
  by = s;
  some = some_times (p * (g * q)) d s es h;
  den = ap pos (sym es) ∙ ap (λ t. pos (p * t * s)) eq;
  left = mx.num ∙ ap (λ t. x.num *ℤ pos t) (is_left g p q mx.by s d eu es hx) ∙ split x.num q s;
  right = my.num ∙ ap (λ t. y.num *ℤ pos t) (is_right g p q my.by s d ev es hy) ∙ split y.num p s;
}
  where
    g : ℕ
    g = gcd x.den y.den

    p : ℕ
    p = x.den / gcd x.den y.den

    q : ℕ
    q = y.den / gcd x.den y.den

    ep : g * p ≡ x.den
    ep = mul-div_cancel' (gcd x.den y.den) (gcd-left x.den y.den)

    eq : g * q ≡ y.den
    eq = mul-div_cancel' (gcd x.den y.den) (gcd-right x.den y.den)

    common : common_multiple x.den y.den ∣ d
    common = divided x.den y.den d y.positive (subst (λ t. x.den ∣ t) (sym mx.den) (dvd-mul_right x.den mx.by))
        (subst (λ t. y.den ∣ t) (sym my.den) (dvd-mul_right y.den my.by))

    s : ℕ
    s = d / common_multiple x.den y.den

    es : p * (g * q) * s ≡ d
    es = ap (λ t. p * t * s) eq ∙ mul-div_cancel' (common_multiple x.den y.den) common

    eu : d ≡ g * p * mx.by
    eu = mx.den ∙ ap (λ t. t * mx.by) (sym ep)

    ev : d ≡ g * q * my.by
    ev = my.den ∙ ap (λ t. t * my.by) (sym eq)

    hx : 0 < g * p
    hx = subst (λ t. 0 < t) (sym ep) x.positive

    hy : 0 < g * q
    hy = subst (λ t. 0 < t) (sym eq) y.positive

    split : (z : ℤ) (b c : ℕ) → z *ℤ pos (b * c) ≡ z *ℤ pos b *ℤ pos c
    split z b c = simp expand (omega (arith, sums))

-- the sum of two fractions over one denominator isn't too wide where that denominator, both numbers and their sum fit
pub sum_fits_over : (m a b d : ℤ) → pos 0 ≺ d → Within m d → Within m a → Within m b → Within m (a +ℤ b) →
    sum_fits m (over a d) (over b d) ≡ true
sum_fits_over m a b (pos d) h wd wa wb ws = and_true _ _ (and_true _ _ (and_true _ _ (le-leb _ (nat_abs m) fd)
    (le-leb _ (nat_abs m) fl)) (le-leb _ (nat_abs m) fr)) (le-leb _ (nat_abs m) ft)
  where
    hd : 0 < d
    hd = omega (arith, ints, h)

    t : Terms (over a (pos d)) (over b (pos d)) a b d
    t = terms (over a (pos d)) (over b (pos d)) a b d hd (multiple a d hd) (multiple b d hd)

    fd : Within m (common_denominator (over a (pos d)) (over b (pos d)))
    fd = within_multiple m (common_denominator (over a (pos d)) (over b (pos d))) (pos d) t.by t.some t.den wd

    fl : Within m (left_term (over a (pos d)) (over b (pos d)))
    fl = within_multiple m (left_term (over a (pos d)) (over b (pos d))) a t.by t.some t.left wa

    fr : Within m (right_term (over a (pos d)) (over b (pos d)))
    fr = within_multiple m (right_term (over a (pos d)) (over b (pos d))) b t.by t.some t.right wb

    ft : Within m (left_term (over a (pos d)) (over b (pos d)) +ℤ right_term (over a (pos d)) (over b (pos d)))
    ft = within_multiple m (left_term (over a (pos d)) (over b (pos d)) +ℤ right_term (over a (pos d)) (over b (pos d)))
        (a +ℤ b) t.by t.some ((λ i. t.left i +ℤ t.right i)
        ∙ sym (add_mul (left_term (over a (pos d)) (over b (pos d))) (right_term (over a (pos d)) (over b (pos d)))
        (pos t.by))) ws
sum_fits_over m a b (negsuc d) h wd wa wb ws = absurd (omega (arith, ints, h))

-- values
pub same_over : (n d p q : ℤ) → pos 0 ≺ d → pos 0 ≺ q → n *ℤ q ≡ p *ℤ d → over n d ≡ over p q
same_over n d p q h k e = same_values _ _ n d p q (over-is n d h) (over-is p q k) e

-- the opposite
pub neg_over : (n d : ℤ) → pos 0 ≺ d → neg (over n d) ≡ over (neg_ℤ n) d
neg_over n d h = same_values _ _ _ _ _ _ (neg_own (over n d)) (over-is (neg_ℤ n) d h)
    (neg_mul _ d ∙ ap neg_ℤ (over-is n d h).cross ∙ sym (neg_mul n _))

-- a sum over one denominator
pub add_over : (a b d : ℤ) → pos 0 ≺ d → add (over a d) (over b d) ≡ over (a +ℤ b) d
add_over a b d h = same_values _ _ _ _ _ _ (add-is _ _ a d b d (over-is a d h) (over-is b d h)) (over-is (a +ℤ b) d h)
    (cross a b d)
  where
    cross : (a b d : ℤ) → (a *ℤ d +ℤ b *ℤ d) *ℤ d ≡ (a +ℤ b) *ℤ (d *ℤ d)
    cross a b d = simp expand (omega (arith, sums))

-- f over d times r over e, where f times k is t times e
pub mul_over : (f d r e k t : ℤ) → pos 0 ≺ d → pos 0 ≺ e → pos 0 ≺ k → f *ℤ k ≡ t *ℤ e →
    mul (over f d) (over r e) ≡ over (t *ℤ r) (d *ℤ k)
mul_over f d r e k t hd he hk c = same_values _ _ _ _ _ _ (mul-is _ _ f d r e (over-is f d hd) (over-is r e he))
    (over-is (t *ℤ r) (d *ℤ k) (mul_pos d k hd hk)) (left f d r k ∙ ap (λ z. z *ℤ (r *ℤ d)) c ∙ right t e r d)
  where
    left : (f d r k : ℤ) → f *ℤ r *ℤ (d *ℤ k) ≡ f *ℤ k *ℤ (r *ℤ d)
    left f d r k = simp expand (omega (arith, sums))

    right : (t e r d : ℤ) → t *ℤ e *ℤ (r *ℤ d) ≡ t *ℤ r *ℤ (d *ℤ e)
    right t e r d = simp expand (omega (arith, sums))

-- the quotient of n over d by p over d is a over b, where p times a is n times b
pub quotient_over : (n p d a b : ℤ) → pos 0 ≺ d → pos 0 ≺ b → p ≢ pos 0 → a *ℤ p ≡ n *ℤ b →
    mul (inv (over p d)) (over n d) ≡ over a b
quotient_over n p d a b hd hb hp e = ap (mul (inv (over p d))) back
    ∙ sym (mul_assoc (inv (over p d)) (over p d) (over a b))
    ∙ ap (λ z. mul z (over a b)) (ordered_fractions.inv-mul (over p d) some) ∙ one_mul (over a b)
  where
    some : sign_of (over p d).num ≢ nought
    some = subst (λ s. s ≢ nought) (sym (sign_is (over p d) p d (over-is p d hd))) (sign-not p hp)

    cross : (n p d a b : ℤ) → a *ℤ p ≡ n *ℤ b → n *ℤ (d *ℤ b) ≡ p *ℤ a *ℤ d
    cross n p d a b e = simp expand (omega (arith, sums, simp expand at (ap (λ z. z *ℤ d) e)))

    back : over n d ≡ mul (over p d) (over a b)
    back = same_values _ _ _ _ _ _ (over-is n d hd) (mul-is _ _ p d a b (over-is p d hd) (over-is a b hb))
        (cross n p d a b e)
