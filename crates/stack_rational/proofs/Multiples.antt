-- The least common multiple of denominators, and the running multiple of a loop.
use Rattle.std.proofs.Common.{◌≡◌, sym, ap, subst, ◌∙◌, List, [], ◌∷◌, ◌++◌, ℕ, zero, suc, ◌+◌, ◌*◌, ◌/◌, ◌<◌, arith, ℤ}
use Rattle.std.proofs.Common.{pos, negsuc, nat_abs, ◌*ℤ◌, take, length, get_or}
use Rattle.stack_rational.proofs.Common.{◌∣◌, dvd_trans, mul-div_cancel', IsGcd, ints, ◌≼◌, ◌≺◌, gcd, Fraction, expand}
use Rattle.stack_rational.proofs.Common.{sums, of, mul-is, same_values, gcd-left, gcd-right, dvd-mul_left}
use Rattle.stack_rational.proofs.Common.{dvd-mul_right, one-dvd, take_more, of-is, is_self, gcd-is, gcd-pos}
use Rattle.stack_rational.proofs.Common.{common_multiple, times_scale}
use native.Mathlib.Nat.{dvd_antisymm, mul-dvd-mul_left, dvd_of_mul-dvd-mul_left}
use lib.Signed.{quot_z}
use Rattle.std.proofs.lemmas.Nat.Gcd.{same_from_IsGcd}
use Rattle.std.specs.List.{AllByRecursion}
use Rattle.stack_algebra.proofs.CommonDivisor.{gcd-scaled}
use Rattle.stack_rational.specs.CommonScale.{scale_of, ScaleIsLeastMultiple, TimesScaleIsWhole}

-- two numbers divide their common multiple
pub divides_left : (a b : ℕ) → a ∣ common_multiple a b
divides_left a b = subst (λ z. a ∣ z)
    (go (gcd a b) (a / gcd a b) (b / gcd a b) (mul-div_cancel' (gcd a b) (gcd-left a b))
    (mul-div_cancel' (gcd a b) (gcd-right a b))) (dvd-mul_right a (b / gcd a b))
  where
    go : (g p q : ℕ) → g * p ≡ a → g * q ≡ b → a * q ≡ p * b
    go g p q e f = omega (arith, ap (λ z. z * q) e, ap (λ z. p * z) f)

pub divides_right : (a b : ℕ) → b ∣ common_multiple a b
divides_right a b = dvd-mul_left b (a / gcd a b)

-- a common multiple divides each number that the two divide
pub divided : (a b n : ℕ) → 0 < b → a ∣ n → b ∣ n → common_multiple a b ∣ n
divided a b n h p q = dvd_of_mul-dvd-mul_left {k = gcd a b} (common_multiple a b) (gcd-pos a b h)
    (subst (λ z. z ∣ gcd a b * n) product
    (gcd-scaled a b n (a * b) (mul-dvd-mul_left b a q)
    (subst (λ z. z ∣ b * n) (turn b a) (mul-dvd-mul_left a b p))))
  where
    turn : (x y : ℕ) → x * y ≡ y * x
    turn x y = omega arith

    go : (g u : ℕ) → g * u ≡ a → a * b ≡ g * (u * b)
    go g u e = omega (arith, ap (λ z. z * b) e)

    product : a * b ≡ gcd a b * common_multiple a b
    product = go (gcd a b) (a / gcd a b) (mul-div_cancel' (gcd a b) (gcd-left a b))

pub positive : (a b : ℕ) → 0 < a → 0 < b → 0 < common_multiple a b
positive a b ha hb = some (a / gcd a b) (mul-div_cancel' (gcd a b) (gcd-left a b))
  where
    some : (u : ℕ) → gcd a b * u ≡ a → 0 < u * b
    some zero e = absurd (omega (arith, e, ha))
    some (suc u) e = omega (arith, hb)

-- the scale of a list is positive
pub scale_positive : (xs : List Fraction) → 0 < scale_of xs
unfolding scale_of
scale_positive [] = omega arith
scale_positive (x ∷ xs) = positive x.den (scale_of xs) x.positive (scale_positive xs)

each : (xs : List Fraction) (m n : ℕ) → m ∣ n → AllByRecursion (λ (x : Fraction). x.den ∣ m) xs →
    AllByRecursion (λ (x : Fraction). x.den ∣ n) xs
each [] m n h all = tt
each (x ∷ xs) m n h all = (dvd_trans x.den all.0 h, each xs m n h all.1)

common : (xs : List Fraction) → AllByRecursion (λ (x : Fraction). x.den ∣ scale_of xs) xs
unfolding scale_of
common [] = tt
common (x ∷ xs) = (
  divides_left x.den (scale_of xs),
  each xs (scale_of xs) (scale_of (x ∷ xs)) (divides_right x.den (scale_of xs)) (common xs),
)

least : (xs : List Fraction) (m : ℕ) → AllByRecursion (λ (x : Fraction). x.den ∣ m) xs → scale_of xs ∣ m
unfolding scale_of
least [] m all = one-dvd m
least (x ∷ xs) m all = divided x.den (scale_of xs) m (scale_positive xs) all.0 (least xs m all.1)

pub scale_is_least_multiple : ScaleIsLeastMultiple
scale_is_least_multiple xs = record { common = common xs; least = least xs }

-- what holds of each number of a list holds with one more
joined : (P : Fraction → Type 0) (xs : List Fraction) (y : Fraction) → AllByRecursion P xs → P y →
    AllByRecursion P (xs ++ y ∷ [])
joined P [] y all h = (h, tt)
joined P (x ∷ xs) y all h = (all.0, joined P xs y all.1 h)

parted : (P : Fraction → Type 0) (xs : List Fraction) (y : Fraction) → AllByRecursion P (xs ++ y ∷ []) →
    AllByRecursion P xs × P y
parted P [] y all = (tt, all.0)
parted P (x ∷ xs) y all = let r = parted P xs y all.1 in ((all.0, r.0), r.1)

scale_of-append : (xs : List Fraction) (y : Fraction) → scale_of (xs ++ y ∷ [])
    ≡ common_multiple (scale_of xs) y.den
scale_of-append xs y = dvd_antisymm
    (least (xs ++ y ∷ []) m (joined (λ (x : Fraction). x.den ∣ m) xs y
    (each xs (scale_of xs) m (divides_left (scale_of xs) y.den) (common xs))
    (divides_right (scale_of xs) y.den)))
    (let r = parted (λ (x : Fraction). x.den ∣ scale_of (xs ++ y ∷ [])) xs y (common (xs ++ y ∷ [])) in
    divided (scale_of xs) y.den (scale_of (xs ++ y ∷ [])) y.positive (least xs (scale_of (xs ++ y ∷ [])) r.0)
    r.1)
  where
    m : ℕ
    m = common_multiple (scale_of xs) y.den

pub scale_of-more : (xs : List Fraction) (i : ℕ) (d : Fraction) → i < length xs → scale_of (take (i + 1) xs)
    ≡ common_multiple (scale_of (take i xs)) (get_or xs i d).den
scale_of-more xs i d l = ap scale_of (take_more xs i d l) ∙ scale_of-append (take i xs) (get_or xs i d)

-- the quotient by the divisor, times the other number
joined-by : (a b g p : ℤ) → pos 0 ≺ a → pos 0 ≺ b → pos 0 ≼ g → IsGcd (nat_abs a) (nat_abs b) (nat_abs g) → p
    ≡ quot_z a g →
    p *ℤ b ≡ pos (common_multiple (nat_abs a) (nat_abs b))
joined-by (pos a) (pos b) (pos g) p ha hb hg is e =
    ap (λ z. z *ℤ pos b) e ∙ ap (λ (k : ℕ). pos (a / k * b)) (same_from_IsGcd a b g (gcd a b) is (gcd-is a b))
joined-by (pos a) (pos b) (negsuc g) p ha hb hg is e = absurd (omega (arith, ints, hg))
joined-by (pos a) (negsuc b) g p ha hb hg is e = absurd (omega (arith, ints, hb))
joined-by (negsuc a) b g p ha hb hg is e = absurd (omega (arith, ints, ha))

pub joined-is : (a b g p : ℤ) (d : ℕ) → pos 0 ≺ a → pos 0 ≺ b → pos 0 ≼ g →
    IsGcd (nat_abs a) (nat_abs b) (nat_abs g) → p ≡ quot_z a g →
    b ≡ pos d → p *ℤ b ≡ pos (common_multiple (nat_abs a) d)
joined-is a b g p d ha hb hg is e eb = joined-by a b g p ha hb hg is e
    ∙ ap (λ (z : ℤ). pos (common_multiple (nat_abs a) (nat_abs z))) eb

-- a number times a multiple of its denominator is whole
pub times_scale-is : TimesScaleIsWhole
times_scale-is m x d = same_values _ _ _ _ _ _ (mul-is (of (pos m)) x _ _ _ _ (of-is (pos m)) (is_self x))
    (of-is (times_scale m x))
    (crossed (pos m) x.num (pos x.den) (pos (m / x.den)) (ap pos (sym (mul-div_cancel' x.den d))))
  where
    crossed : (m n d e : ℤ) → m ≡ d *ℤ e → m *ℤ n *ℤ pos 1 ≡ n *ℤ e *ℤ (pos 1 *ℤ d)
    crossed m n d e p = ap (λ t. t *ℤ n *ℤ pos 1) p ∙ same d e n
      where
        same : (d e n : ℤ) → d *ℤ e *ℤ n *ℤ pos 1 ≡ n *ℤ e *ℤ (pos 1 *ℤ d)
        same d e n = simp expand (omega (arith, sums))

-- the numerator times the scale's part
pub scaled-is : (s a b p : ℤ) (x : Fraction) → pos 0 ≺ s → a ≡ x.num → b ≡ pos x.den → p ≡ quot_z s b →
    a *ℤ p ≡ times_scale (nat_abs s) x
scaled-is (pos s) a b p x h ea eb ep = λ i. ea i *ℤ (ep ∙ ap (quot_z (pos s)) eb) i
scaled-is (negsuc s) a b p x h ea eb ep = absurd (omega (arith, ints, h))
