-- A product from parts that are divided crosswise first.
use Rattle.std.proofs.Common.{◌≡◌, sym, ap, subst, subst₂, ◌∙◌, ℕ, zero, suc, ◌<◌, ◌/◌, ◌*◌, mul-zero, arith, ℤ, pos}
use Rattle.std.proofs.Common.{negsuc, nat_abs, neg_ℤ, ◌*ℤ◌, ◌≤ℤ◌}
use Rattle.stack_rational.proofs.Common.{◌∣◌, mul-div_cancel', dvd_trans, IsGcd, ints, unsigned_abs-mul, expand, sums}
use Rattle.stack_rational.proofs.Common.{◌≺◌, mul_pos, gcd, Fraction, gcd-left, gcd-right, mul, mul-is, same_values}
use Rattle.stack_rational.proofs.Common.{over, over-is, IsStored, Within, dvd-mul_left, dvd-one, gcd-is, gcd-pos}
use Rattle.stack_rational.proofs.Common.{gcd-product, gcd-swap, dvd-gcd, over-lowest, IsLowest, IsShared}
use native.Mathlib.Nat.{pos_of_dvd_of_pos}
use lib.Signed.{quot_z}
use Rattle.std.proofs.lemmas.Nat.Gcd.{same_from_IsGcd}
use Rattle.stack_algebra.proofs.Integers.{mul_neg}
use Rattle.stack_algebra.proofs.CommonDivisor.{gcd-quotients}
use Rattle.stack_rational.specs.Stored.{Fits, IsInParts}
use Rattle.stack_rational.proofs.Steps.{div-abs}

pub exact-part : (z : ℤ) (g : ℕ) → g ∣ nat_abs z → pos g *ℤ quot_z z (pos g) ≡ z
exact-part (pos n) g h = ap pos (mul-div_cancel' g h)
exact-part (negsuc n) g h = mul_neg (pos g) (pos (suc n / g))
    ∙ ap (λ (k : ℕ). neg_ℤ (pos k)) (mul-div_cancel' g h)

pub positive-part : (z : ℤ) (g : ℕ) → pos 0 ≺ z → g ∣ nat_abs z → pos 0 ≺ quot_z z (pos g)
positive-part (pos n) g p h = go (n / g) (mul-div_cancel' g h)
  where
    go : (k : ℕ) → g * k ≡ n → pos 0 ≺ pos k
    go zero e = absurd (omega (arith, ints, p, sym (mul-zero g) ∙ e))
    go (suc k) e = omega (arith, ints)
positive-part (negsuc n) g p h = absurd (omega (arith, ints, p))

-- parts of numbers with no common divisor have none
pub coprime-parts : (a b c d : ℕ) → c ∣ a → d ∣ b → gcd a b ≡ 1 → gcd c d ≡ 1
coprime-parts a b c d h k e = dvd-one.0
    (subst (λ x. gcd c d ∣ x) e (dvd-gcd a b (gcd c d) (dvd_trans (gcd c d) (gcd-left c d) h)
    (dvd_trans (gcd c d) (gcd-right c d) k)))

part-divides : (a g : ℕ) → g ∣ a → a / g ∣ a
part-divides a g h = subst (λ x. a / g ∣ x) (mul-div_cancel' g h) (dvd-mul_left (a / g) g)

pub quotients : (a d g : ℕ) → 0 < d → IsGcd a d g → gcd (a / g) (d / g) ≡ 1
quotients a d g h is = let e = same_from_IsGcd a d (gcd a d) g (gcd-is a d) is in
    ap (λ k. gcd (a / k) (d / k)) (sym e) ∙ gcd-quotients a d (gcd-pos a d h)

four : (a b c d : ℕ) → gcd a b ≡ 1 → gcd a d ≡ 1 → gcd c b ≡ 1 → gcd c d ≡ 1 → gcd (a * c) (b * d) ≡ 1
four a b c d p q r s = gcd-swap (a * c) (b * d) ∙ gcd-product b d (a * c)
    (gcd-swap b (a * c) ∙ gcd-product a c b p r)
    (gcd-swap d (a * c) ∙ gcd-product a c d q s)

crosswise : (a b c d g h a' b' c' d' : ℤ) → g *ℤ a' ≡ a → h *ℤ b' ≡ b → h *ℤ c' ≡ c → g *ℤ d' ≡ d →
    (a' *ℤ c') *ℤ (b *ℤ d) ≡ (a *ℤ c) *ℤ (b' *ℤ d')
crosswise a b c d g h a' b' c' d' p q r s = (λ i. (a' *ℤ c') *ℤ (sym q i *ℤ sym s i)) ∙ move
    ∙ (λ i. (p i *ℤ r i) *ℤ (b' *ℤ d'))
  where
    move : (a' *ℤ c') *ℤ ((h *ℤ b') *ℤ (g *ℤ d')) ≡ ((g *ℤ a') *ℤ (h *ℤ c')) *ℤ (b' *ℤ d')
    move = simp expand (omega (arith, sums))

pub parts_of : (x : Fraction) (N D : ℤ) → IsLowest N D → over N D ≡ x → IsInParts x N D
parts_of x N D low value = record {
  lowest = low;
  value = value;
  num = ap (λ (x : Fraction). x.num) (sym value) ∙ (over-lowest N D low).0;
  den = ap (λ (x : Fraction). pos x.den) (sym value) ∙ (over-lowest N D low).1;
}

product_of : (a b c d : ℤ) (g h : ℕ) → IsLowest a b → IsLowest c d → IsGcd (nat_abs a) (nat_abs d) g →
    IsGcd (nat_abs c) (nat_abs b) h →
    IsInParts (mul (over a b) (over c d)) (quot_z a (pos g) *ℤ quot_z c (pos h))
    (quot_z b (pos h) *ℤ quot_z d (pos g))
product_of a b c d g h s t is js = parts_of (mul (over a b) (over c d)) N D low value
  where
    N : ℤ
    N = quot_z a (pos g) *ℤ quot_z c (pos h)

    D : ℤ
    D = quot_z b (pos h) *ℤ quot_z d (pos g)

    some : (z : ℤ) → pos 0 ≺ z → 0 < nat_abs z
    some z p = omega (arith, ints, p)

    positive : pos 0 ≺ D
    positive = mul_pos _ _ (positive-part b h s.positive js.1) (positive-part d g t.positive is.1)

    abs-N : nat_abs N ≡ (nat_abs a / g) * (nat_abs c / h)
    abs-N = unsigned_abs-mul (quot_z a (pos g)) (quot_z c (pos h))
        ∙ (λ i. div-abs a (pos g) i * div-abs c (pos h) i)

    abs-D : nat_abs D ≡ (nat_abs b / h) * (nat_abs d / g)
    abs-D = unsigned_abs-mul (quot_z b (pos h)) (quot_z d (pos g))
        ∙ (λ i. div-abs b (pos h) i * div-abs d (pos g) i)

    low : IsLowest N D
    low = record {
      positive = positive;
      lowest = (λ i. gcd (abs-N i) (abs-D i))
          ∙ four (nat_abs a / g) (nat_abs b / h) (nat_abs c / h) (nat_abs d / g)
          (coprime-parts (nat_abs a) (nat_abs b) _ _ (part-divides (nat_abs a) g is.0)
          (part-divides (nat_abs b) h js.1) s.lowest)
          (quotients (nat_abs a) (nat_abs d) g (some d t.positive) is)
          (quotients (nat_abs c) (nat_abs b) h (some b s.positive) js)
          (coprime-parts (nat_abs c) (nat_abs d) _ _ (part-divides (nat_abs c) h js.0)
          (part-divides (nat_abs d) g is.1) t.lowest);
    }

    value : over N D ≡ mul (over a b) (over c d)
    value = same_values _ _ N D (a *ℤ c) (b *ℤ d) (over-is N D positive)
        (mul-is _ _ _ _ _ _ (over-is a b s.positive) (over-is c d t.positive))
        (crosswise a b c d (pos g) (pos h) _ _ _ _ (exact-part a g is.0) (exact-part b h js.1)
        (exact-part c h js.0) (exact-part d g is.1))

product_by : (a b c d g h : ℤ) → pos 0 ≤ℤ g → pos 0 ≤ℤ h → IsLowest a b → IsLowest c d →
    IsGcd (nat_abs a) (nat_abs d) (nat_abs g) → IsGcd (nat_abs c) (nat_abs b) (nat_abs h) →
    IsInParts (mul (over a b) (over c d)) (quot_z a g *ℤ quot_z c h) (quot_z b h *ℤ quot_z d g)
product_by a b c d (pos g) (pos h) p q s t is js = product_of a b c d g h s t is js
product_by a b c d (negsuc g) h p q s t is js = absurd (omega (arith, ints, p))
product_by a b c d (pos g) (negsuc h) p q s t is js = absurd (omega (arith, ints, q))

pub product : {m a b c d g h p q r s : ℤ} {x y : Fraction} → IsStored m a b → IsStored m c d → over a b ≡ x →
    over c d ≡ y → IsShared m a d g p s → IsShared m c b h q r → IsInParts (mul x y) (p *ℤ q) (r *ℤ s)
product {m} {a} {b} {c} {d} {g} {h} {p} {q} {r} {s} {x} {y} u v k l t w = subst₂
    (λ x y. IsInParts (mul x y) (p *ℤ q) (r *ℤ s)) k l
    (subst₂ (IsInParts (mul (over a b) (over c d))) (λ i. sym t.left i *ℤ sym w.left i)
    (λ i. sym w.right i *ℤ sym t.right i)
    (product_by a b c d g h (omega (arith, ints, t.positive)) (omega (arith, ints, w.positive)) u.lowest v.lowest
    t.gcd w.gcd))

-- what is stored where the parts fit, and what does not fit where one of them does not
pub parts-stored : {m n d N D : ℤ} {x : Fraction} → IsInParts x N D → Within m N × (n ≡ N) → Within m D
    × (d ≡ D) → IsStored m n d
parts-stored {m} {n} {d} {N} {D} {x} p u v = subst₂ (IsStored m) (sym u.1) (sym v.1)
    record { lowest = p.lowest; num = u.0; den = v.0 }

pub parts-value : (m : ℤ) {n d N D : ℤ} {x : Fraction} → IsInParts x N D → Within m N × (n ≡ N) → Within m D × (d ≡ D) →
    over n d ≡ x
parts-value m {n} {d} {N} {D} {x} p u v = (λ i. over (u.1 i) (v.1 i)) ∙ p.value

pub parts-fit : {m n d N D : ℤ} {x : Fraction} → IsInParts x N D → Within m N × (n ≡ N) → Within m D × (d ≡ D) →
    Fits m x
parts-fit {m} {n} {d} {N} {D} {x} p u v = record {
  num = omega (arith, u.0, ap nat_abs p.num);
  den = omega
      (arith, v.0, ap nat_abs p.den);
}

pub num-too_wide : {m N D : ℤ} {x : Fraction} → IsInParts x N D → ¬ (Within m N) → ¬ (Fits m x)
num-too_wide {m} {N} {D} {x} p h f = h (omega (arith, f.num, ap nat_abs p.num))

pub den-too_wide : {m N D : ℤ} {x : Fraction} → IsInParts x N D → ¬ (Within m D) → ¬ (Fits m x)
den-too_wide {m} {N} {D} {x} p h f = h (omega (arith, f.den, ap nat_abs p.den))

-- a divisor of a positive number is positive
pub positive-divisor : (a d g : ℤ) → pos 0 ≤ℤ g → pos 0 ≺ d → IsGcd (nat_abs a) (nat_abs d) (nat_abs g) →
    pos 0 ≺ g
positive-divisor a (pos d) (pos g) p q is = let k = pos_of_dvd_of_pos is.1 (omega (arith, ints, q)) in
    omega (arith, ints, k)
positive-divisor a (negsuc d) (pos g) p q is = absurd (omega (arith, ints, q))
positive-divisor a d (negsuc g) p q is = absurd (omega (arith, ints, p))

-- the parts of what is stored
pub stored-num : (m a b : ℤ) (x : Fraction) → IsStored m a b → over a b ≡ x → a ≡ x.num
stored-num m a b x s e = sym (over-lowest a b s.lowest).0 ∙ ap (λ (z : Fraction). z.num) e

pub stored-den : (m a b : ℤ) (x : Fraction) → IsStored m a b → over a b ≡ x → b ≡ pos x.den
stored-den m a b x s e = sym (over-lowest a b s.lowest).1 ∙ ap (λ (z : Fraction). pos z.den) e

pub stored-fits : (m a b : ℤ) (x : Fraction) → IsStored m a b → over a b ≡ x → Fits m x
stored-fits m a b x s e = record {
  num = omega
      (arith, s.num, ap nat_abs (stored-num m a b x s e));
  den = omega
      (arith, s.den, ap nat_abs (stored-den m a b x s e));
}

-- the size of what is told to be within m
pub told : (m z n : ℤ) → Within m z × (n ≡ z) → Within m n
told m z n h = subst (Within m) (sym h.1) h.0
