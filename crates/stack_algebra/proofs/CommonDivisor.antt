-- Laws of the greatest common divisor.
use mathlib.Core.Path.{◌≡◌, sym, ap, subst, ◌∙◌}
use Prim.Native.Nat.{ℕ, zero, suc, ◌+◌, ◌*◌, ◌/◌, ◌%◌, ◌<◌, ◌∣◌}
use native.Mathlib.Nat.{dvd_refl, dvd-zero, dvd-mod_iff, dvd-add_iff_right, dvd-mul_right_of_dvd, mod-add-div}
use native.Mathlib.Nat.{mul-one, one-mul, dvd-one, mul-div_cancel', mul-dvd-mul_left, dvd_of_mul-dvd-mul_left}
use native.Mathlib.Nat.{pos_of_dvd_of_pos, dvd_trans, dvd_antisymm}
use native.Mathlib.Omega.{arith}
use Rattle.std.specs.Int.{IsGcd}
use Rattle.stack_algebra.specs.Gcd.{gcd, gcd_within}

within-dvd : (k a b : ℕ) → b < k → (gcd_within k a b ∣ a) × (gcd_within k a b ∣ b)
within-dvd zero a b h = absurd (omega arith)
within-dvd (suc k) a zero h = (dvd_refl a, dvd-zero a)
within-dvd (suc k) a (suc b) h = let r = within-dvd k (suc b) (a % suc b) (omega arith) in
    ((dvd-mod_iff _ r.0).0 r.1, r.0)

-- what divides a * c and b * c divides their divisor times c
within-scaled : (k a b c d : ℕ) → b < k → d ∣ a * c → d ∣ b * c → d ∣ gcd_within k a b * c
within-scaled zero a b c d h p q = absurd (omega arith)
within-scaled (suc k) a zero c d h p q = p
within-scaled (suc k) a (suc b) c d h p q = within-scaled k (suc b) (a % suc b) c d (omega arith) q
    ((dvd-add_iff_right d (dvd-mul_right_of_dvd d q (a / suc b))).1
    (subst (λ x. d ∣ x) (split a (suc b) c) p))
  where
    split : (a b c : ℕ) → a * c ≡ b * c * (a / b) + (a % b) * c
    split a b c = omega (arith, ap (λ x. x * c) (mod-add-div a b))

pub gcd-left : (a b : ℕ) → gcd a b ∣ a
unfolding gcd
gcd-left a b = (within-dvd (suc b) a b (omega arith)).0

pub gcd-right : (a b : ℕ) → gcd a b ∣ b
unfolding gcd
gcd-right a b = (within-dvd (suc b) a b (omega arith)).1

pub gcd-scaled : (a b c d : ℕ) → d ∣ a * c → d ∣ b * c → d ∣ gcd a b * c
unfolding gcd
gcd-scaled a b c d p q = within-scaled (suc b) a b c d (omega arith) p q

pub dvd-gcd : (a b d : ℕ) → d ∣ a → d ∣ b → d ∣ gcd a b
dvd-gcd a b d p q = subst (λ x. d ∣ x) (mul-one (gcd a b))
    (gcd-scaled a b 1 d (subst (λ x. d ∣ x) (sym (mul-one a)) p) (subst (λ x. d ∣ x) (sym (mul-one b)) q))

-- a divisor of a product that has no divisor with one factor divides the other
pub dvd_of_gcd-one : (a b c : ℕ) → gcd a b ≡ 1 → b ∣ a * c → b ∣ c
dvd_of_gcd-one a b c e h = subst (λ x. b ∣ x) (ap (λ x. x * c) e ∙ one-mul c)
    (gcd-scaled a b c b h (dvd-mul_right_of_dvd b (dvd_refl b) c))

-- divided by their divisor, two numbers have no common divisor
pub gcd-quotients : (a b : ℕ) → 0 < gcd a b → gcd (a / gcd a b) (b / gcd a b) ≡ 1
gcd-quotients a b p = dvd-one.0
    (dvd_of_mul-dvd-mul_left {k = gcd a b} (gcd (a / gcd a b) (b / gcd a b)) p
    (subst (λ x. gcd a b * gcd (a / gcd a b) (b / gcd a b) ∣ x) (sym (mul-one (gcd a b)))
    (dvd-gcd a b _ (subst (λ x. gcd a b * gcd (a / gcd a b) (b / gcd a b) ∣ x)
    (mul-div_cancel' (gcd a b) (gcd-left a b))
    (mul-dvd-mul_left _ (gcd a b) (gcd-left (a / gcd a b) (b / gcd a b))))
    (subst (λ x. gcd a b * gcd (a / gcd a b) (b / gcd a b) ∣ x) (mul-div_cancel' (gcd a b) (gcd-right a b))
    (mul-dvd-mul_left _ (gcd a b) (gcd-right (a / gcd a b) (b / gcd a b)))))))

pub gcd-pos : (a b : ℕ) → 0 < b → 0 < gcd a b
gcd-pos a b p = pos_of_dvd_of_pos (gcd-right a b) p

pub gcd-is : (a b : ℕ) → IsGcd a b (gcd a b)
gcd-is a b = (gcd-left a b, gcd-right a b, λ d p q. dvd-gcd a b d p q)

pub gcd-unit : (a : ℕ) → gcd a 1 ≡ 1
gcd-unit a = dvd-one.0 (gcd-right a 1)

-- factors that have no divisor with d make a product that has none
pub gcd-product : (a c d : ℕ) → gcd a d ≡ 1 → gcd c d ≡ 1 → gcd (a * c) d ≡ 1
gcd-product a c d p q = let g = gcd (a * c) d in
    dvd-one.0 (subst (λ x. gcd (a * c) d ∣ x) q (dvd-gcd c d g
    (dvd_of_gcd-one a g c (own a d g p (gcd-right (a * c) d)) (gcd-left (a * c) d))
    (gcd-right (a * c) d)))
  where
    own : (a d g : ℕ) → gcd a d ≡ 1 → g ∣ d → gcd a g ≡ 1
    own a d g e h = dvd-one.0 (subst (λ x. gcd a g ∣ x) e
        (dvd-gcd a d (gcd a g) (gcd-left a g) (dvd_trans (gcd a g) (gcd-right a g) h)))

pub gcd-swap : (a b : ℕ) → gcd a b ≡ gcd b a
gcd-swap a b = dvd_antisymm (dvd-gcd b a _ (gcd-right a b) (gcd-left a b))
    (dvd-gcd a b _ (gcd-right b a) (gcd-left b a))
