-- Facts on cross products, over plain integers.
use mathlib.Core.Path.{◌≡◌, refl, ap}
use Prim.Native.Nat.{zero, suc}
use native.Mathlib.Omega.{arith}
use lib.IntN.{ℤ, pos, negsuc, ◌+ℤ◌, ◌-ℤ◌, ◌*ℤ◌}
use Rattle.std.proofs.lemmas.Int.{ints}
use Rattle.stack_algebra.proofs.Integers.{expand, sums}
use Rattle.stack_algebra.proofs.Order.{◌≺◌, mul_pos}

zero_from : (c x : ℤ) → pos 0 ≺ c → c *ℤ x ≡ pos 0 → x ≡ pos 0
zero_from (pos zero) x h e = absurd (omega (arith, ints))
zero_from (pos (suc c)) (pos zero) h e = refl
zero_from (pos (suc c)) (pos (suc x)) h e = absurd (omega (arith, ints))
zero_from (pos (suc c)) (negsuc x) h e = absurd (omega (arith, ints))
zero_from (negsuc c) x h e = absurd (omega (arith, ints))

pub cancel : (c a b : ℤ) → pos 0 ≺ c → c *ℤ a ≡ c *ℤ b → a ≡ b
cancel c a b h e = let z = zero_from c (a -ℤ b) h (simp expand (omega (arith, sums))) in omega (arith, sums)

-- a product with a positive number has the sign of the other one
pub positive_cancel : (c x : ℤ) → pos 0 ≺ c → pos 0 ≺ c *ℤ x → pos 0 ≺ x
positive_cancel c (pos (suc n)) h p = omega (arith, ints)
positive_cancel (pos m) (pos zero) h p = absurd (omega (arith, ints))
positive_cancel (negsuc m) (pos zero) h p = absurd (omega (arith, ints))
positive_cancel c (negsuc n) h p =
    let m = mul_pos c (pos (suc n)) h (omega (arith, ints)) in
    absurd (omega (arith, sums, simp expand at m, simp expand at p))

-- x/d and y/e are n/p and m/q, and those have equal cross products
pub cross_same : (x d y e n p m q : ℤ) → pos 0 ≺ p *ℤ q → x *ℤ p ≡ n *ℤ d → y *ℤ q ≡ m *ℤ e → n *ℤ q
    ≡ m *ℤ p → x *ℤ e ≡ y *ℤ d
cross_same x d y e n p m q h i j k = cancel (p *ℤ q) (x *ℤ e) (y *ℤ d) h
    (simp expand (omega (
      arith,
      sums,
      simp expand at (ap (λ t. t *ℤ (e *ℤ q)) i),
      simp expand at (ap (λ t. t *ℤ (d *ℤ p)) j),
      simp expand at (ap (λ t. t *ℤ (d *ℤ e)) k),
    )))

-- r/f is the sum of x/d and y/e, which are n/p and m/q
pub cross_sum : (x d y e n p m q r f : ℤ) → pos 0 ≺ d *ℤ e → x *ℤ p ≡ n *ℤ d → y *ℤ q ≡ m *ℤ e → r *ℤ (d *ℤ e)
    ≡ (x *ℤ e +ℤ y *ℤ d) *ℤ f → r *ℤ (p *ℤ q) ≡ (n *ℤ q +ℤ m *ℤ p) *ℤ f
cross_sum x d y e n p m q r f h i j k = cancel (d *ℤ e) (r *ℤ (p *ℤ q)) ((n *ℤ q +ℤ m *ℤ p) *ℤ f) h
    (simp expand (omega (
      arith,
      sums,
      simp expand at (ap (λ t. t *ℤ (e *ℤ q *ℤ f)) i),
      simp expand at (ap (λ t. t *ℤ (d *ℤ p *ℤ f)) j),
      simp expand at (ap (λ t. t *ℤ (p *ℤ q)) k),
    )))

pub cross_product : (x d y e n p m q r f : ℤ) → pos 0 ≺ d *ℤ e → x *ℤ p ≡ n *ℤ d → y *ℤ q ≡ m *ℤ e →
    r *ℤ (d *ℤ e) ≡ (x *ℤ y) *ℤ f → r *ℤ (p *ℤ q) ≡ (n *ℤ m) *ℤ f
cross_product x d y e n p m q r f h i j k = cancel (d *ℤ e) (r *ℤ (p *ℤ q)) ((n *ℤ m) *ℤ f) h
    (simp expand (omega (
      arith,
      sums,
      simp expand at (ap (λ t. t *ℤ (y *ℤ q *ℤ f)) i),
      simp expand at (ap (λ t. t *ℤ (n *ℤ d *ℤ f)) j),
      simp expand at (ap (λ t. t *ℤ (p *ℤ q)) k),
    )))
