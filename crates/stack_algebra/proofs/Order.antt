-- The order of the integers and products.
use Prim.Native.Nat.{zero, suc}
use native.Mathlib.Omega.{arith}
use lib.IntN.{ℤ, pos, negsuc, ◌+ℤ◌, ◌-ℤ◌, ◌*ℤ◌, neg_ℤ}
pub use Rattle.stack_algebra.specs.IntegerOrder.{◌≼◌, ◌≺◌, abs}
use Rattle.std.proofs.lemmas.Int.{ints}
use Rattle.stack_algebra.proofs.Integers.{expand, sums}

pub mul_nonneg : (a b : ℤ) → pos 0 ≼ a → pos 0 ≼ b → pos 0 ≼ a *ℤ b
mul_nonneg (pos a) (pos b) h k = omega (arith, ints)
mul_nonneg (pos a) (negsuc b) h k = absurd (omega (arith, ints))
mul_nonneg (negsuc a) b h k = absurd (omega (arith, ints))

pub square_nonneg : (a : ℤ) → pos 0 ≼ a *ℤ a
square_nonneg (pos a) = omega (arith, ints)
square_nonneg (negsuc a) = omega (arith, ints)

-- a difference that is not negative, and back
pub nonneg-sub : (a b : ℤ) → a ≼ b → pos 0 ≼ b -ℤ a
nonneg-sub a b h = omega (arith, sums)

pub sub-nonneg : (a b : ℤ) → pos 0 ≼ b -ℤ a → a ≼ b
sub-nonneg a b h = omega (arith, sums)

pub mul_le_left : (c a b : ℤ) → pos 0 ≼ c → a ≼ b → c *ℤ a ≼ c *ℤ b
mul_le_left c a b h k = omega (arith, sums, simp expand at (mul_nonneg c (b -ℤ a) h (nonneg-sub a b k)))

pub mul_le_right : (c a b : ℤ) → pos 0 ≼ c → a ≼ b → a *ℤ c ≼ b *ℤ c
mul_le_right c a b h k = simp expand
    (omega (arith, sums, simp expand at (mul_nonneg c (b -ℤ a) h (nonneg-sub a b k))))

-- a positive factor is dropped
pub nonneg-cancel : (q x : ℤ) → pos 0 ≺ q → pos 0 ≼ q *ℤ x → pos 0 ≼ x
nonneg-cancel (pos q) (pos x) h k = omega (arith, ints)
nonneg-cancel (pos (suc q)) (negsuc x) h k = absurd (omega (arith, ints))
nonneg-cancel (pos zero) (negsuc x) h k = absurd (omega (arith, ints))
nonneg-cancel (negsuc q) x h k = absurd (omega (arith, ints))

pub mul_pos : (a b : ℤ) → pos 0 ≺ a → pos 0 ≺ b → pos 0 ≺ a *ℤ b
mul_pos (pos (suc a)) (pos (suc b)) h k = omega (arith, ints)
mul_pos (pos zero) b h k = absurd (omega (arith, ints))
mul_pos (pos (suc a)) (pos zero) h k = absurd (omega (arith, ints))
mul_pos (pos (suc a)) (negsuc b) h k = absurd (omega (arith, ints))
mul_pos (negsuc a) b h k = absurd (omega (arith, ints))

pub abs_bounds : (z : ℤ) → (z ≼ abs z) × (neg_ℤ z ≼ abs z) × (pos 0 ≼ abs z)
abs_bounds z = omega (arith, ints)

-- b times s is at least minus the product of their bounds
pub mul-bounds : (b s B S : ℤ) → b ≼ B → neg_ℤ b ≼ B → s ≼ S → neg_ℤ s ≼ S → pos 0 ≼ B *ℤ S +ℤ b *ℤ s
mul-bounds b s B S h₁ h₂ h₃ h₄ =
    let h = mul_nonneg (B -ℤ b) (S -ℤ s) (omega (arith, sums)) (omega (arith, sums)) in
    let k = mul_nonneg (B +ℤ b) (S +ℤ s) (omega (arith, sums)) (omega (arith, sums)) in
    omega (arith, sums, simp expand at h, simp expand at k)

-- an admissible part on an opening and a slide that it does not resist has no negative power
power-bounds : (p q a b o s B S : ℤ) → pos 0 ≺ q → pos 0 ≼ a → pos 0 ≼ S → q *ℤ B ≼ p *ℤ a → p *ℤ S ≼ q *ℤ o →
    pos 0 ≼ B *ℤ S +ℤ b *ℤ s → pos 0 ≼ a *ℤ o +ℤ b *ℤ s
power-bounds p q a b o s B S hq ha hs h k m =
    let h₁ = mul_nonneg a (q *ℤ o -ℤ p *ℤ S) ha (nonneg-sub _ _ k) in
    let h₂ = mul_nonneg S (p *ℤ a -ℤ q *ℤ B) hs (nonneg-sub _ _ h) in
    let h₃ = mul_nonneg q (B *ℤ S +ℤ b *ℤ s) (omega (arith, sums)) m in
    nonneg-cancel q _ hq (simp expand
    (omega (arith, sums, simp expand at h₁, simp expand at h₂, simp expand at h₃)))

pub power-nonneg : (p q a b o s : ℤ) → pos 0 ≺ q → pos 0 ≼ a → q *ℤ abs b ≼ p *ℤ a → p *ℤ abs s ≼ q *ℤ o →
    pos 0 ≼ a *ℤ o +ℤ b *ℤ s
power-nonneg p q a b o s hq ha h k = power-bounds p q a b o s (abs b) (abs s) hq ha (abs_bounds s).2 h k
    (mul-bounds b s (abs b) (abs s) (abs_bounds b).0 (abs_bounds b).1 (abs_bounds s).0 (abs_bounds s).1)
