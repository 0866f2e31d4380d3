-- The bound on the pivots of a run, and where it fits 32 bits.
use Rattle.std.proofs.Common.{◌≡◌, sym, ap, ◌∙◌, ℕ, zero, suc, ◌<◌, ◌≤◌, ◌+◌, ◌-◌, ◌*◌, ◌^◌, ◌%◌, Bool, true, false}
use Rattle.std.proofs.Common.{cond, leb, Some, None, arith, le-leb}
use Rattle.std.proofs.Math.Nat.{pow-suc}
use Rattle.stack_run.specs.Enough.{enough_of}

-- powers of 2 rise
power_more : (c k : ℕ) → 2 ^ c ≤ 2 ^ (c + k)
power_more c zero = let e : c ≡ c + zero = omega arith in omega (arith, ap (λ n. 2 ^ n) e)
power_more c (suc k) = let e : suc (c + k) ≡ c + suc k = omega arith in
    omega (arith, power_more c k, pow-suc 2 (c + k), ap (λ n. 2 ^ n) e)

-- up to 30 columns the bound fits 32 bits
pub within_32_bits : (c : ℕ) → c ≤ 30 → 3 * 2 ^ c < 4294967296
within_32_bits c l = let e : c + (30 - c) ≡ 30 = omega arith in
    let p : 2 ^ (c + (30 - c)) ≡ 1073741824 = ap (λ n. 2 ^ n) e in omega (arith, power_more c (30 - c), p)

-- what is enough, up to 30 columns and beyond
pub enough-some : (c : ℕ) → c ≤ 30 → enough_of c ≡ Some (3 * 2 ^ c)
enough-some c l = ap (λ b. cond b (Some (3 * 2 ^ c)) None) (le-leb c 30 l)

-- 3 shifted by the columns
pub shifted : (c : ℕ) → c ≤ 30 → Some (3 * 2 ^ c % 4294967296) ≡ enough_of c
shifted c l = let k = within_32_bits c l in let e : 3 * 2 ^ c % 4294967296 ≡ 3 * 2 ^ c = omega arith in
    ap Some e ∙ sym (enough-some c l)

-- what is enough is 3*2^columns
pub enough-is : (c b : ℕ) → enough_of c ≡ Some b → b ≡ 3 * 2 ^ c
enough-is c b e = go (leb c 30) e
  where
    go : (t : Bool) → cond t (Some (3 * 2 ^ c)) None ≡ Some b → b ≡ 3 * 2 ^ c
    go true e = cc
    go false e = absurd cc
