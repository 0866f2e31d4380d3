-- A fact at each index below 2 and below 4.
use Rattle.std.proofs.Common.{ℕ, zero, suc, ◌<◌, arith}

pub below_two : (P : ℕ → Type 0) → P 0 → P 1 → (k : ℕ) → k < 2 → P k
below_two P p q zero l = p
below_two P p q (suc zero) l = q
below_two P p q (suc (suc k)) l = absurd (omega arith)

pub below_four : (P : ℕ → Type 0) → P 0 → P 1 → P 2 → P 3 → (k : ℕ) → k < 4 → P k
below_four P p q r s zero l = p
below_four P p q r s (suc zero) l = q
below_four P p q r s (suc (suc zero)) l = r
below_four P p q r s (suc (suc (suc zero))) l = s
below_four P p q r s (suc (suc (suc (suc k)))) l = absurd (omega arith)
