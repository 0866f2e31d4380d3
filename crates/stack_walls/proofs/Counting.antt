-- So many numbers below a bound that grow one after the other are no more than the bound.
use Rattle.std.proofs.Common.{ℕ, zero, suc, ◌<◌, ◌≤◌, arith}

module _ (n bound : ℕ) (R : ℕ → ℕ → Type 0) (has : (k : ℕ) → k < n → (r : ℕ) × R k r × (r < bound))
    (grows : (k l r q : ℕ) → k < l → R k r → R l q → r < q) where
  at_least : (k : ℕ) → k < n → (r : ℕ) → R k r → k ≤ r
  at_least zero lt r h = omega arith
  at_least (suc k) lt r h =
      let before = has k (omega (arith, lt)) in
      let low = at_least k (omega (arith, lt)) before.0 before.1 in
      let up = grows k (suc k) before.0 r (omega arith) before.1 h in
      omega (arith, low, up)

  pub no_more : n ≤ bound
  no_more = go n (λ k lt. lt)
    where
      go : (m : ℕ) → ((k : ℕ) → k < m → k < n) → m ≤ bound
      go zero within = omega arith
      go (suc m) within =
          let last = has m (within m (omega arith)) in
          let low = at_least m (within m (omega arith)) last.0 last.1 in
          let high = last.2 in
          omega (arith, low, high)
