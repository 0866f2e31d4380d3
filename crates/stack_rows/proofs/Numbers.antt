-- The numbers of a list that is written number by number.
use Rattle.std.proofs.Common.{◌≡◌, ◌≢◌, sym, subst, ℕ, suc, ◌<◌, ◌≤◌, List, length, set}
use Rattle.std.proofs.Common.{arith, replicate, get_or-set_same, get_or-set_other, ℤ, pos}
use Rattle.std.proofs.lemmas.List.{get_or-replicate, length-replicate}
use Rattle.stack_rational.proofs.Common.{get_or_past, ℕ_discrete, dec_lt}
use Rattle.stack_rows.specs.RowForm.{number_at}

-- past the end
pub at-past : (xs : List ℤ) (j : ℕ) → length xs ≤ j → number_at xs j ≡ pos 0
at-past xs j l = get_or_past xs j (pos 0) l

-- of zeros each is 0
pub of_zeros : (n j : ℕ) → number_at (replicate n (pos 0)) j ≡ pos 0
of_zeros n j = elim (dec_lt j n) [
  | yes l ↦ get_or-replicate n j (pos 0) (pos 0) l
  | no d ↦ at-past (replicate n (pos 0)) j (omega (arith, d, length-replicate {A = ℤ} n (pos 0)))
]

-- a number that is written
pub at-set_same : (xs : List ℤ) (j : ℕ) (x : ℤ) → j < length xs → number_at (set xs j x) j ≡ x
at-set_same xs j x l = get_or-set_same xs j x (pos 0) l

-- and the others
pub at-set_other : (xs : List ℤ) (j k : ℕ) (x : ℤ) → k ≢ j → number_at (set xs j x) k ≡ number_at xs k
at-set_other xs j k x d = get_or-set_other xs j k x (pos 0) d

-- a loop over all items that has come to item j: P holds of those that are written, the others are as they were
module _ {C : Type 0} (P : ℕ → C → Type 0) (old now next : ℕ → C) (j : ℕ)
    (done : (i : ℕ) → i < j → P i (now i)) (rest : (i : ℕ) → j ≤ i → now i ≡ old i) (here : P j (next j))
    (other : (i : ℕ) → i ≢ j → next i ≡ now i) where
  -- P holds of one item more
  pub done_more : (i : ℕ) → i < suc j → P i (next i)
  done_more i l = elim (ℕ_discrete i j) [
    | yes d ↦ subst (λ k. P k (next k)) (sym d) here
    | no d ↦ subst (P i) (sym (other i d)) (done i (omega (arith, l, d)))
  ]
