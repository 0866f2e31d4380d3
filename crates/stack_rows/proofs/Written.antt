-- A row that is written number by number: the part that is written grows.
use Rattle.std.proofs.Common.{◌≡◌, sym, subst, ◌∙◌, ℕ, ◌+◌, ◌<◌, ◌≤◌, List, length, set, arith, ℤ}
use Rattle.std.proofs.Common.{nat_abs}
use Rattle.stack_rational.proofs.Common.{ℕ_discrete, dec_lt}
use Rattle.stack_rows.specs.RowForm.{number_at, IsWrittenPart, IsPartTopped}
use Rattle.stack_rows.proofs.Numbers.{at-set_same, at-set_other}

module _ {P : ℕ → ℤ → Type 0} {old : ℕ → ℤ} {from j : ℕ} where
  -- by one number
  pub written_more : (xs : List ℤ) (x : ℤ) → from ≤ j → j < length xs → IsWrittenPart P old from j (number_at xs) →
      P j x → IsWrittenPart P old from (j + 1) (number_at (set xs j x))
  written_more xs x l room w here = record {
    part = λ i a b. elim (ℕ_discrete i j) [
      | yes e ↦ subst (λ k. P k (number_at (set xs j x) k)) (sym e) (subst (P j) (sym (at-set_same xs j x room)) here)
      | no d ↦ subst (P i) (sym (at-set_other xs j i x d)) (w.part i a (omega (arith, b, d)))
    ];
    before = λ i a. at-set_other xs j i x (λ e. omega (arith, a, e, l)) ∙ w.before i a;
    after = λ i a. at-set_other xs j i x (λ e. omega (arith, a, e)) ∙ w.after i (omega (arith, a));
  }

  -- to another place, where P holds of what stays before it, and nothing is written after it
  pub written_to : {now : ℕ → ℤ} (n : ℕ) → IsWrittenPart P old from j now →
      ((i : ℕ) → j ≤ i → i < n → P i (old i)) → ((i : ℕ) → n ≤ i → now i ≡ old i) → IsWrittenPart P old from n now
  written_to n w between stays = record {
    part = λ i a b. elim (dec_lt i j) [
      | yes e ↦ w.part i a e
      | no d ↦ subst (P i) (sym (w.after i (omega (arith, d)))) (between i (omega (arith, d)) b)
    ];
    before = w.before;
    after = stays;
  }

-- a top of one number more
pub topped_more : (xs : List ℤ) (j : ℕ) (x : ℤ) {from size more : ℕ} → j < length xs → nat_abs x ≤ more →
    size ≤ more → IsPartTopped from j xs size → IsPartTopped from (j + 1) (set xs j x) more
topped_more xs j x {more = more} room own other w = λ i a b. elim (ℕ_discrete i j) [
  | yes e ↦ subst (λ k. nat_abs (number_at (set xs j x) k) ≤ more) (sym e)
      (subst (λ z. nat_abs z ≤ more) (sym (at-set_same xs j x room)) own)
  | no d ↦ subst (λ z. nat_abs z ≤ more) (sym (at-set_other xs j i x d))
      (omega (arith, w i a (omega (arith, b, d)), other))
]

-- and of what comes after it
pub topped_to : (xs : List ℤ) {from j n size : ℕ} → IsPartTopped from j xs size → IsPartTopped j n xs size →
    IsPartTopped from n xs size
topped_to xs {j = j} w more = λ i a b. elim (dec_lt i j) [
  | yes e ↦ w i a e
  | no d ↦ more i (omega (arith, d)) b
]
