-- The rows of phase 2, as its loop takes them.
use Rattle.std.proofs.Common.{◌≡◌, ap, ◌∙◌, ℕ, zero, suc, ◌+◌, Bool, arith}
use Rattle.stack_rational.proofs.Common.{Ordered}
use Rattle.stack_rational.specs.declared.exact.Op.{Op}
use Rattle.stack_table.specs.declared.types.PivotWide.{PivotWide}
use Rattle.stack_table.specs.Table.{Shape, Tabled}
use Rattle.stack_run.specs.WrittenRun.{complete, wide_at, spent, after_phase, drive_row, drives}

module _ (F : Ordered) (S : Shape) (is_too_wide : Op → F.C → F.C → Bool) where
  -- phase 2 goes on with the next row where it has driven the rows before
  pub drives_on : (k left done left' done' : ℕ) (T U : Tabled F.C) →
      drives F S is_too_wide k left done T ≡ complete left' done' U →
      drives F S is_too_wide (suc k) left done T ≡ drive_row F S is_too_wide left' done' U k
  drives_on k left done left' done' T U e = ap (λ x. after_phase x (λ l d V. drive_row F S is_too_wide l d V k)) e

  -- phase 2 ends where a row refuses
  pub drives_too_wide : (n k left done phase pivot : ℕ) (T : Tabled F.C) (s : PivotWide) →
      drives F S is_too_wide k left done T ≡ wide_at phase pivot s →
      drives F S is_too_wide (k + n) left done T ≡ wide_at phase pivot s
  drives_too_wide zero k left done phase pivot T s e =
      let z : k + zero ≡ k = omega arith in ap (λ i. drives F S is_too_wide i left done T) z ∙ e
  drives_too_wide (suc n) k left done phase pivot T s e =
      let z : k + suc n ≡ suc (k + n) = omega arith in ap (λ i. drives F S is_too_wide i left done T) z
      ∙ ap (λ x. after_phase x (λ l d V. drive_row F S is_too_wide l d V (k + n)))
      (drives_too_wide n k left done phase pivot T s e)

  -- phase 2 is over the budget where it was so before
  pub drives_spent : (n k left done : ℕ) (T : Tabled F.C) → drives F S is_too_wide k left done T ≡ spent →
      drives F S is_too_wide (k + n) left done T ≡ spent
  drives_spent zero k left done T e =
      let z : k + zero ≡ k = omega arith in ap (λ i. drives F S is_too_wide i left done T) z ∙ e
  drives_spent (suc n) k left done T e =
      let z : k + suc n ≡ suc (k + n) = omega arith in ap (λ i. drives F S is_too_wide i left done T) z
      ∙ ap (λ x. after_phase x (λ l d V. drive_row F S is_too_wide l d V (k + n))) (drives_spent n k left done T e)
