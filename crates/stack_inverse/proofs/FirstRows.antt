-- The rows with which phases begin: of the first table, and the objective rows.
use Rattle.std.proofs.Common.{◌≡◌, ap, ◌∙◌, ℕ, ◌+◌, ◌-◌, ◌<◌, eqb, ltb, arith, ℤ, pos, ◌*ℤ◌}
use Rattle.std.proofs.lemmas.Bool.Decides.{nat_tests}
use Rattle.stack_rational.proofs.Common.{integers, at, sum_zero, at-other, at-same, zero-*ℤ, sum_one}
use Rattle.stack_algebra.proofs.Integers.{one_mul}
use Rattle.stack_inverse.specs.Columns.{multipliers, combined, by_place, number}

-- 1 at row i gives that row
pub unit_gives : (m i : ℕ) (f : ℕ → ℤ) → i < m → combined m (at integers i (pos 1)) f ≡ f i
unit_gives m i f l = sum_one integers m i (λ r. at integers i (pos 1) r *ℤ f r) l
    (λ r k d. ap (λ z. z *ℤ f r) (at-other integers i r (pos 1) d) ∙ zero-*ℤ (f r))
    ∙ ap (λ z. z *ℤ f i) (at-same integers i (pos 1)) ∙ one_mul (f i)

-- and 0 everywhere gives 0
pub nothing_gives : (m : ℕ) (f : ℕ → ℤ) → combined m (λ r. pos 0) f ≡ pos 0
nothing_gives m f = sum_zero integers m (λ r. pos 0 *ℤ f r) (λ r l. zero-*ℤ (f r))

module _ (m n : ℕ) (F : ℕ → ℕ → ℤ) where
  -- a row of the first rows and the costs
  pub unit_row : (i : ℕ) (s : ℤ) (j : ℕ) → i < multipliers m → number m n F (at integers i (pos 1)) s j
      ≡ by_place (ltb j n) (ltb j (n + m)) (eqb j (n + m)) (F i j) (at integers i (pos 1) (j - n)) s
  unit_row i s j l = ap (λ z. by_place (ltb j n) (ltb j (n + m)) (eqb j (n + m)) z (at integers i (pos 1) (j - n)) s)
      (unit_gives (multipliers m) i (λ r. F r j) l)

  -- a row that is 0
  pub nothing_row : (j : ℕ) → number m n F (λ r. pos 0) (pos 0) j ≡ pos 0
  nothing_row j =
      let none : combined (multipliers m) (λ r. pos 0) (λ r. F r j) ≡ pos 0 =
      nothing_gives (multipliers m) (λ r. F r j) in
      grind (arith, nat_tests, none)
