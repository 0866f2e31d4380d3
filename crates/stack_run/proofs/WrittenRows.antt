-- The rows of a written table: plain columns, artificial unit columns, right sides that aren't negative.
use Rattle.std.proofs.Common.{◌≡◌, refl, sym, ap, ◌∙◌, ℕ, zero, suc, ◌<◌, ◌≤◌, ◌+◌, Bool, true, false, cond, eqb, arith}
use Rattle.std.proofs.Common.{lt-ltb, le-ltb, eq-eqb, ℤ, pos, negsuc}
use Rattle.stack_rational.proofs.Common.{ℕ_discrete, Ordered, at, NonNeg, at-other, at-same, nonneg_by, changed-other}
use Rattle.stack_rational.proofs.Common.{nonneg_zero, nonneg_plus, nonneg_add}
use Rattle.stack_table.specs.Table.{plain, columns}
use Rattle.stack_table.specs.Problem.{Problem, flipped, turned, is_below_zero}
use Rattle.stack_table.specs.WrittenTable.{first_row, first_objective, first_basic, written_table}
use Rattle.stack_run.proofs.Duality.{FirstRows}

-- a choice whose test is known
cond_true : {X : Type 0} (x y : X) {b : Bool} → b ≡ true → cond b x y ≡ x
cond_true x y e = ap (λ b. cond b x y) e

cond_false : {X : Type 0} (x y : X) {b : Bool} → b ≡ false → cond b x y ≡ y
cond_false x y e = ap (λ b. cond b x y) e

module _ (F : Ordered) (P : Problem) where
  abbrev m : ℕ
  m = P.shape.rows

  abbrev w : ℕ
  w = plain P.shape

  abbrev n : ℕ
  n = columns P.shape

  abbrev A : ℕ → ℕ → F.C
  A = first_row F P

  -- the cells of a row
  pub plain_cell : (i j : ℕ) → j < w → A i j ≡ F.of (turned (flipped P i) (P.entry i j))
  plain_cell i j l = ap F.of (cond_true _ _ (lt-ltb j w l))

  -- the cells of the artificial columns, and the right side
  of_unit : (b : Bool) → F.of (cond b (pos 1) (pos 0)) ≡ cond b (F.of (pos 1)) (F.of (pos 0))
  of_unit true = refl
  of_unit false = refl

  artificial_cell : (i j : ℕ) → w ≤ j → j < n → A i j ≡ at F.ring (w + i) (F.of (pos 1)) j
  artificial_cell i j l k = ap F.of (cond_false _ _ (le-ltb j w l) ∙ cond_true _ _ (lt-ltb j n k))
      ∙ of_unit (eqb j (w + i))

  -- the right side of a row
  pub right_cell : (i : ℕ) → A i n ≡ F.of (turned (flipped P i) (P.load i))
  right_cell i = ap F.of (cond_false _ _ (le-ltb n w (omega arith)) ∙ cond_false _ _ (le-ltb n n (omega arith))
      ∙ cond_true _ _ (eq-eqb n n refl))

  -- an artificial column is a unit column
  at-moved : (l k : ℕ) → at F.ring (w + l) (F.of (pos 1)) (w + k) ≡ at F.ring k (F.of (pos 1)) l
  at-moved l k = elim (ℕ_discrete l k) [
    | yes e ↦ ap (λ z. at F.ring (w + z) (F.of (pos 1)) (w + k)) e ∙ at-same F.ring (w + k) (F.of (pos 1))
        ∙ sym (ap (at F.ring k (F.of (pos 1))) e ∙ at-same F.ring k (F.of (pos 1)))
    | no d ↦ at-other F.ring (w + l) (w + k) (F.of (pos 1)) (λ e. d (omega arith))
        ∙ sym (at-other F.ring k l (F.of (pos 1)) d)
  ]

  -- each first row has 1 in its own artificial column, and 0 in the others
  pub first_rows : FirstRows F m w A
  first_rows l k h = artificial_cell l (w + k) (omega arith) (omega arith) ∙ at-moved l k

  -- the rows of the written table are these, and its right sides aren't negative
  pub same_row : (i : ℕ) → i < m → ◌≡◌ {A = ℕ → F.C} ((written_table F P).cell i) (A i)
  same_row i l = changed-other A m (first_objective F P) i (λ e. omega arith)

  -- the basic column of a row is its artificial column
  pub basic_is : (i : ℕ) → i < m → first_basic P i ≡ w + i
  basic_is i l = cond_true _ _ (lt-ltb i m l)

  -- natural numbers and turned right sides are not negative
  nonneg_of : (k : ℕ) → NonNeg F (F.of (pos k))
  nonneg_of zero = nonneg_zero F
  nonneg_of (suc k) = let e : 1 + k ≡ suc k = omega arith in nonneg_by F _ _ (sym (F.of_add (pos 1) (pos k))
      ∙ ap (λ (z : ℕ). F.of (pos z)) e) (nonneg_add F _ _ (nonneg_plus F _ F.sign-one) (nonneg_of k))

  pub nonneg_load : (z : ℤ) → NonNeg F (F.of (turned (is_below_zero z) z))
  nonneg_load (pos k) = nonneg_of k
  nonneg_load (negsuc k) = nonneg_of (suc k)
