-- A pivot row by row and column by column.
use mathlib.Core.Path.{◌≡◌, refl, sym, ap, ◌∙◌}
use mathlib.Core.Logic.{◌≢◌}
use mathlib.Core.Bool.{Bool, true, false, cond}
use Prim.Native.Nat.{ℕ}
use lib.Dec.{T as IsOn, eqb, eqb→eq, eqb_refl}
use lib.IntN.{pos}
use Rattle.stack_algebra.specs.Sums.{at}
use Rattle.stack_algebra.specs.Rows.{pivoted, changed}
use Rattle.stack_algebra.proofs.Ring.{Ring, num, ◌⊖◌, ◌⊗◌, ring1, ring3, mul-zero}

pub changed-same : {X : Type 0} (f : ℕ → X) (r : ℕ) (x : X) → changed f r x r ≡ x
changed-same f r x = go (eqb r r) (eqb_refl r)
  where
    go : (b : Bool) → IsOn b → cond b x (f r) ≡ x
    go true t = refl
    go false t = absurd t

pub changed-other : {X : Type 0} (f : ℕ → X) (r : ℕ) (x : X) (i : ℕ) → i ≢ r → changed f r x i ≡ f i
changed-other f r x i d = go (eqb i r) (eqb→eq i r)
  where
    go : (b : Bool) → (IsOn b → i ≡ r) → cond b x (f i) ≡ f i
    go true t = absurd (d (t tt))
    go false t = refl

module _ (R : Ring) where
  pub pivoted-own : (T : ℕ → ℕ → R.C) (q : R.C) (r c : ℕ) →
      ◌≡◌ {A = ℕ → R.C} (pivoted R T q r c r) (λ j. R.mul q (T r j))
  pivoted-own T q r c = go (eqb r r) (eqb_refl r)
    where
      go : (b : Bool) → IsOn b → ◌≡◌ {A = ℕ → R.C}
          (λ j. cond b (R.mul q (T r j)) (R.add (T r j) (R.neg (R.mul (T r c) (R.mul q (T r j))))))
          (λ j. R.mul q (T r j))
      go true t = refl
      go false t = absurd t

  pub pivoted-other : (T : ℕ → ℕ → R.C) (q : R.C) (r c i : ℕ) → i ≢ r →
      ◌≡◌ {A = ℕ → R.C} (pivoted R T q r c i) (λ j. R.add (T i j) (R.neg (R.mul (T i c) (R.mul q (T r j)))))
  pivoted-other T q r c i d = go (eqb i r) (eqb→eq i r)
    where
      go : (b : Bool) → (IsOn b → i ≡ r) →
          ◌≡◌ {A = ℕ → R.C} (λ j. cond b (R.mul q (T r j))
          (R.add (T i j) (R.neg (R.mul (T i c) (R.mul q (T r j))))))
          (λ j. R.add (T i j) (R.neg (R.mul (T i c) (R.mul q (T r j)))))
      go true e = absurd (d (e tt))
      go false e = refl

  -- the pivot's column becomes a unit column
  pub column_of_pivot : (T : ℕ → ℕ → R.C) (q : R.C) (r c i : ℕ) → R.mul q (T r c) ≡ R.of (pos 1) →
      pivoted R T q r c i c ≡ at R r (R.of (pos 1)) i
  column_of_pivot T q r c i one = go (eqb i r)
    where
      go : (b : Bool) → cond b (R.mul q (T r c)) (R.add (T i c) (R.neg (R.mul (T i c) (R.mul q (T r c)))))
          ≡ cond b (R.of (pos 1)) (R.of (pos 0))
      go true = one
      go false = ap (λ z. R.add (T i c) (R.neg (R.mul (T i c) z))) one
          ∙ ring1 R (λ t. (t ⊖ t ⊗ num (pos 1), num (pos 0))) refl (T i c)

  -- a column that is 0 in the pivot's row stays
  pub column_kept : (T : ℕ → ℕ → R.C) (q : R.C) (r c i j : ℕ) → T r j ≡ R.of (pos 0) → pivoted R T q r c i j
      ≡ T i j
  column_kept T q r c i j z = go (eqb i r) (eqb→eq i r)
    where
      go : (b : Bool) → (IsOn b → i ≡ r) →
          cond b (R.mul q (T r j)) (R.add (T i j) (R.neg (R.mul (T i c) (R.mul q (T r j))))) ≡ T i j
      go true e = ap (R.mul q) z ∙ mul-zero R q ∙ sym z ∙ ap (λ k. T k j) (sym (e tt))
      go false e = ap (λ y. R.add (T i j) (R.neg (R.mul (T i c) (R.mul q y)))) z
          ∙ ring3 R (λ t f q. (t ⊖ f ⊗ (q ⊗ num (pos 0)), t)) refl (T i j) (T i c) q
