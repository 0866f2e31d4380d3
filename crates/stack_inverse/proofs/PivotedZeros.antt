-- What a pivot leaves as it is: a column in which the pivot's row is 0.
use Rattle.std.proofs.Common.{◌≡◌, ◌≢◌, refl, sym, ap, ◌∙◌, ℕ, eq-eqb, ne_eqb, cond, ℤ, pos, negsuc}
use Rattle.stack_rational.proofs.Common.{Fraction, ◌≺◌, add, mul, neg, neg_is, of, over, inv, next, ordered_fractions}
use Rattle.stack_rational.proofs.Common.{sign_of}
use Rattle.stack_algebra.proofs.Fractions.{add_comm, mul_comm, zero_add, zero_mul}
use Rattle.stack_rows.proofs.RatioSigns.{cell_sign}
use Rattle.stack_inverse.proofs.Steps.{over_zero}

-- times 0
times_zero : (k x : Fraction) → x ≡ of (pos 0) → mul k x ≡ of (pos 0)
times_zero k x e = ap (mul k) e ∙ mul_comm k (of (pos 0)) ∙ zero_mul k

-- less 0
less_zero : (x k : Fraction) → k ≡ of (pos 0) → add x (neg k) ≡ x
less_zero x k e = ap (λ z. add x z) (ap neg e ∙ neg_is (of (pos 0)) ∙ times_zero (of (negsuc 0)) (of (pos 0)) refl)
    ∙ add_comm x (of (pos 0)) ∙ zero_add x

-- a cell is 0 where its number is
pub zero_over : (n d : ℤ) → pos 0 ≺ d → n ≡ pos 0 → over n d ≡ of (pos 0)
zero_over n d h e = ap (λ z. over z d) e ∙ over_zero d h

-- numbers of the same cell have the same sign
pub same_sign : (n d k e : ℤ) → pos 0 ≺ d → pos 0 ≺ e → over n d ≡ over k e → sign_of n ≡ sign_of k
same_sign n d k e hd he h = sym (cell_sign n d hd) ∙ ap (λ (x : Fraction). sign_of x.num) h ∙ cell_sign k e he

module _ (old new : ℕ → ℕ → Fraction) (r c : ℕ)
    (is : (i j : ℕ) → new i j ≡ next ordered_fractions old r c i j) where
  -- the pivot's row
  row_is : (j : ℕ) → new r j ≡ mul (inv (old r c)) (old r j)
  row_is j = is r j ∙ ap (λ b. cond b (mul (inv (old r c)) (old r j))
      (add (old r j) (neg (mul (old r c) (mul (inv (old r c)) (old r j)))))) (eq-eqb r r refl)

  -- another row
  other_is : (i j : ℕ) → i ≢ r → new i j ≡ add (old i j) (neg (mul (old i c) (new r j)))
  other_is i j n = is i j ∙ ap (λ b. cond b (mul (inv (old r c)) (old r j))
      (add (old i j) (neg (mul (old i c) (mul (inv (old r c)) (old r j)))))) (ne_eqb i r n)
      ∙ ap (λ z. add (old i j) (neg (mul (old i c) z))) (sym (row_is j))

  -- a column in which the pivot's row is 0 stays
  pub column_stays : (i j : ℕ) → i ≢ r → new r j ≡ of (pos 0) → new i j ≡ old i j
  column_stays i j n e = other_is i j n
      ∙ less_zero (old i j) (mul (old i c) (new r j)) (times_zero (old i c) (new r j) e)
