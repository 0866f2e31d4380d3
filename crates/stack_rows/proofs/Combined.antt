-- One number of a row that is combined with the pivot row.
use Rattle.std.proofs.Common.{◌≡◌, ◌≢◌, refl, sym, ap, ◌∙◌, zero, suc, arith, ℤ, pos, negsuc, neg_ℤ, nat_abs, ◌*ℤ◌}
use Rattle.std.proofs.Common.{◌-ℤ◌}
use Rattle.std.specs.Int.{int_signum}
use Prim.Native.Nat.{min}
use lib.IntN.{*ℤ_comm}
use Rattle.stack_rational.proofs.Common.{expand, sums}
use Rattle.stack_rows.specs.RowForm.{IsQuotient}

-- nothing is made of nothing
pub made_nothing : (by k t : ℤ) {old pivot new : ℤ} → old ≡ pos 0 → pivot ≡ pos 0 → new ≡ pos 0 →
    IsQuotient by k t old pivot new
made_nothing by k t eo ep en = (λ i. en i *ℤ by) ∙ nothing by k t ∙ (λ i. sym eo i *ℤ k -ℤ t *ℤ sym ep i)
  where
    nothing : (by k t : ℤ) → pos 0 *ℤ by ≡ pos 0 *ℤ k -ℤ t *ℤ pos 0
    nothing by k t = simp expand (omega (arith, sums))

-- n over 1
pub over_one : (n : ℤ) → n *ℤ pos 1 ≡ n
over_one n = simp expand (omega (arith, sums))

-- a step that isn't divided
pub undivided : (k t old pivot new : ℤ) → new ≡ old *ℤ k -ℤ pivot *ℤ t → IsQuotient (pos 1) k t old pivot new
undivided k t old pivot new e = over_one new ∙ e ∙ (λ i. old *ℤ k -ℤ *ℤ_comm pivot t i)

-- over the same number: n times g is o, and r times g is d
pub same_cross : (n o g r d : ℤ) → n *ℤ g ≡ o → r *ℤ g ≡ d → n *ℤ d ≡ o *ℤ r
same_cross n o g r d e f = ap (λ z. n *ℤ z) (sym f) ∙ turn n r g ∙ ap (λ z. z *ℤ r) e
  where
    turn : (n r g : ℤ) → n *ℤ (r *ℤ g) ≡ n *ℤ g *ℤ r
    turn n r g = simp expand (omega (arith, sums))

-- a number over the size of n, with the sign of n, is over n
pub over_signed : (n x y p after : ℤ) → n ≢ pos 0 →
    x *ℤ pos (nat_abs n) ≡ (y *ℤ int_signum n -ℤ pos 0 *ℤ p) *ℤ after → x *ℤ n ≡ y *ℤ after
over_signed (pos zero) x y p after d e = absurd (d refl)
over_signed (pos (suc m)) x y p after d e = e ∙ (λ i. (y *ℤ pos (one i) -ℤ pos 0 *ℤ p) *ℤ after) ∙ same y p after
  where
    one : min (suc m) 1 ≡ 1
    one = omega arith

    same : (y p after : ℤ) → (y *ℤ pos 1 -ℤ pos 0 *ℤ p) *ℤ after ≡ y *ℤ after
    same y p after = simp expand (omega (arith, sums))
over_signed (negsuc m) x y p after d e = opposite x (pos (suc m)) y p after e
  where
    opposite : (x a y p after : ℤ) → x *ℤ a ≡ (y *ℤ neg_ℤ (pos 1) -ℤ pos 0 *ℤ p) *ℤ after → x *ℤ neg_ℤ a ≡ y *ℤ after
    opposite x a y p after e = simp expand (omega (arith, sums, simp expand at e))

-- from over b to over l, which goes into it p times
pub over_lesser : (o p l b z : ℤ) → p *ℤ l ≡ b → z ≡ o *ℤ p → z *ℤ l ≡ o *ℤ b
over_lesser o p l b z e f = ap (λ n. n *ℤ l) f ∙ turn o p l ∙ ap (λ n. o *ℤ n) e
  where
    turn : (o p l : ℤ) → o *ℤ p *ℤ l ≡ o *ℤ (p *ℤ l)
    turn o p l = simp expand (omega (arith, sums))
