-- The order of fractions is total, and that of their difference and 0.
use Rattle.std.proofs.Common.{◌≡◌, refl, sym, ap, ◌∙◌, arith, ℤ, pos, neg_ℤ, ◌+ℤ◌, ◌-ℤ◌, ◌*ℤ◌}
use Rattle.stack_rational.proofs.Common.{◌≺◌, Fraction, expand, sums, mul_pos, add, neg, of, add-is, cancel, neg_own}
use Rattle.stack_rational.proofs.Common.{is_self, den_pos, order_of}
use Rattle.std.proofs.lemmas.Cmp.{int_ranked}
use Rattle.std.specs.Ordering.{int_cmp, MatchOrdering}
use Rattle.std.specs.declared.cmp.Ordering.{Ordering}
use Rattle.std.specs.declared.cmp.Ordering.TheVariants.{Less, Equal, Greater}
use Rattle.stack_algebra.specs.Fraction.{IsOver}
use Rattle.stack_algebra.proofs.CrossProducts.{positive_cancel}
use Rattle.stack_algebra.proofs.Fractions.{same_from_cross}
use Rattle.stack_rational.specs.Laws.{OrderLaws}
use Rattle.stack_rational.proofs.ByWholeParts.{cmp-less, cmp-equal, cmp-greater}
use Rattle.stack_rational.proofs.WideWholes.{num_of, den_of}

-- a/b < c/d < e/f
between : (a b c d e f : ℤ) → pos 0 ≺ b → pos 0 ≺ d → pos 0 ≺ f → a *ℤ d ≺ c *ℤ b → c *ℤ f ≺ e *ℤ d →
    a *ℤ f ≺ e *ℤ b
between a b c d e f hb hd hf h k =
    let u = mul_pos f (c *ℤ b -ℤ a *ℤ d) hf (omega (arith, sums, h)) in
    let v = mul_pos b (e *ℤ d -ℤ c *ℤ f) hb (omega (arith, sums, k)) in
    let w : pos 0 ≺ d *ℤ (e *ℤ b -ℤ a *ℤ f) = simp expand
    (omega (arith, sums, simp expand at u, simp expand at v)) in
    omega (arith, sums, positive_cancel d (e *ℤ b -ℤ a *ℤ f) hd w)

-- the sign of a difference over a common denominator
module _ (a b c d n e : ℤ) (hp : pos 0 ≺ b *ℤ d) (he : pos 0 ≺ e)
    (cross : n *ℤ (b *ℤ d) ≡ (a *ℤ d +ℤ neg_ℤ c *ℤ b) *ℤ e) where
  below : a *ℤ d ≺ c *ℤ b → n ≺ pos 0
  below h =
      let u = mul_pos e (c *ℤ b -ℤ a *ℤ d) he (omega (arith, sums, h)) in
      let w : pos 0 ≺ b *ℤ d *ℤ neg_ℤ n = simp expand
      (omega (arith, sums, simp expand at u, simp expand at cross)) in
      omega (arith, sums, positive_cancel (b *ℤ d) (neg_ℤ n) hp w)

  above : c *ℤ b ≺ a *ℤ d → pos 0 ≺ n
  above h =
      let u = mul_pos e (a *ℤ d -ℤ c *ℤ b) he (omega (arith, sums, h)) in
      let w : pos 0 ≺ b *ℤ d *ℤ n = simp expand (omega (arith, sums, simp expand at u, simp expand at cross))
      in
      positive_cancel (b *ℤ d) n hp w

  level : a *ℤ d ≡ c *ℤ b → n ≡ pos 0
  level h = cancel (b *ℤ d) n (pos 0) hp
      (simp expand (omega (arith, sums, simp expand at cross, simp expand at (ap (λ t. t *ℤ e) h))))

order_by_difference : (x y : Fraction) → order_of x y ≡ order_of (add x (neg y)) (of (pos 0))
order_by_difference x y = go (int_cmp a c) (int_ranked a c (int_cmp a c) refl)
  where
    a : ℤ
    a = x.num *ℤ pos y.den

    c : ℤ
    c = y.num *ℤ pos x.den

    D : Fraction
    D = add x (neg y)

    is : IsOver D (x.num *ℤ pos y.den +ℤ neg_ℤ y.num *ℤ pos x.den) (pos x.den *ℤ pos y.den)
    is = add-is x (neg y) _ _ _ _ (is_self x) (neg_own y)

    l : ℤ
    l = D.num *ℤ pos (of (pos 0)).den

    r : ℤ
    r = (of (pos 0)).num *ℤ pos D.den

    left : D.num *ℤ pos (of (pos 0)).den ≡ D.num
    left = ap (λ (k : _). D.num *ℤ pos k) (den_of (pos 0)) ∙ one D.num
      where
        one : (z : ℤ) → z *ℤ pos 1 ≡ z
        one z = simp expand (omega (arith, sums))

    right : (of (pos 0)).num *ℤ pos D.den ≡ pos 0
    right = ap (λ z. z *ℤ pos D.den) (num_of (pos 0)) ∙ nought (pos D.den)
      where
        nought : (z : ℤ) → pos 0 *ℤ z ≡ pos 0
        nought z = simp expand (omega (arith, sums))

    go : (o : Ordering) → MatchOrdering o (a ≺ c) (a ≡ c) (c ≺ a) → o ≡ order_of D (of (pos 0))
    go Less h = sym (cmp-less l r (omega (
      arith,
      sums,
      left,
      right,
      below x.num (pos x.den) y.num (pos y.den) D.num (pos D.den) is.positive
          (den_pos D) is.cross h,
    )))
    go Equal h = sym (cmp-equal l r
        (omega (
          arith,
          sums,
          left,
          right,
          level x.num (pos x.den) y.num (pos y.den) D.num (pos D.den) is.positive (den_pos D) is.cross h,
        )))
    go Greater h = sym (cmp-greater l r
        (omega (
          arith,
          sums,
          left,
          right,
          above x.num (pos x.den) y.num (pos y.den) D.num (pos D.den) is.positive (den_pos D) is.cross h,
        )))

pub order_laws : OrderLaws
order_laws = record {
  equal = λ x y. (
    λ e. same_from_cross x y (int_ranked _ _ Equal (sym e)),
    λ e. cmp-equal _ _ (λ i. (e i).num *ℤ pos (sym e i).den),
  );
  turned = λ x y. (
    λ e. cmp-greater _ _ (int_ranked (x.num *ℤ pos y.den) (y.num *ℤ pos x.den) Less (sym e)),
    λ e. cmp-less _ _ (int_ranked (y.num *ℤ pos x.den) (x.num *ℤ pos y.den) Greater (sym e)),
  );
  transitive = λ x y z h k. cmp-less _ _
      (between x.num (pos x.den) y.num (pos y.den) z.num (pos z.den) (den_pos x) (den_pos y) (den_pos z)
      (int_ranked _ _ Less (sym h)) (int_ranked _ _ Less (sym k)));
  by_difference = order_by_difference;
}
