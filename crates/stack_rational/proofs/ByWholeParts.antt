-- The order of two fractions by their whole parts.
use Rattle.std.proofs.Common.{arith, int_lt, T, ◌↔◌, ◌≡◌, refl, sym, ap, subst, subst₂, ◌∙◌, zero, suc, ◌+◌, ◌<◌, ℤ}
use Rattle.std.proofs.Common.{pos, negsuc, nat_abs, neg_ℤ, ◌+ℤ◌, ◌-ℤ◌, ◌*ℤ◌, Bool, true, false, not}
use Rattle.stack_rational.proofs.Common.{Fraction, over, IsStored, ints, expand, sums, ◌≺◌, ◌≼◌, mul_pos, order_of}
use lib.Signed.{quot_z, rem_z, lt_z_yes, lt_z_no}
use Rattle.std.specs.declared.cmp.Ordering.{Ordering}
use Rattle.std.specs.Ordering.{MatchOrdering, int_cmp}
use Rattle.std.proofs.lemmas.Cmp.{int_ranked}
use Rattle.stack_rational.specs.Stored.{Split, InStep}
use Rattle.stack_rational.proofs.Crosswise.{stored-num, stored-den}
use Rattle.std.proofs.lemmas.Int.{quot-rem}
use Rattle.std.specs.declared.cmp.Ordering.TheVariants.{Less, Equal, Greater}
use Rattle.stack_algebra.proofs.Order.{mul_nonneg}
use Rattle.stack_rational.proofs.Steps.{rem_smaller}

pub cmp-less : (x y : ℤ) → x ≺ y → int_cmp x y ≡ Less
cmp-less x y h = grind (arith, ints)

pub cmp-greater : (x y : ℤ) → y ≺ x → int_cmp x y ≡ Greater
cmp-greater x y h = grind (arith, ints)

pub cmp-equal : (x y : ℤ) → x ≡ y → int_cmp x y ≡ Equal
cmp-equal x y h = grind (arith, ints)

pub cmp-shift : (x y u v : ℤ) → x +ℤ v ≡ u +ℤ y → int_cmp x y ≡ int_cmp u v
cmp-shift x y u v h = go (int_cmp x y) (int_ranked x y (int_cmp x y) refl)
  where
    go : (o : Ordering) → MatchOrdering o (x ≺ y) (x ≡ y) (y ≺ x) → o ≡ int_cmp u v
    go Less k = sym (cmp-less u v (omega (arith, sums, h, k)))
    go Equal k = sym (cmp-equal u v (omega (arith, sums, h, k)))
    go Greater k = sym (cmp-greater u v (omega (arith, sums, h, k)))

rem-low : (a b : ℤ) → pos 0 ≼ a → pos 0 ≼ rem_z a b
rem-low (pos a) b h = omega (arith, ints)
rem-low (negsuc a) b h = absurd (omega (arith, ints, h))

pub split : (a b q r : ℤ) → pos 0 ≼ a → pos 0 ≺ b → q ≡ quot_z a b → r ≡ rem_z a b → Split a b q r
split a b q r ha hb eq er =
    let low : pos 0 ≼ r = subst (λ z. pos 0 ≼ z) (sym er) (rem-low a b ha) in
    let some : 0 < nat_abs b = omega (arith, ints, hb) in
    let less = rem_smaller a b r er some in
    record {
      sum = (λ i. eq i *ℤ b +ℤ er i) ∙ quot-rem a b;
      low = low;
      below = omega (arith, ints, less, hb, low);
    }

less_cross : (q p r s b d : ℤ) → q ≺ p → pos 0 ≼ r → pos 0 ≼ s → r ≺ b → pos 0 ≺ b → pos 0 ≺ d →
    (q *ℤ b +ℤ r) *ℤ d ≺ (p *ℤ d +ℤ s) *ℤ b
less_cross q p r s b d h hr hs hb pb pd =
    let bd = mul_pos b d pb pd in
    let h₁ = mul_nonneg (p -ℤ q -ℤ pos 1) (b *ℤ d) (omega (arith, sums, h)) (omega (arith, sums, bd)) in
    let h₂ = mul_pos (b -ℤ r) d (omega (arith, sums, hb)) pd in
    let h₃ = mul_nonneg s b hs (omega (arith, sums, pb)) in
    simp expand (omega (arith, sums, simp expand at h₁, simp expand at h₂, h₃))

pub less-parts : (a b c d q p r s : ℤ) → Split a b q r → Split c d p s → pos 0 ≺ b → pos 0 ≺ d → q ≺ p →
    a *ℤ d ≺ c *ℤ b
less-parts a b c d q p r s u v hb hd h = subst₂ (λ x y. x *ℤ d ≺ y *ℤ b) u.sum v.sum
    (less_cross q p r s b d h u.low v.low u.below hb hd)

turn_cross : (q r s b d : ℤ) → (q *ℤ b +ℤ r) *ℤ d +ℤ b *ℤ s ≡ d *ℤ r +ℤ (q *ℤ d +ℤ s) *ℤ b
turn_cross q r s b d = simp expand (omega (arith, sums))

pub turn : (a b c d q p r s : ℤ) → Split a b q r → Split c d p s → q ≡ p → int_cmp (a *ℤ d) (c *ℤ b)
    ≡ int_cmp (d *ℤ r) (b *ℤ s)
turn a b c d q p r s u v e = cmp-shift (a *ℤ d) (c *ℤ b) (d *ℤ r) (b *ℤ s)
    (subst₂ (λ x y. x *ℤ d +ℤ b *ℤ s ≡ d *ℤ r +ℤ y *ℤ b) u.sum ((λ i. e i *ℤ d +ℤ s) ∙ v.sum)
    (turn_cross q r s b d))

nought : (d r : ℤ) → r ≡ pos 0 → d *ℤ r ≡ pos 0
nought d r e = ap (λ z. d *ℤ z) e ∙ omega (arith, ints)

pub ends-equal : (b d r s : ℤ) → r ≡ pos 0 → s ≡ pos 0 → int_cmp (d *ℤ r) (b *ℤ s) ≡ Equal
ends-equal b d r s e f = cmp-equal _ _ (nought d r e ∙ sym (nought b s f))

pub ends-greater : (b d r s : ℤ) → pos 0 ≺ d → pos 0 ≺ r → s ≡ pos 0 → int_cmp (d *ℤ r) (b *ℤ s) ≡ Greater
ends-greater b d r s hd hr f = cmp-greater _ _
    (subst (λ z. z ≺ d *ℤ r) (sym (nought b s f)) (mul_pos d r hd hr))

pub ends-less : (b d r s : ℤ) → pos 0 ≺ b → r ≡ pos 0 → pos 0 ≺ s → int_cmp (d *ℤ r) (b *ℤ s) ≡ Less
ends-less b d r s hb e hs = cmp-less _ _ (subst (λ z. z ≺ b *ℤ s) (sym (nought d r e)) (mul_pos b s hb hs))

pub next-step : (m a b c d q p r s : ℤ) → InStep m a b c d → Split a b q r → Split c d p s → pos 0 ≺ r →
    pos 0 ≺ s → InStep m d s b r
next-step m a b c d q p r s i u v hr hs = record {
  size_a = i.size_d;
  size_b = omega (arith, ints, i.size_d, v.below, hs);
  size_c = i.size_b;
  size_d = omega (arith, ints, i.size_b, u.below, hr);
  low_a = omega (arith, ints, i.low_d);
  low_b = hs;
  low_c = omega (arith, ints, i.low_b);
  low_d = hr;
}

pub smaller-step : (b d r s a c q p : ℤ) → Split a b q r → Split c d p s →
    nat_abs s + nat_abs r < nat_abs b + nat_abs d
smaller-step b d r s a c q p u v = omega (arith, ints, u.below, v.below, u.low, v.low)

pub yes-less : (x y : ℤ) (r : Bool) → r ≡ int_lt x y → r ≡ true → x ≺ y
yes-less x y r e t = lt_z_yes (subst T (sym t ∙ e) tt)

pub no-less : (x y : ℤ) (r : Bool) → r ≡ int_lt x y → r ≡ false → y ≼ x
no-less x y r e t = lt_z_no (subst (λ b. T (not b)) (sym t ∙ e) tt)

-- two numbers of which neither is less are the same
pub level : (x y : ℤ) (r t : Bool) → r ≡ int_lt x y → r ≡ false → t ≡ int_lt y x → t ≡ false → x ≡ y
level x y r t e h f k = let a = no-less x y r e h in let b = no-less y x t f k in omega (arith, ints, a, b)

-- where the whole parts are the same, the rests are compared the other way round
pub rests : (a b c d q p r s : ℤ) (o : Ordering) (t u : Bool) → int_cmp (a *ℤ d) (c *ℤ b) ≡ o →
    Split a b q r → Split c d p s →
    t ≡ int_lt q p → t ≡ false → u ≡ int_lt p q → u ≡ false → o ≡ int_cmp (d *ℤ r) (b *ℤ s)
rests a b c d q p r s o t u is v w et nt eu nu = sym is ∙ turn a b c d q p r s v w (level q p t u et nt eu nu)

above : (r : ℤ) → pos 0 ≼ r → ¬ (r ≡ pos 0) → pos 0 ≺ r
above (pos zero) h k = absurd (k refl)
above (pos (suc n)) h k = omega (arith, ints)
above (negsuc n) h k = absurd (omega (arith, ints, h))

-- a test for 0 that is false
pub above-by : (r : ℤ) (b : Bool) → pos 0 ≼ r → (b ≡ true) ↔ (r ≡ pos 0) → b ≡ false → pos 0 ≺ r
above-by r b l is e = above r l (λ z. let t = sym (is.1 z) ∙ e in cc)

-- the order of what is stored
pub stored-order : {m a b c d : ℤ} {x y : Fraction} → IsStored m a b → IsStored m c d → over a b ≡ x →
    over c d ≡ y → int_cmp (a *ℤ d) (c *ℤ b) ≡ order_of x y
stored-order {m} {a} {b} {c} {d} {x} {y} s t u v = λ i. int_cmp (stored-num m a b x s u i *ℤ stored-den m c d y t v i)
    (stored-num m c d y t v i *ℤ stored-den m a b x s u i)

opposite_cross : (a b c d : ℤ) → neg_ℤ c *ℤ b +ℤ c *ℤ b ≡ a *ℤ d +ℤ neg_ℤ a *ℤ d
opposite_cross a b c d = simp expand (omega (arith, sums))

pub opposite-order : (a b c d e f : ℤ) → e ≡ neg_ℤ c → f ≡ neg_ℤ a → int_cmp (e *ℤ b) (f *ℤ d)
    ≡ int_cmp (a *ℤ d) (c *ℤ b)
opposite-order a b c d e f p q = cmp-shift (e *ℤ b) (f *ℤ d) (a *ℤ d) (c *ℤ b)
    (subst₂ (λ u v. u *ℤ b +ℤ c *ℤ b ≡ a *ℤ d +ℤ v *ℤ d) (sym p) (sym q) (opposite_cross a b c d))

pub sign-less : (a b c d : ℤ) → pos 0 ≺ b → pos 0 ≺ d → a ≺ pos 0 → pos 0 ≼ c → a *ℤ d ≺ c *ℤ b
sign-less a b c d hb hd ha hc =
    let h = mul_pos (neg_ℤ a) d (omega (arith, sums, ha)) hd in
    let k = mul_nonneg c b hc (omega (arith, sums, hb)) in
    omega (arith, sums, simp expand at h, k)

pub opposite-low : (a e : ℤ) → e ≡ neg_ℤ a → a ≺ pos 0 → pos 0 ≼ e
opposite-low a e p h = omega (arith, ints, p, h)
