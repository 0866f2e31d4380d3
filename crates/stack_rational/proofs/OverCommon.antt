-- Lowest terms, and a sum over the least common denominator.
use Rattle.std.proofs.Common.{◌≡◌, sym, ap, subst, subst₂, ◌∙◌, ℕ, arith, ℤ, pos, negsuc, nat_abs, ◌+ℤ◌, ◌*ℤ◌}
use Rattle.stack_rational.proofs.Common.{◌∣◌, dvd_trans, IsGcd, ints, unsigned_abs-mul, expand, sums, ◌≺◌, mul_pos, gcd}
use Rattle.stack_rational.proofs.Common.{Fraction, add, add-is, same_values, over, over-is, IsStored, Within}
use Rattle.stack_rational.proofs.Common.{dvd-mul_left, gcd-is, over-lowest, over_own, IsLowest, IsShared, SumFits}
use lib.Signed.{quot_z}
use Rattle.std.proofs.lemmas.Nat.Gcd.{same_from_IsGcd}
use Rattle.stack_algebra.proofs.Over.{over-quotients, lowest-over}
use Rattle.stack_rational.specs.Stored.{IsInParts, CommonFits}
use Rattle.stack_rational.proofs.Crosswise.{parts_of, exact-part, positive-part}
use Rattle.stack_rational.proofs.SharedDivisors.{shared_divides}

pub lowest : (m n d g p q : ℤ) → pos 0 ≺ d → IsShared m n d g p q → IsInParts (over n d) p q
lowest m n (pos d) (pos g) p q hd s =
    let k = over-quotients n d g (omega (arith, ints, hd)) s.gcd in
    let num : (over n (pos d)).num ≡ p = k.0 ∙ sym s.left in
    let den : pos (over n (pos d)).den ≡ q = ap pos k.1 ∙ sym s.right in
    parts_of (over n (pos d)) p q (subst₂ IsLowest num den (lowest-over (over n (pos d))))
    (subst₂ (λ u v. over u v ≡ over n (pos d)) num den (over_own (over n (pos d))))
lowest m n (negsuc d) g p q hd s = absurd (omega (arith, ints, hd))
lowest m n (pos d) (negsuc g) p q hd s = absurd (let h = s.positive in omega (arith, ints))

-- a divisor of the numerator and of g, which divides the denominator and which each common divisor divides
pub shared_by : (m n d g h p q : ℤ) → nat_abs g ∣ nat_abs d →
    ((e : ℕ) → e ∣ nat_abs n → e ∣ nat_abs d → e ∣ nat_abs g) →
    IsGcd (nat_abs n) (nat_abs g) (nat_abs h) → pos 0 ≺ h → Within m h →
    (p ≡ quot_z n h) × Within m p → (q ≡ quot_z d h) × Within m q → IsShared m n d h p q
shared_by m n d g h p q inner outer is positive size ep eq = record {
  gcd = (is.0, dvd_trans (nat_abs h) is.1 inner, λ e u v. is.2 e u (outer e u v));
  positive = positive;
  size = size;
  left = ep.0;
  right = eq.0;
  left_size = ep.1;
  right_size = eq.1;
}

sum_cross : (a c g p q : ℤ) → (a *ℤ q +ℤ c *ℤ p) *ℤ ((g *ℤ p) *ℤ (g *ℤ q))
    ≡ (a *ℤ (g *ℤ q) +ℤ c *ℤ (g *ℤ p)) *ℤ (p *ℤ (g *ℤ q))
sum_cross a c g p q = simp expand (omega (arith, sums))

sum_at : (a b c d p q g : ℤ) → pos 0 ≺ b → pos 0 ≺ d → pos 0 ≺ p → g *ℤ p ≡ b → g *ℤ q ≡ d →
    over (a *ℤ q +ℤ c *ℤ p) (p *ℤ d) ≡ add (over a b) (over c d)
sum_at a b c d p q g hb hd hp e f = same_values _ _ _ _ _ _
    (over-is (a *ℤ q +ℤ c *ℤ p) (p *ℤ d) (mul_pos p d hp hd))
    (add-is _ _ _ _ _ _ (over-is a b hb) (over-is c d hd))
    (subst₂ (λ u v. (a *ℤ q +ℤ c *ℤ p) *ℤ (u *ℤ v) ≡ (a *ℤ v +ℤ c *ℤ u) *ℤ (p *ℤ v)) e f
    (sum_cross a c g p q))

pub record Sum (m a b c d g p q : ℤ) (x y : Fraction) : Type 0 where
  pub inner : nat_abs g ∣ nat_abs (p *ℤ d)
  pub outer : (e : ℕ) → e ∣ nat_abs (a *ℤ q +ℤ c *ℤ p) → e ∣ nat_abs (p *ℤ d) → e ∣ nat_abs g
  pub value : over (a *ℤ q +ℤ c *ℤ p) (p *ℤ d) ≡ add x y
  pub positive : pos 0 ≺ p *ℤ d
  pub fits : CommonFits m a c d p q → SumFits m x y
  pub at : SumFits m x y → CommonFits m a c d p q

sum_of : (m a b c d p q : ℤ) (g : ℕ) (x y : Fraction) → IsStored m a b → IsStored m c d → over a b ≡ x →
    over c d ≡ y → IsGcd (nat_abs b) (nat_abs d) g → p ≡ quot_z b (pos g) → q ≡ quot_z d (pos g) →
    Sum m a b c d (pos g) p q x y
sum_of m a b c d p q g x y s t u v is ep eq = record {
  inner = dvd_trans g is.1
      (subst (λ n. nat_abs d ∣ n) (sym (unsigned_abs-mul p d)) (dvd-mul_left (nat_abs d) (nat_abs p)));
  outer = shared_divides a b c d p q g s.lowest t.lowest is ep eq;
  value = sum_at a b c d p q (pos g) s.lowest.positive t.lowest.positive hp
      (ap (λ z. pos g *ℤ z) ep ∙ exact-part b g is.0) (ap (λ z. pos g *ℤ z) eq ∙ exact-part d g is.1)
      ∙ (λ i. add (u i) (v i));
  positive = mul_pos p d hp t.lowest.positive;
  fits = λ f. subst (λ (t : ℤ × ℤ × ℤ × ℤ × ℤ). CommonFits m t.0 t.1 t.2 t.3 t.4) same f;
  at = λ f. subst (λ (t : ℤ × ℤ × ℤ × ℤ × ℤ). CommonFits m t.0 t.1 t.2 t.3 t.4) (sym same) f;
}
  where
    hp : pos 0 ≺ p
    hp = subst (λ z. pos 0 ≺ z) (sym ep) (positive-part b g s.lowest.positive is.0)

    eb : b ≡ pos x.den
    eb = sym (over-lowest a b s.lowest).1 ∙ ap (λ (z : Fraction). pos z.den) u

    ed : d ≡ pos y.den
    ed = sym (over-lowest c d t.lowest).1 ∙ ap (λ (z : Fraction). pos z.den) v

    eg : g ≡ gcd x.den y.den
    eg = same_from_IsGcd x.den y.den g (gcd x.den y.den)
        (subst₂ (λ (m n : ℤ). IsGcd (nat_abs m) (nat_abs n) g) eb ed is) (gcd-is x.den y.den)

    same : ◌≡◌ {A = ℤ × ℤ × ℤ × ℤ × ℤ} (a, c, d, p, q) (
      x.num,
      y.num,
      pos y.den,
      quot_z (pos x.den) (pos (gcd x.den y.den)),
      quot_z (pos y.den) (pos (gcd x.den y.den)),
    )
    same = λ i. (
      (sym (over-lowest a b s.lowest).0 ∙ ap (λ (z : Fraction). z.num) u) i,
      (sym (over-lowest c d t.lowest).0 ∙ ap (λ (z : Fraction). z.num) v) i,
      ed i,
      (ep ∙ (λ j. quot_z (eb j) (pos (eg j)))) i,
      (eq ∙ (λ j. quot_z (ed j) (pos (eg j)))) i,
    )

pub sum : {m a b c d g p q : ℤ} {x y : Fraction} → IsStored m a b → IsStored m c d → over a b ≡ x → over c d ≡ y →
    IsShared m b d g p q → Sum m a b c d g p q x y
sum {m} {a} {b} {c} {d} {g = pos g} {p} {q} {x} {y} s t u v h = sum_of m a b c d p q g x y s t u v h.gcd h.left h.right
sum {m} {a} {b} {c} {d} {g = negsuc g} {p} {q} {x} {y} s t u v h = absurd (let k = h.positive in omega (arith, ints))

-- what the code makes of the two terms l and r
pub total-too_wide : {m a b c d g p q l r : ℤ} {x y : Fraction} → Sum m a b c d g p q x y →
    Within m (a *ℤ q) × (l ≡ a *ℤ q) → Within m (c *ℤ p) × (r ≡ c *ℤ p) → ¬ (Within m (l +ℤ r)) →
    ¬ (SumFits m x y)
total-too_wide {m} {a} {b} {c} {d} {g} {p} {q} {l} {r} {x} {y} s el er h f = h
    (subst (Within m) (λ i. sym el.1 i +ℤ sym er.1 i) (s.at f).total)

pub sum-fits : {m a b c d g p q l r n e : ℤ} {x y : Fraction} → Sum m a b c d g p q x y →
    Within m (p *ℤ d) × (e ≡ p *ℤ d) → Within m (a *ℤ q) × (l ≡ a *ℤ q) → Within m (c *ℤ p) × (r ≡ c *ℤ p) →
    Within m (l +ℤ r) × (n ≡ l +ℤ r) → SumFits m x y
sum-fits {m} {a} {b} {c} {d} {g} {p} {q} {l} {r} {n} {e} {x} {y} s ee el er en = s.fits record {
  den = ee.0;
  left = el.0;
  right = er.0;
  total = subst
      (Within m) (λ i. el.1 i +ℤ er.1 i) en.0;
}

pub sum-value : {m a b c d g p q l r n e : ℤ} {x y : Fraction} → Sum m a b c d g p q x y →
    Within m (p *ℤ d) × (e ≡ p *ℤ d) → Within m (a *ℤ q) × (l ≡ a *ℤ q) → Within m (c *ℤ p) × (r ≡ c *ℤ p) →
    Within m (l +ℤ r) × (n ≡ l +ℤ r) → over n e ≡ add x y
sum-value {m} {a} {b} {c} {d} {g} {p} {q} {l} {r} {n} {e} {x} {y} s ee el er en =
    (λ i. over ((en.1 ∙ (λ j. el.1 j +ℤ er.1 j)) i) (ee.1 i))
    ∙ s.value

-- the numerator and the denominator that the code makes, for their common divisor
pub total-inner : {m a b c d g p q e : ℤ} {x y : Fraction} → Sum m a b c d g p q x y →
    Within m (p *ℤ d) × (e ≡ p *ℤ d) →
    (pos 0 ≺ e) × (nat_abs g ∣ nat_abs e)
total-inner {m} {a} {b} {c} {d} {g} {p} {q} {e} {x} {y} s ee = subst
    (λ z. (pos 0 ≺ z) × (nat_abs g ∣ nat_abs z)) (sym ee.1) (s.positive, s.inner)

pub total-outer : {m a b c d g p q l r n e : ℤ} {x y : Fraction} → Sum m a b c d g p q x y →
    Within m (p *ℤ d) × (e ≡ p *ℤ d) → Within m (a *ℤ q) × (l ≡ a *ℤ q) → Within m (c *ℤ p) × (r ≡ c *ℤ p) →
    Within m (l +ℤ r) × (n ≡ l +ℤ r) → (k : ℕ) → k ∣ nat_abs n → k ∣ nat_abs e → k ∣ nat_abs g
total-outer {m} {a} {b} {c} {d} {g} {p} {q} {l} {r} {n} {e} {x} {y} s ee el er en k h i = s.outer k
    (subst (λ z. k ∣ nat_abs z) (en.1 ∙ (λ j. el.1 j +ℤ er.1 j)) h) (subst (λ z. k ∣ nat_abs z) ee.1 i)
