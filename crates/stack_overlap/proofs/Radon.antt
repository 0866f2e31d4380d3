-- Radon: of four points, some combination of some is one of the others.
use mathlib.Core.Path.{◌≡◌, refl, sym, ap, ◌∙◌, subst}
use mathlib.Core.List.{[], ◌∷◌}
use mathlib.Core.Logic.{◌⊎◌, inl, inr}
use Prim.Native.Nat.{zero, suc}
use native.Mathlib.Omega.{arith}
use lib.IntN.{ℤ, pos, negsuc, ◌+ℤ◌, ◌-ℤ◌, ◌*ℤ◌, neg_ℤ}
use Rattle.stack_algebra.proofs.Integers.{sums, expand}
use Rattle.stack_algebra.proofs.Ring.{◌⊕◌, ◌⊗◌, solve, nth}
use Rattle.stack_algebra.proofs.IntegerRing.{integers}
use Rattle.stack_algebra.proofs.Order.{◌≼◌, ◌≺◌, mul_nonneg}
use Rattle.std.proofs.lemmas.Int.{ints}
use Rattle.stack_polygon.specs.Plane.{Triple}
use Rattle.stack_overlap.specs.Forms.{LinearForm, value}
use Rattle.stack_overlap.proofs.Coefficients.{v, mix, form, IsDependent, coefficients}

-- the part of a number above 0
abbrev pub above : ℤ → ℤ
above (pos n) = pos n
above (negsuc n) = pos 0

pub record IsSplit (c p m : ℤ) : Type 0 where
  pub whole : c ≡ p -ℤ m
  pub p_least : pos 0 ≼ p
  pub m_least : pos 0 ≼ m
  pub one : (p ≡ pos 0) ⊎ (m ≡ pos 0)

split : (c : ℤ) → IsSplit c (above c) (above (neg_ℤ c))
split (pos zero) = record {
  whole = refl;
  p_least = omega (arith, ints);
  m_least = omega
      (arith, ints);
  one = inl refl;
}
split (pos (suc n)) = record {
  whole = omega (arith, ints);
  p_least = omega (arith, ints);
  m_least = omega
      (arith, ints);
  one = inr refl;
}
split (negsuc n) = record {
  whole = omega (arith, ints);
  p_least = omega (arith, ints);
  m_least = omega
      (arith, ints);
  one = inl refl;
}

at_least : (p v : ℤ) → pos 0 ≼ p → (p ≡ pos 0) ⊎ (pos 0 ≺ v) → p ≼ p *ℤ v
at_least p v h (inl e) = subst (λ z. z ≼ z *ℤ v) (sym e) (none v)
  where
    none : (v : ℤ) → pos 0 ≼ pos 0 *ℤ v
    none v = omega (arith, ints)
at_least p v h (inr l) = let m = mul_nonneg p (v -ℤ pos 1) h (omega (arith, sums)) in
    omega (arith, sums, simp expand at m)

-- a sum of positive values with weights that are not all 0
weighted : (p₀ p₁ p₂ p₃ v₀ v₁ v₂ v₃ : ℤ) → pos 0 ≼ p₀ → pos 0 ≼ p₁ → pos 0 ≼ p₂ → pos 0 ≼ p₃
    → pos 0 ≺ (p₀ +ℤ p₁ +ℤ p₂ +ℤ p₃) →
    (p₀ ≡ pos 0) ⊎ (pos 0 ≺ v₀) → (p₁ ≡ pos 0) ⊎ (pos 0 ≺ v₁) → (p₂ ≡ pos 0) ⊎ (pos 0 ≺ v₂)
    → (p₃ ≡ pos 0) ⊎ (pos 0 ≺ v₃) →
    pos 0 ≺ (p₀ *ℤ v₀ +ℤ p₁ *ℤ v₁ +ℤ p₂ *ℤ v₂ +ℤ p₃ *ℤ v₃)
weighted p₀ p₁ p₂ p₃ v₀ v₁ v₂ v₃ h₀ h₁ h₂ h₃ s k₀ k₁ k₂ k₃ =
    let m₀ = at_least p₀ v₀ h₀ k₀ in let m₁ = at_least p₁ v₁ h₁ k₁ in let m₂ = at_least p₂ v₂ h₂ k₂ in
    let m₃ = at_least p₃ v₃ h₃ k₃ in
    omega (arith, sums)

-- one of two sums with the same weighted sum is positive, if both together are
one-sum : (p₀ p₁ p₂ p₃ m₀ m₁ m₂ m₃ w₀ w₁ w₂ w₃ : ℤ) → pos 0 ≼ p₀ → pos 0 ≼ p₁ → pos 0 ≼ p₂ → pos 0 ≼ p₃
    → pos 0 ≼ m₀ → pos 0 ≼ m₁ → pos 0 ≼ m₂ → pos 0 ≼ m₃ →
    pos 0 ≺ w₀ → pos 0 ≺ w₁ → pos 0 ≺ w₂ → pos 0 ≺ w₃ →
    p₀ *ℤ w₀ +ℤ p₁ *ℤ w₁ +ℤ p₂ *ℤ w₂ +ℤ p₃ *ℤ w₃ ≡ m₀ *ℤ w₀ +ℤ m₁ *ℤ w₁ +ℤ m₂ *ℤ w₂ +ℤ m₃ *ℤ w₃ →
    pos 0 ≺ (p₀ +ℤ p₁ +ℤ p₂ +ℤ p₃ +ℤ (m₀ +ℤ m₁ +ℤ m₂ +ℤ m₃)) → pos 0 ≺ (p₀ +ℤ p₁ +ℤ p₂ +ℤ p₃)
one-sum p₀ p₁ p₂ p₃ m₀ m₁ m₂ m₃ w₀ w₁ w₂ w₃ hp₀ hp₁ hp₂ hp₃ hm₀ hm₁ hm₂ hm₃ k₀ k₁ k₂ k₃ e s =
    go (p₀ +ℤ p₁ +ℤ p₂ +ℤ p₃) refl
  where
    none : (p w : ℤ) → p ≡ pos 0 → p *ℤ w ≡ pos 0
    none p w e = ap (λ z. z *ℤ w) e ∙ zero w
      where
        zero : (w : ℤ) → pos 0 *ℤ w ≡ pos 0
        zero w = omega (arith, ints)

    go : (z : ℤ) → p₀ +ℤ p₁ +ℤ p₂ +ℤ p₃ ≡ z → pos 0 ≺ z
    go (pos (suc n)) f = omega (arith, ints)
    go (negsuc n) f = absurd (omega (arith, ints, f))
    go (pos zero) f =
        let z₀ = none p₀ w₀ (omega (arith, sums)) in let z₁ = none p₁ w₁ (omega (arith, sums)) in
        let z₂ = none p₂ w₂ (omega (arith, sums)) in let z₃ = none p₃ w₃ (omega (arith, sums)) in
        let l₀ = at_least m₀ w₀ hm₀ (inr k₀) in let l₁ = at_least m₁ w₁ hm₁ (inr k₁) in
        let l₂ = at_least m₂ w₂ hm₂ (inr k₂) in let l₃ = at_least m₃ w₃ hm₃ (inr k₃) in
        absurd (omega (arith, sums))

-- S is a combination of the points with weights p, and one with weights m
pub record IsMeeting (X₀ X₁ X₂ X₃ S : Triple) : Type 0 where
  pub without_0 : (f : LinearForm) → pos 0 ≺ value f X₁ → pos 0 ≺ value f X₂ → pos 0 ≺ value f X₃ → pos 0 ≺ value f S
  pub without_1 : (f : LinearForm) → pos 0 ≺ value f X₀ → pos 0 ≺ value f X₂ → pos 0 ≺ value f X₃ → pos 0 ≺ value f S
  pub without_2 : (f : LinearForm) → pos 0 ≺ value f X₀ → pos 0 ≺ value f X₁ → pos 0 ≺ value f X₃ → pos 0 ≺ value f S
  pub without_3 : (f : LinearForm) → pos 0 ≺ value f X₀ → pos 0 ≺ value f X₁ → pos 0 ≺ value f X₂ → pos 0 ≺ value f S

-- the weights of a point that is two combinations of four
record IsBoth (X₀ X₁ X₂ X₃ : Triple) (p₀ p₁ p₂ p₃ m₀ m₁ m₂ m₃ : ℤ) : Type 0 where
  x : p₀ *ℤ X₀.x +ℤ p₁ *ℤ X₁.x +ℤ p₂ *ℤ X₂.x +ℤ p₃ *ℤ X₃.x ≡ m₀ *ℤ X₀.x +ℤ m₁ *ℤ X₁.x +ℤ m₂ *ℤ X₂.x +ℤ m₃ *ℤ X₃.x
  y : p₀ *ℤ X₀.y +ℤ p₁ *ℤ X₁.y +ℤ p₂ *ℤ X₂.y +ℤ p₃ *ℤ X₃.y ≡ m₀ *ℤ X₀.y +ℤ m₁ *ℤ X₁.y +ℤ m₂ *ℤ X₂.y +ℤ m₃ *ℤ X₃.y
  w : p₀ *ℤ X₀.w +ℤ p₁ *ℤ X₁.w +ℤ p₂ *ℤ X₂.w +ℤ p₃ *ℤ X₃.w ≡ m₀ *ℤ X₀.w +ℤ m₁ *ℤ X₁.w +ℤ m₂ *ℤ X₂.w +ℤ m₃ *ℤ X₃.w
  p₀-least : pos 0 ≼ p₀
  p₁-least : pos 0 ≼ p₁
  p₂-least : pos 0 ≼ p₂
  p₃-least : pos 0 ≼ p₃
  m₀-least : pos 0 ≼ m₀
  m₁-least : pos 0 ≼ m₁
  m₂-least : pos 0 ≼ m₂
  m₃-least : pos 0 ≼ m₃
  p-some : pos 0 ≺ (p₀ +ℤ p₁ +ℤ p₂ +ℤ p₃)
  m-some : pos 0 ≺ (m₀ +ℤ m₁ +ℤ m₂ +ℤ m₃)
  one₀ : (p₀ ≡ pos 0) ⊎ (m₀ ≡ pos 0)
  one₁ : (p₁ ≡ pos 0) ⊎ (m₁ ≡ pos 0)
  one₂ : (p₂ ≡ pos 0) ⊎ (m₂ ≡ pos 0)
  one₃ : (p₃ ≡ pos 0) ⊎ (m₃ ≡ pos 0)

both_of : (X₀ X₁ X₂ X₃ : Triple) (c₀ c₁ c₂ c₃ p₀ p₁ p₂ p₃ m₀ m₁ m₂ m₃ : ℤ) → IsDependent X₀ X₁ X₂ X₃ c₀ c₁ c₂ c₃
    → IsSplit c₀ p₀ m₀ → IsSplit c₁ p₁ m₁ → IsSplit c₂ p₂ m₂ → IsSplit c₃ p₃ m₃ →
    IsBoth X₀ X₁ X₂ X₃ p₀ p₁ p₂ p₃ m₀ m₁ m₂ m₃
both_of X₀ X₁ X₂ X₃ c₀ c₁ c₂ c₃ p₀ p₁ p₂ p₃ m₀ m₁ m₂ m₃ d s₀ s₁ s₂ s₃ = record {
  x = part c₀ c₁ c₂ c₃ p₀ p₁ p₂ p₃ m₀ m₁ m₂ m₃ X₀.x X₁.x X₂.x X₃.x s₀.whole s₁.whole s₂.whole s₃.whole d.x;
  y = part c₀ c₁ c₂ c₃ p₀ p₁ p₂ p₃ m₀ m₁ m₂ m₃ X₀.y X₁.y X₂.y X₃.y s₀.whole s₁.whole s₂.whole s₃.whole d.y;
  w = level;
  p₀-least = s₀.p_least;
  p₁-least = s₁.p_least;
  p₂-least = s₂.p_least;
  p₃-least = s₃.p_least;
  m₀-least = s₀.m_least;
  m₁-least = s₁.m_least;
  m₂-least = s₂.m_least;
  m₃-least = s₃.m_least;
  p-some = one-sum p₀ p₁ p₂ p₃ m₀ m₁ m₂ m₃ X₀.w X₁.w X₂.w X₃.w s₀.p_least s₁.p_least s₂.p_least s₃.p_least
      s₀.m_least s₁.m_least s₂.m_least s₃.m_least X₀.positive X₁.positive X₂.positive X₃.positive level total;
  m-some = one-sum m₀ m₁ m₂ m₃ p₀ p₁ p₂ p₃ X₀.w X₁.w X₂.w X₃.w s₀.m_least s₁.m_least s₂.m_least s₃.m_least
      s₀.p_least s₁.p_least s₂.p_least s₃.p_least X₀.positive X₁.positive X₂.positive X₃.positive (sym level)
      (other (p₀ +ℤ p₁ +ℤ p₂ +ℤ p₃) (m₀ +ℤ m₁ +ℤ m₂ +ℤ m₃) total);
  one₀ = s₀.one;
  one₁ = s₁.one;
  one₂ = s₂.one;
  one₃ = s₃.one;
}
  where
    part : (c₀ c₁ c₂ c₃ p₀ p₁ p₂ p₃ m₀ m₁ m₂ m₃ x₀ x₁ x₂ x₃ : ℤ) → c₀ ≡ p₀ -ℤ m₀ → c₁ ≡ p₁ -ℤ m₁ → c₂ ≡ p₂ -ℤ m₂
        → c₃ ≡ p₃ -ℤ m₃ → c₀ *ℤ x₀ +ℤ c₁ *ℤ x₁ +ℤ c₂ *ℤ x₂ +ℤ c₃ *ℤ x₃ ≡ pos 0 →
        p₀ *ℤ x₀ +ℤ p₁ *ℤ x₁ +ℤ p₂ *ℤ x₂ +ℤ p₃ *ℤ x₃ ≡ m₀ *ℤ x₀ +ℤ m₁ *ℤ x₁ +ℤ m₂ *ℤ x₂ +ℤ m₃ *ℤ x₃
    part c₀ c₁ c₂ c₃ p₀ p₁ p₂ p₃ m₀ m₁ m₂ m₃ x₀ x₁ x₂ x₃ e₀ e₁ e₂ e₃ e =
        let h : (p₀ -ℤ m₀) *ℤ x₀ +ℤ (p₁ -ℤ m₁) *ℤ x₁ +ℤ (p₂ -ℤ m₂) *ℤ x₂ +ℤ (p₃ -ℤ m₃) *ℤ x₃ ≡ pos 0 =
        (λ i. sym e₀ i *ℤ x₀ +ℤ sym e₁ i *ℤ x₁ +ℤ sym e₂ i *ℤ x₂ +ℤ sym e₃ i *ℤ x₃) ∙ e in
        omega (arith, sums, simp expand at h)

    level : p₀ *ℤ X₀.w +ℤ p₁ *ℤ X₁.w +ℤ p₂ *ℤ X₂.w +ℤ p₃ *ℤ X₃.w ≡ m₀ *ℤ X₀.w +ℤ m₁ *ℤ X₁.w +ℤ m₂ *ℤ X₂.w +ℤ m₃ *ℤ X₃.w
    level = part c₀ c₁ c₂ c₃ p₀ p₁ p₂ p₃ m₀ m₁ m₂ m₃ X₀.w X₁.w X₂.w X₃.w s₀.whole s₁.whole s₂.whole s₃.whole d.w

    other : (a b : ℤ) → pos 0 ≺ (a +ℤ b) → pos 0 ≺ (b +ℤ a)
    other a b l = omega (arith, sums)

    total : pos 0 ≺ (p₀ +ℤ p₁ +ℤ p₂ +ℤ p₃ +ℤ (m₀ +ℤ m₁ +ℤ m₂ +ℤ m₃))
    total = go c₀ c₁ c₂ c₃ p₀ p₁ p₂ p₃ m₀ m₁ m₂ m₃ s₀.whole s₁.whole s₂.whole s₃.whole s₀.p_least s₁.p_least
        s₂.p_least s₃.p_least s₀.m_least s₁.m_least s₂.m_least s₃.m_least d.some
      where
        none : (c : ℤ) → c ≡ pos 0 → c *ℤ c ≡ pos 0
        none c e = (λ i. e i *ℤ e i)

        go : (c₀ c₁ c₂ c₃ p₀ p₁ p₂ p₃ m₀ m₁ m₂ m₃ : ℤ) → c₀ ≡ p₀ -ℤ m₀ → c₁ ≡ p₁ -ℤ m₁ → c₂ ≡ p₂ -ℤ m₂
            → c₃ ≡ p₃ -ℤ m₃ →
            pos 0 ≼ p₀ → pos 0 ≼ p₁ → pos 0 ≼ p₂ → pos 0 ≼ p₃ → pos 0 ≼ m₀ → pos 0 ≼ m₁ → pos 0 ≼ m₂
            → pos 0 ≼ m₃ →
            pos 0 ≺ (c₀ *ℤ c₀ +ℤ (c₁ *ℤ c₁ +ℤ c₂ *ℤ c₂ +ℤ c₃ *ℤ c₃))
            → pos 0 ≺ (p₀ +ℤ p₁ +ℤ p₂ +ℤ p₃ +ℤ (m₀ +ℤ m₁ +ℤ m₂ +ℤ m₃))
        go c₀ c₁ c₂ c₃ p₀ p₁ p₂ p₃ m₀ m₁ m₂ m₃ e₀ e₁ e₂ e₃ hp₀ hp₁ hp₂ hp₃ hm₀ hm₁ hm₂ hm₃ s =
            at (p₀ +ℤ p₁ +ℤ p₂ +ℤ p₃ +ℤ (m₀ +ℤ m₁ +ℤ m₂ +ℤ m₃)) refl
          where
            at : (z : ℤ) → p₀ +ℤ p₁ +ℤ p₂ +ℤ p₃ +ℤ (m₀ +ℤ m₁ +ℤ m₂ +ℤ m₃) ≡ z → pos 0 ≺ z
            at (pos (suc n)) f = omega (arith, ints)
            at (negsuc n) f = absurd (omega (arith, ints, f))
            at (pos zero) f =
                let z₀ = none c₀ (omega (arith, sums)) in let z₁ = none c₁ (omega (arith, sums)) in
                let z₂ = none c₂ (omega (arith, sums)) in let z₃ = none c₃ (omega (arith, sums)) in
                absurd (omega (arith, sums))

-- an open half-plane with three of the four points has a point of all such
pub meeting : (X₀ X₁ X₂ X₃ : Triple) → (S : Triple) × IsMeeting X₀ X₁ X₂ X₃ S
meeting X₀ X₁ X₂ X₃ =
    let (c₀, c₁, c₂, c₃, d) = coefficients X₀ X₁ X₂ X₃ in
    go (above c₀) (above c₁) (above c₂) (above c₃) (above (neg_ℤ c₀)) (above (neg_ℤ c₁)) (above (neg_ℤ c₂))
    (above (neg_ℤ c₃))
    (both_of X₀ X₁ X₂ X₃ c₀ c₁ c₂ c₃ (above c₀) (above c₁) (above c₂) (above c₃) (above (neg_ℤ c₀))
    (above (neg_ℤ c₁)) (above (neg_ℤ c₂)) (above (neg_ℤ c₃)) d (split c₀) (split c₁) (split c₂) (split c₃))
  where
    go : (p₀ p₁ p₂ p₃ m₀ m₁ m₂ m₃ : ℤ) → IsBoth X₀ X₁ X₂ X₃ p₀ p₁ p₂ p₃ m₀ m₁ m₂ m₃
        → (S : Triple) × IsMeeting X₀ X₁ X₂ X₃ S
    go p₀ p₁ p₂ p₃ m₀ m₁ m₂ m₃ b = (
      S,
      record {
        without_0 = λ f v₁ v₂ v₃. elim b.one₀ [
          | inl e ↦ by_p f (inl e) (inr v₁) (inr v₂) (inr v₃)
          | inr e ↦
              by_m f (inl e) (inr v₁) (inr v₂) (inr v₃)
        ];
        without_1 = λ f v₀ v₂ v₃. elim b.one₁ [
          | inl e ↦ by_p f (inr v₀) (inl e) (inr v₂) (inr v₃)
          | inr e ↦
              by_m f (inr v₀) (inl e) (inr v₂) (inr v₃)
        ];
        without_2 = λ f v₀ v₁ v₃. elim b.one₂ [
          | inl e ↦ by_p f (inr v₀) (inr v₁) (inl e) (inr v₃)
          | inr e ↦
              by_m f (inr v₀) (inr v₁) (inl e) (inr v₃)
        ];
        without_3 = λ f v₀ v₁ v₂. elim b.one₃ [
          | inl e ↦ by_p f (inr v₀) (inr v₁) (inr v₂) (inl e)
          | inr e ↦
              by_m f (inr v₀) (inr v₁) (inr v₂) (inl e)
        ];
      },
    )
      where
        S : Triple
        S = record {
          x = p₀ *ℤ X₀.x +ℤ p₁ *ℤ X₁.x +ℤ p₂ *ℤ X₂.x +ℤ p₃ *ℤ X₃.x;
          y = p₀ *ℤ X₀.y +ℤ p₁ *ℤ X₁.y +ℤ p₂ *ℤ X₂.y +ℤ p₃ *ℤ X₃.y;
          w = p₀ *ℤ X₀.w +ℤ p₁ *ℤ X₁.w +ℤ p₂ *ℤ X₂.w +ℤ p₃ *ℤ X₃.w;
          positive = weighted p₀ p₁ p₂ p₃ X₀.w X₁.w X₂.w X₃.w b.p₀-least b.p₁-least b.p₂-least b.p₃-least b.p-some
              (inr X₀.positive) (inr X₁.positive) (inr X₂.positive) (inr X₃.positive);
        }

        spread : (f : LinearForm) (q₀ q₁ q₂ q₃ : ℤ) → f.l *ℤ
            (q₀ *ℤ X₀.x +ℤ q₁ *ℤ X₁.x +ℤ q₂ *ℤ X₂.x +ℤ q₃ *ℤ X₃.x) +ℤ f.m *ℤ
            (q₀ *ℤ X₀.y +ℤ q₁ *ℤ X₁.y +ℤ q₂ *ℤ X₂.y +ℤ q₃ *ℤ X₃.y) +ℤ f.n *ℤ
            (q₀ *ℤ X₀.w +ℤ q₁ *ℤ X₁.w +ℤ q₂ *ℤ X₂.w +ℤ q₃ *ℤ X₃.w)
            ≡ q₀ *ℤ value f X₀ +ℤ q₁ *ℤ value f X₁ +ℤ q₂ *ℤ value f X₂ +ℤ q₃ *ℤ value f X₃
        spread f q₀ q₁ q₂ q₃ = solve integers (nth integers
            (f.l ∷ f.m ∷ f.n ∷ q₀ ∷ q₁ ∷ q₂ ∷ q₃ ∷ X₀.x ∷ X₀.y ∷ X₀.w ∷ X₁.x ∷ X₁.y ∷ X₁.w ∷ X₂.x ∷ X₂.y ∷ X₂.w
            ∷ X₃.x ∷ X₃.y ∷ X₃.w ∷ []))
            (v 0 ⊗ mix 7 10 13 16 ⊕ v 1 ⊗ mix 8 11 14 17 ⊕ v 2 ⊗ mix 9 12 15 18)
            (v 3 ⊗ form 7 8 9 ⊕ v 4 ⊗ form 10 11 12 ⊕ v 5 ⊗ form 13 14 15 ⊕ v 6 ⊗ form 16 17 18) refl

        by_p : (f : LinearForm) → (p₀ ≡ pos 0) ⊎ (pos 0 ≺ value f X₀) → (p₁ ≡ pos 0) ⊎ (pos 0 ≺ value f X₁)
            → (p₂ ≡ pos 0) ⊎ (pos 0 ≺ value f X₂) → (p₃ ≡ pos 0) ⊎ (pos 0 ≺ value f X₃) → pos 0 ≺ value f S
        by_p f k₀ k₁ k₂ k₃ = subst (λ z. pos 0 ≺ z) (sym (spread f p₀ p₁ p₂ p₃))
            (weighted p₀ p₁ p₂ p₃ (value f X₀) (value f X₁) (value f X₂)
            (value f X₃) b.p₀-least b.p₁-least b.p₂-least b.p₃-least b.p-some k₀ k₁ k₂ k₃)

        by_m : (f : LinearForm) → (m₀ ≡ pos 0) ⊎ (pos 0 ≺ value f X₀) → (m₁ ≡ pos 0) ⊎ (pos 0 ≺ value f X₁)
            → (m₂ ≡ pos 0) ⊎ (pos 0 ≺ value f X₂) → (m₃ ≡ pos 0) ⊎ (pos 0 ≺ value f X₃) → pos 0 ≺ value f S
        by_m f k₀ k₁ k₂ k₃ = subst (λ z. pos 0 ≺ z)
            (sym ((λ i. f.l *ℤ b.x i +ℤ f.m *ℤ b.y i +ℤ f.n *ℤ b.w i) ∙ spread f m₀ m₁ m₂ m₃))
            (weighted m₀ m₁ m₂ m₃ (value f X₀) (value f X₁) (value f X₂)
            (value f X₃) b.m₀-least b.m₁-least b.m₂-least b.m₃-least b.m-some k₀ k₁ k₂ k₃)
