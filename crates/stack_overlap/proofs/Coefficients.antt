-- Whole coefficients, not all 0, with which four points of the plane sum to nothing.
use mathlib.Core.Path.{◌≡◌, refl}
use mathlib.Core.Logic.{◌⊎◌, inl, inr}
use Prim.Native.Nat.{ℕ, zero, suc}
use native.Mathlib.Omega.{arith}
use lib.IntN.{ℤ, pos, negsuc, ◌+ℤ◌, ◌-ℤ◌, ◌*ℤ◌, neg_ℤ}
use Rattle.stack_algebra.proofs.Integers.{sums, expand}
use Rattle.stack_algebra.proofs.Ring.{Exp, var, ◌⊕◌, ◌⊗◌}
use Rattle.stack_algebra.proofs.Order.{◌≺◌, mul_pos, square_nonneg}
use Rattle.std.proofs.lemmas.Int.{ints}
use Rattle.stack_polygon.specs.Plane.{Triple}

abbrev pub v : ℕ → Exp
v k = var k

abbrev pub mix : ℕ → ℕ → ℕ → ℕ → Exp
mix a b c d = v 3 ⊗ v a ⊕ v 4 ⊗ v b ⊕ v 5 ⊗ v c ⊕ v 6 ⊗ v d

abbrev pub form : ℕ → ℕ → ℕ → Exp
form x y w = v 0 ⊗ v x ⊕ v 1 ⊗ v y ⊕ v 2 ⊗ v w

zero-or : (z : ℤ) → (z ≡ pos 0) ⊎ (pos 0 ≺ z *ℤ z)
zero-or (pos zero) = inl refl
zero-or (pos (suc n)) = inr (omega (arith, ints))
zero-or (negsuc n) = inr (omega (arith, ints))

-- whole coefficients, not all 0, with which three vectors of the plane sum to 0
record IsFlat (u₁ v₁ u₂ v₂ u₃ v₃ a b c : ℤ) : Type 0 where
  across : a *ℤ u₁ +ℤ b *ℤ u₂ +ℤ c *ℤ u₃ ≡ pos 0
  up : a *ℤ v₁ +ℤ b *ℤ v₂ +ℤ c *ℤ v₃ ≡ pos 0
  some : pos 0 ≺ (a *ℤ a +ℤ b *ℤ b +ℤ c *ℤ c)

flat_coefficients : (u₁ v₁ u₂ v₂ u₃ v₃ : ℤ) → (a : ℤ) × (b : ℤ) × (c : ℤ) × IsFlat u₁ v₁ u₂ v₂ u₃ v₃ a b c
flat_coefficients u₁ v₁ u₂ v₂ u₃ v₃ = first (zero-or (u₁ *ℤ v₂ -ℤ v₁ *ℤ u₂))
  where
    all : (u₁ v₁ u₂ v₂ u₃ v₃ : ℤ) → (u₂ *ℤ v₃ -ℤ v₂ *ℤ u₃) *ℤ u₁ +ℤ (u₃ *ℤ v₁ -ℤ v₃ *ℤ u₁) *ℤ u₂ +ℤ
        (u₁ *ℤ v₂ -ℤ v₁ *ℤ u₂) *ℤ u₃ ≡ pos 0
    all u₁ v₁ u₂ v₂ u₃ v₃ = simp expand (omega (arith, sums))

    all' : (u₁ v₁ u₂ v₂ u₃ v₃ : ℤ) → (u₂ *ℤ v₃ -ℤ v₂ *ℤ u₃) *ℤ v₁ +ℤ (u₃ *ℤ v₁ -ℤ v₃ *ℤ u₁) *ℤ v₂ +ℤ
        (u₁ *ℤ v₂ -ℤ v₁ *ℤ u₂) *ℤ v₃ ≡ pos 0
    all' u₁ v₁ u₂ v₂ u₃ v₃ = simp expand (omega (arith, sums))

    last : (a b c : ℤ) → pos 0 ≺ c *ℤ c → pos 0 ≺ (a *ℤ a +ℤ b *ℤ b +ℤ c *ℤ c)
    last a b c h = let p = square_nonneg a in let q = square_nonneg b in omega (arith, sums)

    middle : (a b : ℤ) → pos 0 ≺ b *ℤ b → pos 0 ≺ (a *ℤ a +ℤ neg_ℤ b *ℤ neg_ℤ b +ℤ pos 0 *ℤ pos 0)
    middle a b h = let p = square_nonneg a in simp expand (omega (arith, sums))

    own : (u v w : ℤ) → u *ℤ v +ℤ neg_ℤ v *ℤ u +ℤ pos 0 *ℤ w ≡ pos 0
    own u v w = simp expand (omega (arith, sums))

    crossed : (u₁ v₁ u₂ v₂ w : ℤ) → u₁ *ℤ v₂ -ℤ v₁ *ℤ u₂ ≡ pos 0
        → u₂ *ℤ v₁ +ℤ neg_ℤ u₁ *ℤ v₂ +ℤ pos 0 *ℤ w ≡ pos 0
    crossed u₁ v₁ u₂ v₂ w e = simp expand (omega (arith, sums))

    crossed' : (u₁ v₁ u₂ v₂ w : ℤ) → u₁ *ℤ v₂ -ℤ v₁ *ℤ u₂ ≡ pos 0
        → v₂ *ℤ u₁ +ℤ neg_ℤ v₁ *ℤ u₂ +ℤ pos 0 *ℤ w ≡ pos 0
    crossed' u₁ v₁ u₂ v₂ w e = simp expand (omega (arith, sums))

    alone : (u v w : ℤ) → u ≡ pos 0 → pos 1 *ℤ u +ℤ pos 0 *ℤ v +ℤ pos 0 *ℤ w ≡ pos 0
    alone u v w e = omega (arith, ints, e)

    first : (u₁ *ℤ v₂ -ℤ v₁ *ℤ u₂ ≡ pos 0) ⊎ (pos 0 ≺ (u₁ *ℤ v₂ -ℤ v₁ *ℤ u₂) *ℤ (u₁ *ℤ v₂ -ℤ v₁ *ℤ u₂))
        → (a : ℤ) × (b : ℤ) × (c : ℤ) × IsFlat u₁ v₁ u₂ v₂ u₃ v₃ a b c
    first (inr h) = (
      u₂ *ℤ v₃ -ℤ v₂ *ℤ u₃,
      u₃ *ℤ v₁ -ℤ v₃ *ℤ u₁,
      u₁ *ℤ v₂ -ℤ v₁ *ℤ u₂,
      record { across = all u₁ v₁ u₂ v₂ u₃ v₃; up = all' u₁ v₁ u₂ v₂ u₃ v₃; some = last _ _ _ h },
    )
    first (inl e) = elim (zero-or u₁) [
      | inr h ↦ (
        u₂,
        neg_ℤ u₁,
        pos 0,
        record {
          across = own u₂ u₁ u₃;
          up = crossed u₁ v₁ u₂ v₂ v₃ e;
          some = middle u₂ u₁ h;
        },
      )
      | inl d ↦ elim (zero-or v₁) [
        | inr h ↦ (
          v₂,
          neg_ℤ v₁,
          pos 0,
          record {
            across = crossed' u₁ v₁ u₂ v₂ u₃ e;
            up = own v₂ v₁ v₃;
            some = middle v₂ v₁ h;
          },
        )
        | inl k ↦ (
          pos 1,
          pos 0,
          pos 0,
          record {
            across = alone u₁ u₂ u₃ d;
            up = alone v₁ v₂ v₃ k;
            some = omega
                (arith, ints);
          },
        )
      ]
    ]

-- whole coefficients, not all 0, with which four triples sum to nothing
pub record IsDependent (X₀ X₁ X₂ X₃ : Triple) (c₀ c₁ c₂ c₃ : ℤ) : Type 0 where
  pub x : c₀ *ℤ X₀.x +ℤ c₁ *ℤ X₁.x +ℤ c₂ *ℤ X₂.x +ℤ c₃ *ℤ X₃.x ≡ pos 0
  pub y : c₀ *ℤ X₀.y +ℤ c₁ *ℤ X₁.y +ℤ c₂ *ℤ X₂.y +ℤ c₃ *ℤ X₃.y ≡ pos 0
  pub w : c₀ *ℤ X₀.w +ℤ c₁ *ℤ X₁.w +ℤ c₂ *ℤ X₂.w +ℤ c₃ *ℤ X₃.w ≡ pos 0
  pub some : pos 0 ≺ (c₀ *ℤ c₀ +ℤ (c₁ *ℤ c₁ +ℤ c₂ *ℤ c₂ +ℤ c₃ *ℤ c₃))

pub coefficients : (X₀ X₁ X₂ X₃ : Triple) → (c₀ : ℤ) × (c₁ : ℤ) × (c₂ : ℤ) ×
    (c₃ : ℤ) × IsDependent X₀ X₁ X₂ X₃ c₀ c₁ c₂ c₃
coefficients X₀ X₁ X₂ X₃ =
    let (a, b, c, h) = flat_coefficients (X₀.w *ℤ X₁.x -ℤ X₁.w *ℤ X₀.x) (X₀.w *ℤ X₁.y -ℤ X₁.w *ℤ X₀.y)
    (X₀.w *ℤ X₂.x -ℤ X₂.w *ℤ X₀.x) (X₀.w *ℤ X₂.y -ℤ X₂.w *ℤ X₀.y) (X₀.w *ℤ X₃.x -ℤ X₃.w *ℤ X₀.x)
    (X₀.w *ℤ X₃.y -ℤ X₃.w *ℤ X₀.y) in (
      neg_ℤ (a *ℤ X₁.w +ℤ b *ℤ X₂.w +ℤ c *ℤ X₃.w),
      X₀.w *ℤ a,
      X₀.w *ℤ b,
      X₀.w *ℤ c,
      record {
        x = lift a b c X₀.w X₁.w X₂.w X₃.w X₀.x X₁.x X₂.x X₃.x h.across;
        y = lift a b c X₀.w X₁.w X₂.w X₃.w X₀.y X₁.y X₂.y X₃.y h.up;
        w = level a b c X₀.w X₁.w X₂.w X₃.w;
        some = some a b c X₀.w (neg_ℤ (a *ℤ X₁.w +ℤ b *ℤ X₂.w +ℤ c *ℤ X₃.w)) X₀.positive h.some;
      },
    )
  where
    lift : (a b c w₀ w₁ w₂ w₃ x₀ x₁ x₂ x₃ : ℤ) → a *ℤ (w₀ *ℤ x₁ -ℤ w₁ *ℤ x₀) +ℤ b *ℤ
        (w₀ *ℤ x₂ -ℤ w₂ *ℤ x₀) +ℤ c *ℤ (w₀ *ℤ x₃ -ℤ w₃ *ℤ x₀) ≡ pos 0 →
        neg_ℤ (a *ℤ w₁ +ℤ b *ℤ w₂ +ℤ c *ℤ w₃) *ℤ x₀ +ℤ w₀ *ℤ a *ℤ x₁ +ℤ w₀ *ℤ b *ℤ x₂ +ℤ w₀ *ℤ c *ℤ x₃ ≡ pos 0
    lift a b c w₀ w₁ w₂ w₃ x₀ x₁ x₂ x₃ e = simp expand (omega (arith, sums, simp expand at e))

    level : (a b c w₀ w₁ w₂ w₃ : ℤ)
        → neg_ℤ (a *ℤ w₁ +ℤ b *ℤ w₂ +ℤ c *ℤ w₃) *ℤ w₀ +ℤ w₀ *ℤ a *ℤ w₁ +ℤ w₀ *ℤ b *ℤ w₂ +ℤ w₀ *ℤ c *ℤ w₃ ≡ pos 0
    level a b c w₀ w₁ w₂ w₃ = simp expand (omega (arith, sums))

    some : (a b c w d : ℤ) → pos 0 ≺ w → pos 0 ≺ (a *ℤ a +ℤ b *ℤ b +ℤ c *ℤ c)
        → pos 0 ≺ (d *ℤ d +ℤ (w *ℤ a *ℤ (w *ℤ a) +ℤ w *ℤ b *ℤ (w *ℤ b) +ℤ w *ℤ c *ℤ (w *ℤ c)))
    some a b c w d hw h = let p = square_nonneg d in let m = mul_pos (w *ℤ w) _ (mul_pos w w hw hw) h in
        simp expand (omega (arith, sums, simp expand at m))
