-- Products that 128 bits hold.
use Rattle.std.proofs.Common.{◌≡◌, ◌∙◌, ap, sym, subst, ℕ, ◌<◌, ◌^◌, ℤ, pos, negsuc, ◌+ℤ◌, ◌-ℤ◌, ◌*ℤ◌, neg_ℤ}
use Rattle.std.proofs.Common.{SFits, to_z, of_z, lit<, arith}
use mir.Syntax.{w64, w128}
use Rattle.std.proofs.lemmas.Int.{ints, to_z-of_z, fits_signed_mul}
use Rattle.stack_algebra.proofs.Integers.{sums, expand}
use Rattle.stack_algebra.proofs.Order.{◌≼◌, mul-bounds}
use Rattle.stack_polygon.specs.Limits.{IsNear}
use Rattle.stack_polygon.specs.Sizes.{IsStep, IsThreeCoordinates, IsWithin}
use Rattle.stack_statics.specs.Weights.{IsUnitWeight}
use Rattle.stack_equilibrium.specs.LoadSizes.{IsForce, IsTurn, IsMoment}
use Rattle.stack_equilibrium.specs.Columns.{IsRate, IsShare}
use Rattle.stack_equilibrium.proofs.TriangleSums.{product_within}

abbrev pub wide : ℤ → ℤ
wide z = to_z w128 (of_z w128 z)

-- a product of two numbers as they are stored fits, and is their product
fitting_product : (a b : ℤ) → SFits w128 a → SFits w128 b → SFits w128 (a *ℤ b) → SFits w128 (wide a *ℤ wide b)
fitting_product a b f g h = subst (SFits w128) (λ i. sym (to_z-of_z w128 a f) i *ℤ sym (to_z-of_z w128 b g) i) h

stored_product : (a b : ℤ) → SFits w128 a → SFits w128 b → SFits w128 (a *ℤ b) →
    to_z w128 (of_z w128 (to_z w128 (of_z w128 a) *ℤ to_z w128 (of_z w128 b))) ≡ a *ℤ b
stored_product a b f g h = rw (to_z-of_z w128 a f, to_z-of_z w128 b g) (to_z-of_z w128 (a *ℤ b) h)

times_fits : (a b : ℤ) → IsThreeCoordinates a → IsWithin 32 8000000000000 b → SFits w128 (a *ℤ b)
times_fits a b h k = fits_signed_mul w128 a b 3000000 256000000000000 (omega (arith, ints))
    (omega (arith, ints)) (lit< tt)

-- three coordinates times twice an area, as they are stored, fit
pub times_product : (a b : ℤ) → SFits w128 a → SFits w128 b → IsThreeCoordinates a → IsWithin 32 8000000000000 b
    → SFits w128 (wide a *ℤ wide b)
times_product a b f g h k = fitting_product a b f g (times_fits a b h k)

pub times_stored : (a b : ℤ) → SFits w128 a → SFits w128 b → IsThreeCoordinates a → IsWithin 32 8000000000000 b
    → to_z w128 (of_z w128 (to_z w128 (of_z w128 a) *ℤ to_z w128 (of_z w128 b))) ≡ a *ℤ b
times_stored a b f g h k = stored_product a b f g (times_fits a b h k)

times_within : (a b : ℤ) → IsThreeCoordinates a → IsWithin 32 8000000000000 b →
    IsWithin 32 24000000000000000000 (a *ℤ b)
times_within a b h k =
    let p = product_within a b (pos 256000000000000) (pos 3000000) (omega (arith, ints, h.low)) h.high
    (omega (arith, ints, k.low)) (omega (arith, ints, k.high)) in
    record { low = omega (arith, ints, p.0); high = omega (arith, ints, p.1) }

pub times_is_within : (a b : ℤ) → SFits w128 a → SFits w128 b → IsThreeCoordinates a → IsWithin 32 8000000000000 b
    → IsWithin 32 24000000000000000000 (wide (wide a *ℤ wide b))
times_is_within a b f g h k = subst (IsWithin 32 24000000000000000000) (sym (times_stored a b f g h k))
    (times_within a b h k)

turn_fits : (a b : ℤ) → IsStep a → IsForce b → SFits w128 (a *ℤ b)
turn_fits a b h k = fits_signed_mul w128 a b 2000000 4000000000 (omega (arith, ints)) (omega (arith, ints))
    (lit< tt)

pub turn_product : (a b : ℤ) → SFits w128 a → SFits w128 b → IsStep a → IsForce b → SFits w128 (wide a *ℤ wide b)
turn_product a b f g h k = fitting_product a b f g (turn_fits a b h k)

pub turn_stored : (a b : ℤ) → SFits w128 a → SFits w128 b → IsStep a → IsForce b
    → to_z w128 (of_z w128 (to_z w128 (of_z w128 a) *ℤ to_z w128 (of_z w128 b))) ≡ a *ℤ b
turn_stored a b f g h k = stored_product a b f g (turn_fits a b h k)

turn_within : (a b : ℤ) → IsStep a → IsForce b → IsTurn (a *ℤ b)
turn_within a b h k =
    let m = mul-bounds a b (pos 2000000) (pos 4000000000) h.high (omega (arith, ints)) k.high
    (omega (arith, ints)) in
    let n = mul-bounds (neg_ℤ a) b (pos 2000000) (pos 4000000000) (omega (arith, ints))
    (omega (arith, ints)) k.high
    (omega (arith, ints)) in
    record { low = omega (arith, sums, m); high = omega (arith, sums, simp expand at n) }

pub turn_is_within : (a b : ℤ) → SFits w128 a → SFits w128 b → IsStep a → IsForce b
    → IsTurn (to_z w128 (of_z w128 (to_z w128 (of_z w128 a) *ℤ to_z w128 (of_z w128 b))))
turn_is_within a b f g h k = subst IsTurn (sym (turn_stored a b f g h k)) (turn_within a b h k)

-- a unit weight times a number
module _ (w r b : ℤ) (h : IsUnitWeight w) (k : IsWithin 64 24000000000000000000 b) where
  pub weighed_fits : SFits w128 (w *ℤ b)
  weighed_fits = fits_signed_mul w128 w b 1000000 1536000000000000000000 (omega (arith, ints, h.least, h.most))
      (omega (arith, ints, k.low, k.high)) (lit< tt)

  unit_stored : wide w ≡ w
  unit_stored = omega (arith, ints, h.least, h.most)

  pub weighed_factors : r ≡ w → SFits w128 b → wide r *ℤ wide b ≡ w *ℤ b
  weighed_factors e g = λ i. (ap wide e ∙ unit_stored) i *ℤ to_z-of_z w128 b g i

  pub weighed_stored : r ≡ w → SFits w128 b → wide (wide r *ℤ wide b) ≡ w *ℤ b
  weighed_stored e g = ap wide (weighed_factors e g) ∙ to_z-of_z w128 (w *ℤ b) weighed_fits

  weighed_within : (neg_ℤ (pos 1536000000000000000000000000) ≼ w *ℤ b) × (w *ℤ b ≼ pos 1536000000000000000000000000)
  weighed_within = product_within w b (pos 1536000000000000000000) (pos 1000000) (omega (arith, ints, h.least)) h.most
      (omega (arith, ints, k.low)) (omega (arith, ints, k.high))

  pub weighed_is_within : r ≡ w → SFits w128 b → IsWithin 64 24000000000000000000000000 (wide (wide r *ℤ wide b))
  weighed_is_within e g = subst (IsWithin 64 24000000000000000000000000) (sym (weighed_stored e g))
      (record { low = omega (arith, ints, weighed_within.0); high = omega (arith, ints, weighed_within.1) })

  less_fits : SFits w128 (pos 0 -ℤ w *ℤ b)
  less_fits = fits (w *ℤ b) weighed_within.0 weighed_within.1
    where
      fits : (t : ℤ) → neg_ℤ (pos 1536000000000000000000000000) ≼ t → t ≼ pos 1536000000000000000000000000 →
          SFits w128 (pos 0 -ℤ t)
      fits t l m = omega (arith, ints, l, m)

  pub weighed_less_fits : r ≡ w → SFits w128 b → SFits w128 (pos 0 -ℤ wide (wide r *ℤ wide b))
  weighed_less_fits e g = subst (λ z. SFits w128 (pos 0 -ℤ z)) (sym (weighed_stored e g)) less_fits

  pub weighed_less : r ≡ w → SFits w128 b → wide (pos 0 -ℤ wide (wide r *ℤ wide b)) ≡ neg_ℤ (w *ℤ b)
  weighed_less e g = ap (λ z. wide (pos 0 -ℤ z)) (weighed_stored e g) ∙ to_z-of_z w128 _ less_fits
      ∙ omega (arith, ints)

-- six times a number
pub six_force : (a : ℤ) → IsForce a → wide (pos 6 *ℤ wide a) ≡ pos 6 *ℤ a
six_force a h = omega (arith, ints)

pub six_moment : (a : ℤ) → IsWithin 1 16000000000000000 a → wide (pos 6 *ℤ wide a) ≡ pos 6 *ℤ a
six_moment a h = omega (arith, ints)

-- a sum of loads and one more
pub one_force : (n : ℕ) (a b : ℤ) → n < 2 ^ 64 → IsWithin n 24000000000 a → IsWithin 1 24000000000 b →
    wide (wide a +ℤ wide b) ≡ a +ℤ b
one_force n a b l h k = omega (arith, ints)

pub one_moment : (n : ℕ) (a b : ℤ) → n < 2 ^ 64 → IsWithin n 96000000000000000 a →
    IsWithin 1 96000000000000000 b →
    wide (wide a +ℤ wide b) ≡ a +ℤ b
one_moment n a b l h k = omega (arith, ints)

-- a body's own load and the loads beside it
pub own_force : (a b : ℤ) → IsWithin 31 12000000000000000000000 a → IsWithin 256 24000000000 b →
    wide (wide a +ℤ wide b) ≡ a +ℤ b
own_force a b h k = omega (arith, ints)

pub own_moment : (a b : ℤ) → IsWithin 31 32000000000000000000000000000 a → IsWithin 256 96000000000000000 b →
    wide (wide a +ℤ wide b) ≡ a +ℤ b
own_moment a b h k = omega (arith, ints)

-- a number of a cone times a step
share_fits : (a b : ℤ) → IsRate a → IsStep b → SFits w128 (a *ℤ b)
share_fits a b h k = fits_signed_mul w128 a b 1000 2000000 (omega (arith, ints)) (omega (arith, ints)) (lit< tt)

share_within : (a b : ℤ) → IsRate a → IsStep b → IsShare (a *ℤ b)
share_within a b h k =
    let m = mul-bounds a b (pos 1000) (pos 2000000) h.high (omega (arith, ints)) k.high (omega (arith, ints)) in
    let n = mul-bounds (neg_ℤ a) b (pos 1000) (pos 2000000) (omega (arith, ints)) (omega (arith, ints)) k.high
    (omega (arith, ints)) in
    record { low = omega (arith, sums, m); high = omega (arith, sums, simp expand at n) }

pub share_product : (a b : ℤ) → SFits w128 a → SFits w128 b → IsRate a → IsStep b → SFits w128 (wide a *ℤ wide b)
share_product a b f g h k = fitting_product a b f g (share_fits a b h k)

pub share_stored : (a b : ℤ) → SFits w128 a → SFits w128 b → IsRate a → IsStep b →
    wide (wide a *ℤ wide b) ≡ a *ℤ b
share_stored a b f g h k = stored_product a b f g (share_fits a b h k)

pub share_is_within : (a b : ℤ) → SFits w128 a → SFits w128 b → IsRate a → IsStep b →
    IsShare (wide (wide a *ℤ wide b))
share_is_within a b f g h k = subst IsShare (sym (share_stored a b f g h k)) (share_within a b h k)

-- a moment is stored as it is
pub moment_stored : (z : ℤ) → IsMoment z → wide z ≡ z
moment_stored z h = omega (arith, ints)

-- the opposite of such a number
opposite_is : (a : ℤ) → neg_ℤ a ≡ negsuc 0 *ℤ a
opposite_is a = simp expand (omega (arith, sums))

pub opposite_stored : (a : ℤ) → IsMoment a → neg_ℤ (wide a) ≡ negsuc 0 *ℤ a
opposite_stored a h = ap neg_ℤ (moment_stored a h) ∙ opposite_is a

-- the way from one coordinate to another
module _ (a b : ℤ) (f : SFits w64 a) (g : SFits w64 b) where
  abbrev pub way : ℤ
  way = wide (wide (to_z w64 (of_z w64 a)) -ℤ wide (to_z w64 (of_z w64 b)))

  pub way_stored : way ≡ a -ℤ b
  way_stored = (λ i. wide (wide (to_z-of_z w64 a f i) -ℤ wide (to_z-of_z w64 b g i))) ∙ omega (arith, ints, f, g)

  pub way_is_step : IsNear a → IsNear b → IsStep way
  way_is_step h k = subst IsStep (sym way_stored)
      (record { low = omega (arith, ints, h.high, k.high, h.low, k.low); high = omega (arith, ints, h.high, k.low) })
