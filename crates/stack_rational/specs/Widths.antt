-- The laws of a signed type whose least value is not used.
use mathlib.Core.Path.{◌≡◌, ap, refl}
use Prim.Native.Nat.{ℕ, suc, ◌<◌, ◌≤◌, ◌-◌, ◌^◌}
use native.Mathlib.Omega.{arith}
use lib.IntN.{ℤ, pos, negsuc, nat_abs}
use mir.Val.{SFits, hbits}
use mir.Facts.{to_z-of_z}
use Rattle.std.specs.Int.{Width, w8, w16, w32, w64, w128, cast_signed, cast_unsigned}
use Rattle.std.proofs.Common.{lit<}
use Rattle.std.proofs.lemmas.Int.{fits_signed_from_abs}
use Rattle.std.proofs.lemmas.Nat.{pow_pos}
use Rattle.num_traits.specs.Ints.{signed-bits_of}
use Rattle.std.proofs.lemmas.Int.{ints}
use Rattle.stack_rational.specs.TooWide.{IsWidth}
use Rattle.stack_rational.specs.Back.{from_integer, same_integer}

-- an integer that isn't more in size than the greatest value is a value of the type
pub signed-keeps : (w : Width) (z : ℤ) → nat_abs z ≤ 2 ^ hbits w - 1 → SFits w z
signed-keeps w z h = fits_signed_from_abs w z (omega (arith, pow_pos (hbits w)))

-- each value but the least one isn't more in size than the greatest value
signed-least : (w : Width) (z : ℤ) → SFits w z → ¬ (z ≡ negsuc (2 ^ hbits w - 1)) →
    nat_abs z ≤ 2 ^ hbits w - 1
signed-least w (pos n) f h = omega (arith, f.sfits)
signed-least w (negsuc n) f h = go (2 ^ hbits w) f.sfits (λ e. h (ap negsuc e))
  where
    go : (t : ℕ) → n < t → ¬ (n ≡ t - 1) → suc n ≤ t - 1
    go t p q = omega (arith, p, q)

-- the least value is more in size than the greatest one
signed-lowest : (w : Width) → 2 ^ hbits w - 1 < suc (2 ^ hbits w - 1)
signed-lowest w = omega arith

-- an integer that isn't more in size than the greatest value comes back from its bits
signed-back : (w : Width) (x : ℤ) → nat_abs x ≤ 2 ^ hbits w - 1 → from_integer w (cast_signed w) x ≡ x
signed-back w x h = same_integer w (cast_signed w) (cast_unsigned w) (λ z. z) x
    (to_z-of_z (signed-keeps w x h)) (signed-bits_of w x (signed-keeps w x h))

-- a greatest value is positive, and no more than that of 128 bits
abbrev pub IsGreatest : ℤ → Type 0
IsGreatest m = (0 < nat_abs m) × (nat_abs m < 2 ^ 127) × (m ≡ pos (nat_abs m))

signed-greatest : (w : Width) → IsGreatest (pos (2 ^ hbits w - 1))
signed-greatest w8 = (lit< tt, lit< tt, refl)
signed-greatest w16 = (lit< tt, lit< tt, refl)
signed-greatest w32 = (lit< tt, lit< tt, refl)
signed-greatest w64 = (lit< tt, lit< tt, refl)
signed-greatest w128 = (lit< tt, lit< tt, refl)

-- the bounds of a greatest value
pub width_of : (m : ℤ) → IsGreatest m → IsWidth m
width_of m h = record { some = omega (arith, ints, h.0, h.2); at_most = omega (arith, ints, h.1, h.2) }

-- a type of width w whose integers are those that fit, from low up, by what the greatest value max says of them
pub record SignedLaws {T : Type 0} (w : Width) (fits : ℤ → Type 0) (value : T → ℤ) (of_bits : ℕ → T)
    (low max : ℤ) : Type 0 where
  -- it has each integer whose size is at most the greatest value
  pub keeps : (z : ℤ) → nat_abs z ≤ nat_abs max → fits z
  -- each other integer of it is the least value
  pub least : (z : ℤ) → fits z → ¬ (z ≡ low) → nat_abs z ≤ nat_abs max
  -- the least value is too wide
  pub lowest : nat_abs max < nat_abs low
  -- a value that is used is the one of its integer
  pub back : (x : T) → nat_abs (value x) ≤ nat_abs max → from_integer w of_bits (value x) ≡ x
  pub greatest : IsGreatest max

-- the signed types have these laws
pub signed_laws : (w : Width) →
    SignedLaws w (SFits w) (λ z. z) (cast_signed w) (negsuc (2 ^ hbits w - 1)) (pos (2 ^ hbits w - 1))
signed_laws w = record {
  keeps = signed-keeps w;
  least = signed-least w;
  lowest = signed-lowest w;
  back = signed-back w;
  greatest = signed-greatest w;
}
