-- What is stored of a fraction at a width, and what fits a greatest value: the facts that the code keeps.
use mathlib.Core.Path.{◌≡◌}
use Prim.Native.Nat.{◌≤◌}
use lib.IntN.{ℤ, pos, nat_abs, ◌+ℤ◌, ◌*ℤ◌}
use lib.Signed.{quot_z, ◌≤ℤ◌, ◌<ℤ◌}
use Rattle.std.specs.Int.{IsGcd}
use Rattle.stack_algebra.proofs.Over.{over, IsLowest}
use Rattle.stack_algebra.specs.Gcd.{gcd}
use Rattle.stack_algebra.specs.IntegerOrder.{◌≼◌, ◌≺◌}
use Rattle.stack_algebra.specs.Fraction.{Fraction}

-- the size of z is at most that of m
abbrev pub Within : ℤ → ℤ → Type 0
Within m z = nat_abs z ≤ nat_abs m

-- neither the numerator nor the denominator is more than m in size
pub record Fits (m : ℤ) (x : Fraction) : Type 0 where
  pub num : nat_abs x.num ≤ nat_abs m
  pub den : x.den ≤ nat_abs m

-- n over d in lowest terms, neither of them more than m in size
pub record IsStored (m n d : ℤ) : Type 0 where
  pub lowest : IsLowest n d
  pub num : nat_abs n ≤ nat_abs m
  pub den : nat_abs d ≤ nat_abs m

-- the fields of a stored fraction, each the one value of its integer
pub record IsHeld {T : Type 0} (m : ℤ) (value : T → ℤ) (back : ℤ → T) (num den : T) : Type 0 where
  pub stored : IsStored m (value num) (value den)
  pub num_back : back (value num) ≡ num
  pub den_back : back (value den) ≡ den

-- what is stored is held, where each value within m comes back from its integer
pub is_held : {T : Type 0} (m : ℤ) (value : T → ℤ) (back : ℤ → T) (num den : T) →
    ((x : T) → nat_abs (value x) ≤ nat_abs m → back (value x) ≡ x) → IsStored m (value num) (value den) →
    IsHeld m value back num den
is_held m value back num den law s = record { stored = s; num_back = law num s.num; den_back = law den s.den }

-- n and d are the parts of a fraction
pub record IsInParts (x : Fraction) (n d : ℤ) : Type 0 where
  pub lowest : IsLowest n d
  pub value : over n d ≡ x
  pub num : x.num ≡ n
  pub den : pos x.den ≡ d

-- g is the greatest common divisor of a and d, and p and q are both divided by it
pub record IsShared (m a d g p q : ℤ) : Type 0 where
  pub gcd : IsGcd (nat_abs a) (nat_abs d) (nat_abs g)
  pub positive : pos 0 ≺ g
  pub size : Within m g
  pub left : p ≡ quot_z a g
  pub right : q ≡ quot_z d g
  pub left_size : Within m p
  pub right_size : Within m q

-- a is q times b and r, which is from 0 up and below b
pub record Split (a b q r : ℤ) : Type 0 where
  pub sum : q *ℤ b +ℤ r ≡ a
  pub low : pos 0 ≼ r
  pub below : r ≺ b

-- two fractions that are compared, neither negative
pub record InStep (m a b c d : ℤ) : Type 0 where
  pub size_a : Within m a
  pub size_b : Within m b
  pub size_c : Within m c
  pub size_d : Within m d
  pub low_a : pos 0 ≤ℤ a
  pub low_b : pos 0 <ℤ b
  pub low_c : pos 0 ≤ℤ c
  pub low_d : pos 0 <ℤ d

-- what is made of a over b and c over d, where p and q are b and d without their common divisor
pub record CommonFits (m a c d p q : ℤ) : Type 0 where
  pub den : Within m (p *ℤ d)
  pub left : Within m (a *ℤ q)
  pub right : Within m (c *ℤ p)
  pub total : Within m (a *ℤ q +ℤ c *ℤ p)

-- what is made for the sum of two fractions over the least common denominator
abbrev pub SumFits : ℤ → Fraction → Fraction → Type 0
SumFits m x y = let g = pos (gcd x.den y.den) in
    CommonFits m x.num y.num (pos y.den) (quot_z (pos x.den) g) (quot_z (pos y.den) g)
