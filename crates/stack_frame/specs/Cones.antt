-- Coefficients of friction, p over q, and the lesser of two, in lowest terms.
use Rattle.std.specs.Prelude.{◌≡◌, ◌⊎◌, ℕ, ℤ, pos, ◌/◌, ◌*ℤ◌, int_le, unsigned_abs, if◌then◌else◌}
use Rattle.stack_algebra.specs.Gcd.{gcd}
use Rattle.stack_algebra.specs.IntegerOrder.{◌≼◌}
use Rattle.stack_frame.specs.declared.cone.Coefficient.{Coefficient}
use Rattle.stack_frame.specs.declared.cone.Cone.{Cone}
use Rattle.stack_frame.specs.Directions.{IsLowest}

-- the coefficient p over q
abbrev pub coefficient : ℤ → ℤ → Coefficient
coefficient p q = record { p = p; q = q }

-- p over q, with p from 0 to 1,000 and q from 1 to 1,000
pub record IsCoefficient (c : Coefficient) : Type 0 where
  pub p_least : pos 0 ≼ c.p
  pub p_greatest : c.p ≼ pos 1000
  pub q_least : pos 1 ≼ c.q
  pub q_greatest : c.q ≼ pos 1000

-- p over q within its limits and in lowest terms, as each cone is
pub record IsCone (c : Coefficient) : Type 0 where
  pub in_limits : IsCoefficient c
  pub lowest : IsLowest c.p c.q

-- p over q in lowest terms: 0 over q is 0 over 1
abbrev pub lowest_of : ℕ → ℕ → Cone
lowest_of p q = record { p = pos (p / gcd p q); q = pos (q / gcd p q) }

-- a coefficient in lowest terms, by the sizes of its terms
abbrev pub lowest : Coefficient → Cone
lowest c = lowest_of (unsigned_abs c.p) (unsigned_abs c.q)

-- the lesser of two coefficients, in lowest terms
abbrev pub lesser_of : Coefficient → Coefficient → Cone
lesser_of a b = if int_le (a.p *ℤ b.q) (b.p *ℤ a.q) then lowest a else lowest b

-- p over q, told by products, since q isn't negative: a is at most b, and a is the same number as b
abbrev pub IsAtMost : Coefficient → Coefficient → Type 0
IsAtMost a b = (a.p *ℤ b.q) ≼ (b.p *ℤ a.q)

-- a and b are the same number
abbrev pub IsSameNumber : Coefficient → Coefficient → Type 0
IsSameNumber a b = a.p *ℤ b.q ≡ b.p *ℤ a.q

-- c is the same number as a, and its terms are the lowest
pub record IsReduced (a : Coefficient) (c : Cone) : Type 0 where
  pub in_limits : IsCoefficient c
  pub same : IsSameNumber c a
  pub lowest : IsLowest c.p c.q

-- c is the lesser of a and b, by meaning: it is one of them, neither is less, and its terms are the lowest
pub record IsLesser (a b : Coefficient) (c : Cone) : Type 0 where
  pub in_limits : IsCoefficient c
  pub one : IsSameNumber c a ⊎ IsSameNumber c b
  pub first : IsAtMost c a
  pub second : IsAtMost c b
  pub lowest : IsLowest c.p c.q

-- two coefficients have one lesser in lowest terms
abbrev pub CoefficientsHaveOneLesser : Type 0
CoefficientsHaveOneLesser = (a b : Coefficient) (c d : Cone) → IsCoefficient a → IsCoefficient b →
    IsLesser a b c → IsLesser a b d → c ≡ d
