-- What the tests of a number decide.
use Rattle.std.proofs.Common.{◌≡◌, ℕ, ℤ, pos, arith, int_le, int_lt}
use Rattle.std.specs.Bool.{nat_eq, Decides}
use Rattle.std.proofs.lemmas.Int.{ints}
use Rattle.std.proofs.lemmas.Bool.Decides.{Decides-eqb, Decides-int_eq}
use Rattle.stack_algebra.proofs.Order.{◌≼◌, ◌≺◌}
use Rattle.stack_checker.specs.declared.sign.WantedSign.{WantedSign}
use Rattle.stack_checker.specs.declared.sign.WantedSign.TheVariants.{Zero, NotNegative, Positive}
use Rattle.stack_checker.specs.Signs.{has_sign}

pub le_decides : (a b : ℤ) → Decides (int_le a b) (a ≼ b)
le_decides a b = (λ h. grind (arith, ints), λ h. grind (arith, ints))

pub lt_decides : (a b : ℤ) → Decides (int_lt a b) (a ≺ b)
lt_decides a b = (λ h. grind (arith, ints), λ h. grind (arith, ints))

pub zero_decides : (z : ℤ) → Decides (has_sign Zero z) (z ≡ pos 0)
zero_decides z = Decides-int_eq z (pos 0)

pub same_decides : (m n : ℕ) → Decides (nat_eq m n) (m ≡ n)
same_decides m n = Decides-eqb m n

abbrev pub HasSign : WantedSign → ℤ → Type 0
HasSign Zero z = z ≡ pos 0
HasSign NotNegative z = pos 0 ≼ z
HasSign Positive z = pos 0 ≺ z

pub sign_decides : (sign : WantedSign) (z : ℤ) → Decides (has_sign sign z) (HasSign sign z)
sign_decides Zero z = zero_decides z
sign_decides NotNegative z = le_decides (pos 0) z
sign_decides Positive z = lt_decides (pos 0) z
