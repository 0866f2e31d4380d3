-- Tests of a number against 0, by its sign.
use Rattle.std.proofs.Common.{◌≡◌, false, ℤ, pos, arith, eqb, SFits, of_z}
use Rattle.std.specs.Int.Signed.{lt_z}
use Rattle.stack_rational.proofs.Common.{sign_of, w128, ints, ◌≼◌}
use Rattle.stack_bland.specs.Choice.{is_negative_sign, is_nought, is_plus}

-- whether it is negative
pub negative_test : (n : ℤ) → lt_z n (pos 0) ≡ is_negative_sign (sign_of n)
negative_test n = grind (arith, ints)

-- whether it is 0, by its word
pub nought_test : (n : ℤ) → SFits w128 n → eqb (of_z w128 n) 0 ≡ is_nought (sign_of n)
nought_test n h = grind (arith, ints)

-- one that isn't positive
pub plus_not : (n : ℤ) → n ≼ pos 0 → is_plus (sign_of n) ≡ false
plus_not n h = grind (arith, ints, h)
