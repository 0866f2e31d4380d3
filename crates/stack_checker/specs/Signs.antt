-- When a number has the sign that it is tested for.
use Rattle.std.specs.Prelude.{ℤ, pos, int_le, int_lt, Bool}
use Rattle.std.specs.Ordering.{int_eq}
use Rattle.stack_checker.specs.declared.sign.WantedSign.{WantedSign}
use Rattle.stack_checker.specs.declared.sign.WantedSign.TheVariants.{Zero, NotNegative, Positive}
use Rattle.stack_checker.specs.declared.sign.Signs.{Signs}

-- a number is 0, isn't negative, or is positive, whichever is wanted
abbrev pub has_sign : WantedSign → ℤ → Bool
has_sign Zero z = int_eq z (pos 0)
has_sign NotNegative z = int_le (pos 0) z
has_sign Positive z = int_lt (pos 0) z

-- what the scale and the factor are tested for, of forces that carry the dead loads alone
abbrev pub standing : Signs
standing = record { scale = Positive; factor = Zero }

-- what the scale and the factor are tested for, of forces that carry the live loads with a factor
abbrev pub loaded : Signs
loaded = record { scale = Positive; factor = NotNegative }

-- what the scale and the factor are tested for, of forces that carry the live loads alone
abbrev pub rising : Signs
rising = record { scale = Zero; factor = Positive }
