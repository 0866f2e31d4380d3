-- What is said of a search's answer has one proof at most.
use Rattle.std.specs.Prelude.{ℕ, Option, Some, None}
use Rattle.std.specs.Coded.{coded_ℕ, coded_option}
use base.Stored.{Coded-set}
use mathlib.Core.HLevel.{Unit-prop}
use Rattle.stack_bland.specs.declared.found.Found.{Found}
use Rattle.stack_bland.specs.declared.found.Found.TheVariants.{GaveUp, Nothing, This}
use Rattle.stack_bland.specs.Found.{TellsFound}

-- two options of a number are equal in one way at most
pub number_set : IsSet (Option ℕ)
number_set = Coded-set (coded_option coded_ℕ)

-- what there is to find
pub TellsFound-prop : (r : Found ℕ) (o : Option ℕ) → IsProp (TellsFound r o)
TellsFound-prop GaveUp o = Unit-prop
TellsFound-prop Nothing o = number_set None o
TellsFound-prop (This x) o = number_set (Some x) o
