-- What `yield MODEL I J DIRS [PIVOTS]` promises of its two numbers, whatever its directions' file holds.
use Rattle.std.specs.Prelude.{◌≡◌, ◌≢◌, ℕ, ⊤, Result, Ok, Err}
use Rattle.stack_contact.specs.Surveyed.{Surveyed}
use Rattle.stack_directions.specs.declared.naming.LoadPair.{LoadPair}
use Rattle.stack_directions.specs.Pairing.{pair_of}
use Rattle.stack_lines.specs.Refusals.{Fault, no_pair, fault_status}
use Rattle.stack_work.specs.Answers.{Due}
use Rattle.stack_said.specs.Promise.{Promise}

-- The numbers name these two loads; or this is the first of them that doesn't name one.
pub data PairCase : Type 0 where
  is_pair : (loads : LoadPair) → PairCase
  is_in_the_way : (number : ℕ) → PairCase

-- The status is 15 exactly if a number names no such load.
abbrev pub IsPairStatus : PairCase → ℕ → Type 0
IsPairStatus (is_pair loads) status = status ≢ 15
IsPairStatus (is_in_the_way number) status = status ≡ 15

-- What is due: the line with that number; or, if both name loads, anything but a fault with the status 15.
abbrev pub IsPairDue : PairCase → Result Due Fault → Type 0
IsPairDue (is_in_the_way number) e = e ≡ Err (no_pair number)
IsPairDue (is_pair loads) (Ok due) = ⊤
IsPairDue (is_pair loads) (Err f) = fault_status f ≢ 15

module _ (i j : ℕ) where
  -- When each comes.
  abbrev pub PairComes : Surveyed → PairCase → Type 0
  PairComes v (is_pair loads) = pair_of v.structure i j ≡ Ok loads
  PairComes v (is_in_the_way number) = pair_of v.structure i j ≡ Err number

  abbrev pub pair_promise : Promise Surveyed
  pair_promise = record { Case = PairCase; IsStatus = IsPairStatus; Comes = PairComes; IsDue = λ v. IsPairDue }
