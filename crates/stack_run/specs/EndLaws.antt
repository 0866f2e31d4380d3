-- What the ends of the written run of a problem give, for any rule of what is too wide.
use Rattle.std.specs.Prelude.{◌≢◌, ℕ}
use Rattle.stack_algebra.specs.Fraction.{Fraction}
use Rattle.stack_algebra.proofs.OrderedFractions.{ordered_fractions}
use Rattle.stack_table.specs.Table.{Tabled}
use Rattle.stack_table.specs.Problem.{Problem}
use Rattle.stack_table.specs.WrittenTable.{written_table}
use Rattle.stack_run.specs.WrittenRun.{unlimited, turns}
use Rattle.stack_run.specs.ProblemRun.{Rule, run_of}
use Rattle.stack_run.specs.FourEnds.{EndGives}

-- whatever the rule and the budget, the end of a run gives what it should
abbrev pub EndsGive : Type 0
EndsGive = (P : Problem) (rule : Rule) (budget : ℕ) → EndGives ordered_fractions P (run_of P rule budget)

-- in phase 1 some row leaves wherever a column enters. So a run is over only if a pivot is due and the budget's pivots
-- are done
abbrev pub SomeRowLeaves : Type 0
SomeRowLeaves = (P : Problem) (rule : Rule) (budget : ℕ) (T : Tabled Fraction) (c : ℕ) →
    turns ordered_fractions P.shape rule 1 P.shape.contacts budget 0
    (written_table ordered_fractions P) ≢ unlimited T c
