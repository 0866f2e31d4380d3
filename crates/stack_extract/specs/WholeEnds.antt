-- What each end of the written run of a problem gives in whole numbers.
use Rattle.std.specs.Prelude.{◌≡◌, ℕ, ◌<◌, ◌≤◌, pos, ⊤}
use Rattle.stack_algebra.specs.IntegerOrder.{◌≺◌}
use Rattle.stack_algebra.specs.Fraction.{Fraction}
use Rattle.stack_rational.specs.CommonScale.{scale_of}
use Rattle.stack_table.specs.Table.{Tabled, plain}
use Rattle.stack_table.specs.Problem.{Problem}
use Rattle.stack_run.specs.WrittenRun.{End, infeasible, feasible, optimal, ray, wide, over, never}
use Rattle.stack_run.specs.ProblemRun.{Rule, run_of}
use Rattle.stack_extract.specs.WrittenLists.{forces_list, ray_list, bound_list, collapse_list}
use Rattle.stack_extract.specs.WholeLists.{whole_list, amount, multiplier, NonePulls}
use Rattle.stack_extract.specs.WholeBalance.{AreAmounts, AreRefuting, AreBounding, StandsInWhole}

module _ (P : Problem) where
  -- the forces of a table balance at their common scale
  pub record AreForces (T : Tabled Fraction) : Type 0 where
    pub positive : pos 0 ≺ pos (scale_of (forces_list P.shape T))
    pub balances : AreAmounts P (amount (whole_list (forces_list P.shape T)))
        (pos (scale_of (forces_list P.shape T)))
    pub pushes : NonePulls (whole_list (forces_list P.shape T))

  -- the forces of a table balance without a factor
  pub record AreStanding (T : Tabled Fraction) : Type 0 where
    pub without_factor : P.shape.factors ≡ 0
    pub forces : AreForces T
    pub no_factor : amount (whole_list (forces_list P.shape T)) P.shape.contacts ≡ pos 0

  -- the forces of a table balance with a factor, which may be 0
  pub record AreLoaded (T : Tabled Fraction) : Type 0 where
    pub with_factor : P.shape.contacts < plain P.shape
    pub stands : StandsInWhole P
    pub forces : AreForces T

  -- the forces of a table balance, and the multipliers of the last table bound their factor
  pub record AreGreatest (T : Tabled Fraction) : Type 0 where
    pub loaded : AreLoaded T
    pub bounding : AreBounding P (amount (whole_list (forces_list P.shape T)))
        (pos (scale_of (forces_list P.shape T))) (multiplier P (whole_list (bound_list P.shape T)))

  -- the forces of a table balance, and the ray of column c raises their factor
  pub record AreRising (T : Tabled Fraction) (c : ℕ) : Type 0 where
    pub loaded : AreLoaded T
    pub balances : AreAmounts P (amount (whole_list (ray_list P.shape T c))) (pos 0)
    pub factor : pos 0 ≺ amount (whole_list (ray_list P.shape T c)) P.shape.contacts
    pub pushes : NonePulls (whole_list (ray_list P.shape T c))

  -- what an end shows: nothing balances, something does, a factor is the greatest, or none is
  abbrev pub EndIsWhole : End Fraction → Type 0
  EndIsWhole (infeasible T) = AreRefuting P (multiplier P (whole_list (collapse_list P.shape T)))
  EndIsWhole (feasible T) = AreStanding T
  EndIsWhole (optimal T) = AreGreatest T
  EndIsWhole (ray T c) = AreRising T c
  EndIsWhole (wide p k s) = ⊤
  EndIsWhole over = ⊤
  EndIsWhole never = ⊤

-- every end of a run of a problem with at most one factor column shows this, whatever is too wide and whatever the
-- budget
abbrev pub EndsAreWhole : Type 0
EndsAreWhole = (P : Problem) → P.shape.factors ≤ 1 → (rule : Rule) (budget : ℕ) →
    EndIsWhole P (run_of P rule budget)
