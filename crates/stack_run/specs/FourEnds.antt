-- What the last table of each end gives: the facts of its phase, and what its numbers do to the problem.
use Rattle.std.specs.Prelude.{◌≡◌, ℕ, ◌<◌, ⊤}
use lib.IntN.{pos}
use Rattle.stack_algebra.specs.Ordered.{Ordered, minus}
use Rattle.stack_table.specs.Table.{Tabled, plain, objective}
use Rattle.stack_table.specs.Problem.{Problem}
use Rattle.stack_table.specs.WrittenTable.{first_row}
use Rattle.stack_run.specs.WrittenRun.{End, infeasible, feasible, optimal, ray, wide, over, never}
use Rattle.stack_run.specs.EndNumbers.{column_value, rate, bound_multiplier, collapse_multiplier}
use Rattle.stack_run.specs.Balance.{Balances, Refutes, Bounds, Rises, StandsAlone}
use Rattle.stack_run.specs.PhaseTables.{own_first, own_third, IsFirst, IsThird, ShowsMultipliers}

module _ (F : Ordered) (P : Problem) where
  -- the last table of phase 1
  pub record IsFirstEnd (T : Tabled F.C) : Type 0 where
    pub table : IsFirst F P.shape (first_row F P) T
    pub shows : ShowsMultipliers F P.shape (first_row F P) (own_first F P.shape.rows (plain P.shape)) T

  -- the last table of a run that ends as Infeasible: its multipliers refute that any amounts balance
  pub record IsInfeasibleEnd (T : Tabled F.C) : Type 0 where
    pub first : IsFirstEnd T
    pub refutes : Refutes F P (collapse_multiplier F P T)

  -- the last table of a run that ends as Feasible: its values balance
  pub record IsFeasibleEnd (T : Tabled F.C) : Type 0 where
    pub without_factor : P.shape.factors ≡ 0
    pub first : IsFirstEnd T
    pub balances : Balances F P (column_value F P.shape T) (F.of (pos 1))

  -- the last table of phase 3: its values balance, and some others do with the factor 0
  pub record IsThirdEnd (T : Tabled F.C) : Type 0 where
    pub with_factor : P.shape.contacts < plain P.shape
    pub table : IsThird F P.shape (first_row F P) T
    pub shows : ShowsMultipliers F P.shape (first_row F P) (own_third F P.shape.contacts) T
    pub stands : StandsAlone F P
    pub balances : Balances F P (column_value F P.shape T) (F.of (pos 1))

  -- the last table of a run that ends as Optimal: its multipliers bound the factor
  pub record IsOptimalEnd (T : Tabled F.C) : Type 0 where
    pub third : IsThirdEnd T
    pub bounds : Bounds F P (column_value F P.shape T) (bound_multiplier F P T)

  -- the last table of a run that ends as Ray with column c: its rates raise the factor
  pub record IsRayEnd (T : Tabled F.C) (c : ℕ) : Type 0 where
    pub third : IsThirdEnd T
    pub below : c < plain P.shape
    pub enters : F.sign (objective F P.shape T c) ≡ minus
    pub rises : Rises F P (rate F P.shape T c)

  -- what each end gives
  abbrev pub EndGives : End F.C → Type 0
  EndGives (infeasible T) = IsInfeasibleEnd T
  EndGives (feasible T) = IsFeasibleEnd T
  EndGives (optimal T) = IsOptimalEnd T
  EndGives (ray T c) = IsRayEnd T c
  EndGives (wide p k s) = ⊤
  EndGives over = ⊤
  EndGives never = ⊥
