-- The written run doesn't go in circles, and a sufficient budget is never spent.
use Rattle.std.specs.Prelude.{◌≡◌, ◌≢◌, ◌⊎◌, ℕ, suc, ◌+◌, ◌*◌, ◌^◌, ◌<◌, ◌≤◌, Some}
use Rattle.stack_algebra.specs.Fraction.{Fraction}
use Rattle.stack_algebra.proofs.OrderedFractions.{ordered_fractions}
use Rattle.stack_table.specs.Table.{Tabled, columns}
use Rattle.stack_table.specs.Problem.{Problem}
use Rattle.stack_table.specs.WrittenTable.{written_table}
use Rattle.stack_run.specs.WrittenRun.{over}
use Rattle.stack_run.specs.ProblemRun.{Rule, run_of}
use Rattle.stack_run.specs.BasicSets.{SameSet, SameList}
use Rattle.stack_run.specs.Reached.{Phase, ReachesIn, ReachesInSecond, GoesOn, LastReached, TakesArtificialOut}
use Rattle.stack_run.specs.Enough.{enough_of}

-- the written run of P with a budget reaches T in a phase, with so many pivots done
abbrev pub Reaches : (P : Problem) → Rule → (budget : ℕ) → Phase → (done : ℕ) → Tabled Fraction → Type 0
Reaches P rule budget p done T = ReachesIn ordered_fractions P.shape rule budget
    (written_table ordered_fractions P) p done T

-- the written run of P with a budget reaches T in phase 2, with the rows below `row` done and so many pivots
abbrev pub ReachesRow : (P : Problem) → Rule → (budget row done : ℕ) → Tabled Fraction → Type 0
ReachesRow P rule budget row done T = ReachesInSecond ordered_fractions P.shape rule budget
    (written_table ordered_fractions P) row done T

-- within a phase, with any budget and any rule of what is too wide, no set of basic columns recurs
abbrev pub NoSetRecurs : Type 0
NoSetRecurs = (P : Problem) (rule : Rule) (budget : ℕ) (p : Phase) (d e : ℕ) (T U : Tabled Fraction) →
    Reaches P rule budget p d T → Reaches P rule budget p e U → d < e → ¬ SameSet P.shape.rows T.basic U.basic

-- within a phase no list of basic columns recurs either
abbrev pub NoListRecurs : Type 0
NoListRecurs = (P : Problem) (rule : Rule) (budget : ℕ) (p : Phase) (d e : ℕ) (T U : Tabled Fraction) →
    Reaches P rule budget p d T → Reaches P rule budget p e U → d < e → ¬ SameList P.shape.rows T.basic U.basic

-- the written run goes on from each table that it reaches
abbrev pub RunGoesOn : Type 0
RunGoesOn = (P : Problem) (rule : Rule) (budget : ℕ) →
    GoesOn ordered_fractions P.shape rule budget (written_table ordered_fractions P)

-- the last table of the written run is one that it reaches
abbrev pub LastTableReached : Type 0
LastTableReached = (P : Problem) (rule : Rule) (budget : ℕ) →
    LastReached ordered_fractions P.shape rule budget (written_table ordered_fractions P) (run_of P rule budget)

-- in phase 2 a row stays as it is, or a pivot takes an artificial column out and brings in one that isn't
abbrev pub ArtificialColumnsLeave : Type 0
ArtificialColumnsLeave = (P : Problem) (rule : Rule) (budget row d e : ℕ) (T U : Tabled Fraction) →
    ReachesRow P rule budget row d T → ReachesRow P rule budget (suc row) e U →
    ((e ≡ d) × (U ≡ T)) ⊎ ((e ≡ suc d) × TakesArtificialOut P.shape row T U)

-- a phase has fewer than 2^columns pivots
abbrev pub PhasesAreShort : Type 0
PhasesAreShort = (P : Problem) (rule : Rule) (budget : ℕ) (p : Phase) (d e : ℕ) (T U : Tabled Fraction) →
    Reaches P rule budget p d T → Reaches P rule budget p e U → e < d + 2 ^ columns P.shape

-- a run has fewer than 3*2^columns pivots
abbrev pub RunsAreShort : Type 0
RunsAreShort = (P : Problem) (rule : Rule) (budget : ℕ) (p : Phase) (d : ℕ) (T : Tabled Fraction) →
    Reaches P rule budget p d T → d < 3 * 2 ^ columns P.shape

-- a budget of at least 3*2^columns is never spent
abbrev pub BudgetSuffices : Type 0
BudgetSuffices = (P : Problem) (rule : Rule) (budget : ℕ) → 3 * 2 ^ columns P.shape ≤ budget →
    run_of P rule budget ≢ over

-- a budget of at least what is enough for the columns is never spent
abbrev pub EnoughSuffices : Type 0
EnoughSuffices = (P : Problem) (rule : Rule) (budget b : ℕ) → enough_of (columns P.shape) ≡ Some b → b ≤ budget →
    run_of P rule budget ≢ over
