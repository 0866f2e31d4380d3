-- The written run of a problem, under any rule of what is too wide or at a greatest value, and that a wider one is the
-- same run.
use Rattle.std.specs.Prelude.{◌≡◌, ℕ, ◌≤◌, ℤ, Bool, ⊤, unsigned_abs}
use Rattle.stack_algebra.specs.Fraction.{Fraction}
use Rattle.stack_algebra.proofs.OrderedFractions.{ordered_fractions}
use Rattle.stack_rational.specs.declared.exact.Op.{Op}
use Rattle.stack_rational.specs.TooWide.{is_too_wide}
use Rattle.stack_table.specs.Problem.{Problem}
use Rattle.stack_table.specs.WrittenTable.{written_table}
use Rattle.stack_run.specs.WrittenRun.{End, infeasible, feasible, optimal, ray, wide, over, never, written_run}

-- a rule of what is too wide
abbrev pub Rule : Type 0
Rule = Op → Fraction → Fraction → Bool

-- the written run of a problem
abbrev pub run_of : (P : Problem) → Rule → (budget : ℕ) → End Fraction
run_of P rule budget = written_run ordered_fractions P.shape rule budget (written_table ordered_fractions P)

-- the written run of a problem at a greatest value
abbrev pub run_at : ℤ → (P : Problem) → (budget : ℕ) → End Fraction
run_at max P budget = run_of P (is_too_wide max) budget

-- a run met no number that is too wide, though it may be over its budget
abbrev pub IsNowhereTooWide : {C : Type 0} → End C → Type 0
IsNowhereTooWide (infeasible T) = ⊤
IsNowhereTooWide (feasible T) = ⊤
IsNowhereTooWide (optimal T) = ⊤
IsNowhereTooWide (ray T c) = ⊤
IsNowhereTooWide (wide p k s) = ⊥
IsNowhereTooWide over = ⊤
IsNowhereTooWide never = ⊤

-- a run that is nowhere too wide at a greatest value is the same run at a greater one
abbrev pub WiderRunIsSame : Type 0
WiderRunIsSame = (m n : ℤ) (P : Problem) (budget : ℕ) → unsigned_abs m ≤ unsigned_abs n →
    IsNowhereTooWide (run_at m P budget) → run_at n P budget ≡ run_at m P budget
