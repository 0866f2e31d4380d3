-- Whether the work on a question of a survey is nowhere too wide at 64 bits: neither its written table nor its
-- written run.
use Rattle.std.specs.Prelude.{ℕ, ◌^◌, ◌-◌, Bool, true, false, ◌&&◌, Option, Some, None, Result, Ok, Err}
use lib.IntN.{ℤ, pos}
use Rattle.stack_algebra.specs.Fraction.{Fraction}
use Rattle.stack_algebra.proofs.OrderedFractions.{ordered_fractions}
use Rattle.stack_rational.specs.TooWide.{is_too_wide}
use Rattle.stack_contact.specs.Surveyed.{Surveyed}
use Rattle.stack_certificate.specs.declared.types.Certificate.{Certificate}
use Rattle.stack_equilibrium.specs.declared.types.Question.{Question}
use Rattle.stack_equilibrium.specs.SurveyScene.{scene_of}
use Rattle.stack_table.specs.declared.problem.BuildError.{BuildError}
use Rattle.stack_table.specs.WrittenTable.{wide_place}
use Rattle.stack_run.specs.WrittenRun.{End, infeasible, feasible, optimal, ray, wide, over, never}
use Rattle.stack_run.specs.ProblemRun.{run_at}
use Rattle.stack_posing.specs.Posed.{posed}
use Rattle.stack_judge.specs.declared.types.JudgeError.{JudgeError}

-- the greatest value at 64 bits
abbrev pub narrow : ℤ
narrow = pos (2 ^ 63 - 1)

-- the first place of the table at which a number is too wide there
abbrev pub narrow_place : Question → Surveyed → Option BuildError
narrow_place q v = wide_place ordered_fractions (is_too_wide narrow) (posed q (scene_of v))

-- no number of the table is too wide
abbrev pub has_no_place : Option BuildError → Bool
has_no_place None = true
has_no_place (Some p) = false

-- the written run of a survey's problem at 64 bits
abbrev pub narrow_run : Question → Surveyed → (budget : ℕ) → End Fraction
narrow_run q v budget = run_at narrow (posed q (scene_of v)) budget

-- no number of the run is too wide, though its budget may be spent
abbrev pub is_nowhere_too_wide : End Fraction → Bool
is_nowhere_too_wide (infeasible T) = true
is_nowhere_too_wide (feasible T) = true
is_nowhere_too_wide (optimal T) = true
is_nowhere_too_wide (ray T c) = true
is_nowhere_too_wide (wide p k s) = false
is_nowhere_too_wide over = true
is_nowhere_too_wide never = true

-- 64 bits are enough for the table and for the run, whatever is needed for what is made of its end
abbrev pub is_narrow : Question → Surveyed → (budget : ℕ) → Bool
is_narrow q v budget = has_no_place (narrow_place q v) && is_nowhere_too_wide (narrow_run q v budget)

-- an answer without its mark
abbrev pub without_mark : Result (Certificate × Bool) JudgeError → Result Certificate JudgeError
without_mark (Ok r) = Ok r.0
without_mark (Err e) = Err e
