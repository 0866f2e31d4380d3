-- The columns of the table of a survey's problem, and that a budget which is enough for them is never spent.
use Rattle.std.proofs.Common.{◌≡◌, refl, ap, subst, ◌∙◌, ℕ, ◌+◌, ◌*◌, ◌≤◌, length, Option, Some, None, Result, Err}
use Rattle.stack_equilibrium.proofs.Common.{Certificate, CertificateValue, Fraction, Surveyed, scene_of}
use Rattle.stack_equilibrium.specs.declared.types.Question.{Question}
use Rattle.stack_rational.specs.TooWide.{is_too_wide}
use Rattle.stack_rational.specs.Laws.{widest}
use Rattle.stack_equilibrium.specs.declared.types.Question.TheVariants.{Dead, Live}
use Rattle.stack_posing.specs.FreeBodies.{FreeNumbersAreThoseOfSurveys}
use Rattle.stack_run.specs.WrittenRun.{End, infeasible, feasible, optimal, ray, wide, over, never}
use Rattle.stack_run.specs.Enough.{enough_of}
use Rattle.stack_run.specs.CircleLaws.{EnoughSuffices}
use Rattle.stack_posing.specs.Posed.{posed}
use Rattle.stack_judge.specs.declared.types.JudgePlace.{JudgePlace}
use Rattle.stack_judge.specs.declared.types.JudgeError.{JudgeError}
use Rattle.stack_judge.specs.declared.types.JudgeError.TheVariants as errors
use Rattle.stack_judge.specs.EndPlace.{end_place}
use Rattle.stack_judge.specs.Judgement.{spent, judged_by, judgement_of, survey_run, Judges}
use Rattle.stack_judge.specs.ProblemColumns.{problem_columns, TablesHaveThese}

-- three rows for each free block
pub tables_have_these : FreeNumbersAreThoseOfSurveys → TablesHaveThese
tables_have_these law Dead v = ap (λ n. 2 * length v.bearings + 0 + 3 * n) (law v).count
tables_have_these law Live v = ap (λ n. 2 * length v.bearings + 1 + 3 * n) (law v).count

-- a judgement is spent only where the run is over
given_end : (o : Option JudgePlace) (c : CertificateValue) → judged_by o (Some c) ≡ spent → ⊥
given_end None c h = cc
given_end (Some p) c h = cc

pub spent_only : (q : Question) (v : Surveyed) (x : End Fraction) → judgement_of q v x ≡ spent → x ≡ over
spent_only q v (infeasible T) h = absurd (given_end (end_place q v (infeasible T)) _ h)
spent_only q v (feasible T) h = absurd (given_end (end_place q v (feasible T)) _ h)
spent_only q v (optimal T) h = absurd (given_end (end_place q v (optimal T)) _ h)
spent_only q v (ray T c) h = absurd (given_end (end_place q v (ray T c)) _ h)
spent_only q v (wide p k s) h = absurd cc
spent_only q v over h = refl
spent_only q v never h = absurd cc

-- where the budget is enough for the problem's columns, no answer is that it is spent
pub suffices : EnoughSuffices → TablesHaveThese → (q : Question) (v : Surveyed) (budget : ℕ)
    (r : Result Certificate JudgeError) → Judges r q v budget → (b n : ℕ) → enough_of (problem_columns q v) ≡ Some b
    → b ≤ budget → ¬ (r ≡ Err (errors.Spent n))
suffices law have q v budget r h b n e l is =
    let j = subst (λ a. Judges a q v budget) is h in
    law (posed q (scene_of v)) (is_too_wide widest) budget b (ap enough_of (have q v) ∙ e) l
    (spent_only q v (survey_run q v budget) j.1)
