-- The judgement of a survey by what was made of its run.
use Rattle.std.proofs.Common.{◌≡◌, refl, sym, ap, ◌∙◌, ℕ, Bool, Result, Ok, Err}
use lib.IntN.{ℤ}
use Rattle.stack_equilibrium.proofs.Common.{Certificate, Fraction, Surveyed, ordered_fractions, scene_of}
use Rattle.stack_equilibrium.specs.declared.types.Question.{Question}
use Rattle.stack_rational.specs.declared.exact.Exact.{Ghosts}
use Rattle.stack_rational.specs.TooWide.{is_too_wide}
use Rattle.stack_table.specs.declared.problem.Problem.{Problem as Lent}
use Rattle.stack_table.specs.declared.table.Table.{Table}
use Rattle.stack_table.specs.Table.{Shape, Tabled}
use Rattle.stack_table.specs.Lent.{IsProblem, problem_of}
use Rattle.stack_table.specs.Problem.{Problem, flipped}
use Rattle.stack_table.specs.Seen.{shape_of_table, table_of, flips_of}
use Rattle.stack_table.specs.WrittenTable.{written_table}
use Rattle.stack_posing.specs.Posed.{posed}
use Rattle.stack_simplex.specs.declared.refusal.RunError.{RunError}
use Rattle.stack_simplex.specs.declared.refusal.RunError.TheVariants as runs
use Rattle.stack_simplex.specs.Ends as ended
use Rattle.stack_tableau.specs.declared.end_kind.EndKind.{EndKind}
use Rattle.stack_tableau.specs.declared.end_kind.EndKind.TheVariants as kinds
use Rattle.stack_tableau.specs.EndKinds.{end_at}
use Rattle.stack_extract.specs.Ends.{IsEndOfSurvey, IsLastOf}
use Rattle.stack_run.specs.WrittenRun.{End, written_run}
use Rattle.stack_run.specs.ProblemRun.{run_at}
use Rattle.stack_extract.specs.Certified.{end_certificate}
use Rattle.stack_tableau.specs.declared.ended.Ended.{Ended}
use Rattle.stack_tableau.specs.declared.ended.Ended.TheVariants as ends
use Rattle.stack_tableau.specs.LastTables.{ended_as, last_of}
use Rattle.stack_judge.specs.declared.types.JudgeError.{JudgeError}
use Rattle.stack_judge.specs.declared.types.JudgeError.TheVariants as errors
use Rattle.stack_judge.specs.EndPlace.{end_place}
use Rattle.stack_judge.specs.Judgement.{judged_by, judgement_of, survey_run, LacksLive, Judges}
use Rattle.stack_judge.specs.Certifying.{GivesChecked, IsTableOfSurvey, unjudged_as}

-- an end is judged by its places and its certificate
of_end : (q : Question) (v : Surveyed) (k : EndKind) (T : Tabled Fraction)
    → judgement_of q v (end_at k T) ≡ judged_by (end_place q v (end_at k T)) (end_certificate q v (end_at k T))
of_end q v kinds.Infeasible T = refl
of_end q v kinds.Feasible T = refl
of_end q v kinds.Optimal T = refl
of_end q v (kinds.Ray c) T = refl

-- what was given of an end is the judgement, whatever stores its last table
pub end_judges : (q : Question) (v : Surveyed) (budget : ℕ) (k : EndKind) (T : Tabled Fraction)
    (result : Result Certificate JudgeError) → ¬ (LacksLive q v) → survey_run q v budget ≡ end_at k T
    → GivesChecked result q v (end_at k T) → Judges result q v budget
end_judges q v budget k T (Ok c) live run h =
    (live, ap (judgement_of q v) run ∙ of_end q v k T ∙ (λ i. judged_by (h.0 i) (h.1 i)))
end_judges q v budget k T (Err (errors.TooWide p)) live run h =
    (live, ap (judgement_of q v) run ∙ of_end q v k T ∙ ap (λ o. judged_by o (end_certificate q v (end_at k T))) h)
end_judges q v budget k T (Err (errors.Spent n)) live run h = absurd h
end_judges q v budget k T (Err errors.NoLive) live run h = absurd h
end_judges q v budget k T (Err errors.Memory) live run h = tt

-- what was given of the end of a run is the judgement
pub ended_judges : {V : Type 0} {number : Ghosts V} (q : Question) (v : Surveyed) (budget : ℕ) (e : Ended V number)
    (result : Result Certificate JudgeError) → ¬ (LacksLive q v) → survey_run q v budget ≡ ended_as e
    → GivesChecked result q v (ended_as e) → Judges result q v budget
ended_judges q v budget (ends.Infeasible t) r = end_judges q v budget kinds.Infeasible (table_of t) r
ended_judges q v budget (ends.Feasible t) r = end_judges q v budget kinds.Feasible (table_of t) r
ended_judges q v budget (ends.Optimal t) r = end_judges q v budget kinds.Optimal (table_of t) r
ended_judges q v budget (ends.Ray t c) r = end_judges q v budget (kinds.Ray c) (table_of t) r

-- an end of the run of a survey's problem, with the shape and the flips of its last table
pub last_of_survey : (q : Question) (v : Surveyed) (m : ℤ) (budget : ℕ) (S : Shape) (flips : ℕ → Bool)
    (x : End Fraction) → run_at m (posed q (scene_of v)) budget ≡ x → S ≡ (posed q (scene_of v)).shape
    → flips ≡ flipped (posed q (scene_of v)) → IsLastOf q v S flips x
last_of_survey q v m budget S flips x run shape same = record {
  run = record { rule = is_too_wide m; budget = budget; run = run };
  shape = shape;
  flips_are = same;
}

-- the written table of the problem that was posed
pub table_of_posed : {V : Type 0} {number : Ghosts V} (q : Question) (v : Surveyed) (p : Lent) (t : Table V number)
    → IsProblem p → problem_of p ≡ posed q (scene_of v) → shape_of_table t ≡ (problem_of p).shape
    → table_of t ≡ written_table ordered_fractions (problem_of p) → flips_of t ≡ flipped (problem_of p)
    → IsTableOfSurvey q v t
table_of_posed q v p t condition is shape table flips = record {
  written = record {
    problem = p;
    condition = condition;
    is_its_table = record { shape = sym shape; table = sym table };
  };
  posed_table = record {
    shape = ap (λ (P : Problem). P.shape) (sym is) ∙ sym shape;
    table = ap (written_table ordered_fractions) (sym is) ∙ sym table;
  };
  flips = flips ∙ ap flipped is;
}

module _ {V : Type 0} {number : Ghosts V} (q : Question) (v : Surveyed) (budget : ℕ) (t : Table V number)
    (h : IsTableOfSurvey q v t) where
  -- the run of that table is the survey's, at each width
  pub runs_survey : (m : ℤ) (x : End Fraction)
      → x ≡ written_run ordered_fractions (shape_of_table t) (is_too_wide m) budget (table_of t)
      → run_at m (posed q (scene_of v)) budget ≡ x
  runs_survey m x e =
      (λ i. written_run ordered_fractions (h.posed_table.shape i) (is_too_wide m) budget (h.posed_table.table i))
      ∙ sym e

  pub end_of_survey : (m : ℤ) (e : Ended V number)
      → ended_as e ≡ written_run ordered_fractions (shape_of_table t) (is_too_wide m) budget (table_of t)
      → shape_of_table (last_of e) ≡ shape_of_table t → flips_of (last_of e) ≡ flips_of t → IsEndOfSurvey q v e
  end_of_survey m e run shape flips = record {
    run = record { rule = is_too_wide m; budget = budget; run = runs_survey m (ended_as e) run };
    shape = shape ∙ sym h.posed_table.shape;
    flips = flips ∙ h.flips;
  }

-- a run without an end
pub run_refused : (q : Question) (v : Surveyed) (budget : ℕ) (e : RunError) → ¬ (LacksLive q v)
    → survey_run q v budget ≡ ended.refused_end e → Judges (Err (unjudged_as e budget)) q v budget
run_refused q v budget (runs.TooWide p) live run = (live, ap (judgement_of q v) run)
run_refused q v budget runs.Spent live run = (live, ap (judgement_of q v) run, refl)
