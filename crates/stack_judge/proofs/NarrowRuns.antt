-- A run at 64 bits that is nowhere too wide is the survey's, and what it comes to is the judgement.
use Rattle.std.proofs.Common.{◌≡◌, refl, sym, ap, subst, ◌∙◌, ℕ, ◌≤◌, Bool, true, false, ◌&&◌, Some, None, Result, Ok}
use Rattle.std.proofs.Common.{Err, arith, unsigned_abs, IfOk}
use Rattle.stack_equilibrium.proofs.Common.{Fraction, Surveyed, ordered_fractions, scene_of}
use Rattle.stack_equilibrium.specs.declared.types.Question.{Question}
use Rattle.stack_rational.specs.declared.exact.Exact.{Ghosts}
use Rattle.stack_rational.specs.TooWide.{is_too_wide}
use Rattle.stack_rational.specs.Laws.{widest}
use Rattle.stack_table.specs.declared.problem.BuildError.{BuildError}
use Rattle.stack_table.specs.Problem.{Problem}
use Rattle.stack_table.specs.WrittenTable.{wide_place}
use Rattle.stack_run.specs.WrittenRun.{End, infeasible, feasible, optimal, ray, wide, over, never}
use Rattle.stack_run.specs.ProblemRun.{IsNowhereTooWide, WiderRunIsSame}
use Rattle.stack_posing.specs.Posed.{posed}
use Rattle.stack_tableau.specs.declared.ended.Ended.{Ended}
use Rattle.stack_tableau.specs.declared.ended.Ended.TheVariants as ends
use Rattle.stack_run.specs.declared.place.RunPlace.{RunPlace}
use Rattle.stack_simplex.specs.declared.refusal.RunError.TheVariants as runs
use Rattle.stack_tableau.specs.LastTables.{ended_as}
use Rattle.stack_simplex.specs.Ends.{refused_end}
use Rattle.stack_judge.specs.Judgement.{survey_run}
use Rattle.stack_judge.specs.NarrowWork.{narrow, narrow_place, has_no_place, narrow_run, is_nowhere_too_wide, is_narrow}

-- an end is nowhere too wide
pub nowhere : {V : Type 0} {number : Ghosts V} (e : Ended V number) → is_nowhere_too_wide (ended_as e) ≡ true
nowhere (ends.Infeasible t) = refl
nowhere (ends.Feasible t) = refl
nowhere (ends.Optimal t) = refl
nowhere (ends.Ray t c) = refl

passes_not : (x : End Fraction) → is_nowhere_too_wide x ≡ true → IsNowhereTooWide x
passes_not (infeasible T) h = tt
passes_not (feasible T) h = tt
passes_not (optimal T) h = tt
passes_not (ray T c) h = tt
passes_not (wide p k s) h = absurd cc
passes_not over h = tt
passes_not never h = tt

narrower : unsigned_abs narrow ≤ unsigned_abs widest
narrower = omega arith

both : (a b : Bool) → a ≡ true → b ≡ true → a && b ≡ true
both true b h k = k
both false b h k = absurd cc

not_second : (a b : Bool) → b ≡ false → a && b ≡ false
not_second true b h = h
not_second false b h = refl

-- what is known of each answer that is given
pub each : {A E : Type 0} (r : Result A E) (P : Type 0) → P → IfOk r (λ x. P)
each (Ok x) P h = h
each (Err e) P h = tt

-- the table of the problem that was posed
pub no_place : (q : Question) (v : Surveyed) (P : Problem) → P ≡ posed q (scene_of v)
    → wide_place ordered_fractions (is_too_wide narrow) P ≡ None → true ≡ has_no_place (narrow_place q v)
no_place q v P is h = sym (ap (λ R. has_no_place (wide_place ordered_fractions (is_too_wide narrow) R)) (sym is)
    ∙ ap has_no_place h)

pub some_place : (q : Question) (v : Surveyed) (P : Problem) (e : BuildError) → P ≡ posed q (scene_of v)
    → wide_place ordered_fractions (is_too_wide narrow) P ≡ Some e → false ≡ has_no_place (narrow_place q v)
some_place q v P e is h = sym (ap (λ R. has_no_place (wide_place ordered_fractions (is_too_wide narrow) R)) (sym is)
    ∙ ap has_no_place h)

module _ (q : Question) (v : Surveyed) (budget : ℕ) (x : End Fraction) (run : narrow_run q v budget ≡ x) where
  -- the run of the survey
  pub same_run : WiderRunIsSame → is_nowhere_too_wide x ≡ true → survey_run q v budget ≡ x
  same_run law free =
      law narrow widest (posed q (scene_of v)) budget narrower
      (subst IsNowhereTooWide (sym run) (passes_not x free)) ∙ run

  pub free_run : has_no_place (narrow_place q v) ≡ true → is_nowhere_too_wide x ≡ true → is_narrow q v budget ≡ true
  free_run table free = both (has_no_place (narrow_place q v)) (is_nowhere_too_wide (narrow_run q v budget)) table
      (ap is_nowhere_too_wide run ∙ free)

  pub wide_run : (p : RunPlace) → x ≡ refused_end (runs.TooWide p) → is_narrow q v budget ≡ false
  wide_run p is = not_second (has_no_place (narrow_place q v)) (is_nowhere_too_wide (narrow_run q v budget))
      (ap is_nowhere_too_wide (run ∙ is))
