-- What the revised run of a survey's problem tells of its judgement.
use Rattle.std.proofs.Common.{◌≡◌, refl, sym, ap, ◌∙◌, ℕ, Bool, true, eqb}
use Rattle.std.proofs.lemmas.Bool.{eq-eqb}
use Rattle.stack_equilibrium.proofs.Common.{Fraction, Surveyed, scene_of}
use Rattle.stack_equilibrium.specs.declared.types.Question.{Question}
use Rattle.stack_rational.specs.Laws.{widest}
use Rattle.stack_table.specs.declared.problem.Problem.{Problem as Lent}
use Rattle.stack_table.specs.Lent.{problem_of, shape_of_problem}
use Rattle.stack_table.specs.Problem.{Problem, flipped}
use Rattle.stack_table.specs.Table.{Shape}
use Rattle.stack_run.specs.ProblemRun.{run_at}
use Rattle.stack_run.specs.WrittenRun.{End}
use Rattle.stack_posing.specs.Posed.{posed}
use Rattle.stack_tableau.specs.declared.end_kind.EndKind.{EndKind}
use Rattle.stack_tableau.specs.declared.end_kind.EndKind.TheVariants as kinds
use Rattle.stack_revised.specs.Ended.{reads_column}
use Rattle.stack_extract.specs.Ends.{IsLastOf, ReadsRay}
use Rattle.stack_judge.proofs.Judgements.{last_of_survey}

-- a number is itself
same_number : (c : ℕ) → eqb c c ≡ true
same_number c = eq-eqb c c refl

-- the column of a ray can be read
pub own_ray : (k : EndKind) → ReadsRay k (reads_column k)
own_ray kinds.Infeasible = tt
own_ray kinds.Feasible = tt
own_ray kinds.Optimal = tt
own_ray (kinds.Ray c) = same_number c

module _ (q : Question) (v : Surveyed) (budget : ℕ) (p : Lent) (is : problem_of p ≡ posed q (scene_of v)) where
  -- the run of the survey's problem
  pub ends_survey : (X : End Fraction) → X ≡ run_at widest (problem_of p) budget
      → run_at widest (posed q (scene_of v)) budget ≡ X
  ends_survey X value = ap (λ P. run_at widest P budget) (sym is) ∙ sym value

  pub last_of_revised : (S : Shape) (flips : ℕ → Bool) (X : End Fraction) → S ≡ shape_of_problem p
      → flips ≡ flipped (problem_of p) → X ≡ run_at widest (problem_of p) budget → IsLastOf q v S flips X
  last_of_revised S flips X shape turned value = last_of_survey q v widest budget S flips X (ends_survey X value)
      (shape ∙ ap (λ (P : Problem). P.shape) is) (turned ∙ ap flipped is)
