-- What the written run of a written table gives.
use Rattle.std.proofs.Common.{◌≡◌, sym, ap, subst, ◌∙◌, ℕ, ◌≤◌, Some, ℤ}
use Rattle.stack_rational.proofs.Common.{Fraction, ordered_fractions, is_too_wide}
use Rattle.stack_table.specs.Table.{Shape, Tabled, columns}
use Rattle.stack_table.specs.Problem.{Problem}
use Rattle.stack_table.specs.Lent.{problem_of}
use Rattle.stack_run.specs.WrittenRun.{End, over, written_run}
use Rattle.stack_run.specs.FourEnds.{EndGives}
use Rattle.stack_run.specs.EndLaws.{EndsGive}
use Rattle.stack_run.specs.Enough.{enough_of}
use Rattle.stack_run.specs.CircleLaws.{EnoughSuffices}
use Rattle.stack_tableau.specs.Written.{IsTableOf, IsWrittenTable}

module _ (max : ℤ) (S : Shape) (T : Tabled Fraction) (budget : ℕ) where
  -- the run of a written table gives what its end should
  pub gives : EndsGive → (P : Problem) → IsTableOf P S T → (x : End Fraction) →
      x ≡ written_run ordered_fractions S (is_too_wide max) budget T → EndGives ordered_fractions P x
  gives law P h x e = subst (λ y. EndGives ordered_fractions P y)
      ((λ i. written_run ordered_fractions (h.shape i) (is_too_wide max) budget (h.table i)) ∙ sym e)
      (law P (is_too_wide max) budget)

  -- a budget that is enough for its columns is never spent
  pub never_spent : EnoughSuffices → IsWrittenTable S T → (b : ℕ) → enough_of (columns S) ≡ Some b → b ≤ budget →
      over ≡ written_run ordered_fractions S (is_too_wide max) budget T → ⊥
  never_spent law w b e l p = let h = w.is_its_table in law (problem_of w.problem) (is_too_wide max) budget b
      (ap (λ (S : Shape). enough_of (columns S)) h.shape ∙ e) l
      ((λ i. written_run ordered_fractions (h.shape i) (is_too_wide max) budget (h.table i)) ∙ sym p)
