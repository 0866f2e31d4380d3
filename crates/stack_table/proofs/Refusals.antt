-- What building owes where there is no table: an error that tells of the first place that is too wide, or that memory
-- ran out.
use Rattle.std.proofs.Common.{◌≡◌, sym, subst, Result, Ok, Err}
use Rattle.std.specs.Result.{IsErrAnd}
use Rattle.stack_rational.proofs.Common.{ordered_fractions, is_too_wide}
use Rattle.stack_rational.specs.declared.exact.Exact.{Ghosts}
use Rattle.stack_table.specs.declared.problem.BuildError.{BuildError}
use Rattle.stack_table.specs.declared.problem.BuildError.TheVariants.{Memory}
use Rattle.stack_table.specs.declared.problem.Problem.{Problem as Lent}
use Rattle.stack_table.specs.declared.table.Table.{Table}
use Rattle.stack_table.specs.Lent.{IsProblem, TellsFirst, problem_of}
use Rattle.stack_table.specs.WrittenTable.{wide_place}
use Rattle.stack_table.specs.Built.{Builds}
use Rattle.stack_table.proofs.AtWidest.{only_memory}

module _ {V : Type 0} {number : Ghosts V} (P : Lent) (h : IsProblem P) where
  told : (e : BuildError) → TellsFirst e (wide_place ordered_fractions (is_too_wide number.MAX) (problem_of P)) →
      Builds {V = V} {number = number} (Err e) P
  told e t = record {
    shape = tt;
    ok = tt;
    flips = tt;
    fits = tt;
    wide = t;
    never_wide = λ ample. only_memory number.MAX ample P h e t;
  }

  pub refused : (e : BuildError) →
      TellsFirst e (wide_place ordered_fractions (is_too_wide number.MAX) (problem_of P)) →
      (r : Result (Table V number) BuildError) → IsErrAnd r (λ y. y ≡ e) → Builds r P
  refused e t (Ok _) k = absurd k
  refused e t (Err y) k = subst (λ x. Builds {V = V} {number = number} (Err x) P) (sym k) (told e t)

  pub out_of_memory : (r : Result (Table V number) BuildError) → IsErrAnd r (λ y. y ≡ Memory) → Builds r P
  out_of_memory = refused Memory tt
