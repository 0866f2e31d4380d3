-- What building a table gives: the written table of a problem, or why there is none. Contracts of `build` cite it.
use Rattle.std.specs.Prelude.{◌≡◌, Result, IfOk, OnOk, IfErr, None}
use Rattle.stack_algebra.proofs.OrderedFractions.{ordered_fractions}
use Rattle.stack_rational.specs.TooWide.{is_too_wide}
use Rattle.stack_rational.specs.declared.exact.Exact.{Ghosts}
use Rattle.stack_table.specs.declared.problem.Problem.{Problem as Lent}
use Rattle.stack_table.specs.declared.problem.BuildError.{BuildError}
use Rattle.stack_table.specs.declared.problem.BuildError.TheVariants.{Memory}
use Rattle.stack_table.specs.declared.table.Table.{Table}
use Rattle.stack_table.specs.Problem.{flipped}
use Rattle.stack_table.specs.Lent.{IsAmple, TellsFirst, shape_of_problem, problem_of}
use Rattle.stack_table.specs.WrittenTable.{written_table, wide_place}
use Rattle.stack_table.specs.Seen.{shape_of_table, table_of, flips_of}

-- what the result of building says of a problem
pub record Builds {V : Type 0} {number : Ghosts V} (result : Result (Table V number) BuildError) (P : Lent)
    : Type 0 where
  -- a table has the shape of the problem
  pub shape : IfOk result (λ t. shape_of_table t ≡ shape_of_problem P)
  -- it is exactly the written table
  pub ok : IfOk result (λ t. table_of t ≡ written_table ordered_fractions (problem_of P))
  -- the rows are flipped whose right side is negative
  pub flips : IfOk result (λ t. flips_of t ≡ flipped (problem_of P))
  -- where there is a table, nothing of it is too wide
  pub fits : OnOk result (wide_place ordered_fractions (is_too_wide number.MAX) (problem_of P) ≡ None)
  -- a refusal names the first place that is too wide, or says that memory ran out
  pub wide : IfErr result (λ e.
      TellsFirst e (wide_place ordered_fractions (is_too_wide number.MAX) (problem_of P)))
  -- at an ample greatest value only memory can run out
  pub never_wide : IsAmple number.MAX → IfErr result (λ e. e ≡ Memory)
