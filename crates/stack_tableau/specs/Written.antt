-- A table that is the written table of a problem, as the run takes it.
use Rattle.std.specs.Prelude.{◌≡◌}
use Rattle.stack_algebra.specs.Fraction.{Fraction}
use Rattle.stack_algebra.proofs.OrderedFractions.{ordered_fractions}
use Rattle.stack_table.specs.declared.problem.Problem.{Problem as Lent}
use Rattle.stack_table.specs.Table.{Shape, Tabled}
use Rattle.stack_table.specs.Problem.{Problem}
use Rattle.stack_table.specs.WrittenTable.{written_table}
use Rattle.stack_table.specs.Lent.{IsProblem, problem_of}

-- T is the written table of P, and S its shape
pub record IsTableOf (P : Problem) (S : Shape) (T : Tabled Fraction) : Type 0 where
  pub shape : P.shape ≡ S
  pub table : written_table ordered_fractions P ≡ T

-- T is the written table of some problem that meets the condition of a table
pub record IsWrittenTable (S : Shape) (T : Tabled Fraction) : Type 0 where
  pub problem : Lent
  pub condition : IsProblem problem
  pub is_its_table : IsTableOf (problem_of problem) S T
