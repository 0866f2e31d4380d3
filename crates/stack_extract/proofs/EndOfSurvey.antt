-- The end of a run of the problem that is posed for a survey, as its calls tell it.
use Rattle.std.proofs.Common.{◌≡◌, sym}
use Rattle.stack_rational.proofs.Common.{ordered_fractions}
use Rattle.stack_rational.specs.declared.exact.Exact.{Ghosts}
use Rattle.stack_table.specs.declared.problem.Problem.{Problem as Lent}
use Rattle.stack_table.specs.declared.table.Table.{Table}
use Rattle.stack_table.specs.WrittenTable.{written_table}
use Rattle.stack_table.specs.Seen.{shape_of_table, table_of}
use Rattle.stack_table.specs.Lent.{IsProblem, shape_of_problem, problem_of}
use Rattle.stack_tableau.specs.Written.{IsWrittenTable}

module _ {V : Type 0} {number : Ghosts V} (p : Lent) (t : Table V number)
    (shape : shape_of_table t ≡ shape_of_problem p)
    (table : table_of t ≡ written_table ordered_fractions (problem_of p)) where
  -- the run takes the table that is built
  pub is_written : IsProblem p → IsWrittenTable (shape_of_table t) (table_of t)
  is_written h = record {
    problem = p;
    condition = h;
    is_its_table = record { shape = sym shape; table = sym table };
  }
