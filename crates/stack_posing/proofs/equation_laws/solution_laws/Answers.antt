use Rattle.stack_posing.proofs.Solutions.{solutions_are_forces}
use Rattle.stack_posing.proofs.ByNumber.{stands_by_solution, collapses_by_moves, greatest_by_both}
use Rattle.stack_posing.proofs.ByNumber.{unbounded_by_solutions}
use Rattle.stack_posing.proofs.equation_laws.solution_laws.Goals as goal

pub returns-clause-forces : goal.returns-clause-forces
returns-clause-forces _ = solutions_are_forces

pub returns-clause-stands : goal.returns-clause-stands
returns-clause-stands _ = stands_by_solution

pub returns-clause-collapse : goal.returns-clause-collapse
returns-clause-collapse _ = collapses_by_moves

pub returns-clause-greatest : goal.returns-clause-greatest
returns-clause-greatest _ = greatest_by_both

pub returns-clause-unbounded : goal.returns-clause-unbounded
returns-clause-unbounded _ = unbounded_by_solutions
