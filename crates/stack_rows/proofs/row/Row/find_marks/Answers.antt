use Rattle.std.proofs.Common.{List, ℤ, [], ◌∷◌, ◌++◌, ap}
use Rattle.stack_rows.proofs.row.Row.find_marks.Goals as goal

pub invariant_of-self-clause-topped : goal.invariant_of-self-clause-topped
invariant_of-self-clause-topped c = rw c.find_marks.ensures c.args.self.now.topped

pub returns-clause-numbers : goal.returns-clause-numbers
returns-clause-numbers c = ap (λ (xs : List ℤ). xs ++ c.args.self.now.right ∷ []) c.find_marks.ensures
