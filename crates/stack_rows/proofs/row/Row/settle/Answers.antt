use Rattle.std.proofs.Common.{List, ℤ, [], ◌∷◌, ◌++◌, ap}
use Rattle.stack_rows.specs.EntriesSeen.{entries_of}
use Rattle.stack_rows.proofs.Sided.{within_top}
use Rattle.stack_rows.proofs.row.Row.settle.Goals as goal

pub settle-requires : goal.settle-requires
settle-requires c =
    let s = c.args.self.now in
    within_top (entries_of s.entries) s.right s.top s.topped

pub returns-clause-numbers : goal.returns-clause-numbers
returns-clause-numbers c = ap (λ (xs : List ℤ). xs ++ c.args.self.now.right ∷ []) c.settle.ensures

pub invariant_of-self-clause-topped : goal.invariant_of-self-clause-topped
invariant_of-self-clause-topped c =
    let s = c.args.self.now in
    rw c.settle.ensures s.topped
