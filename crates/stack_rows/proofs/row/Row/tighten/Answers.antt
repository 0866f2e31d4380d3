use Rattle.stack_rows.specs.EntriesSeen.{entries_of}
use Rattle.stack_rows.proofs.Sided.{topped}
use Rattle.stack_rows.proofs.row.Row.tighten.Goals as goal

pub invariant_of-self-clause-topped : goal.invariant_of-self-clause-topped
invariant_of-self-clause-topped c =
    let s = c.args.self.now in
    topped (entries_of s.entries) s.right c.top-self.result c.top-self.ensures
