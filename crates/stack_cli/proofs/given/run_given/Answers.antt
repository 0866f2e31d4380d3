use Rattle.std.proofs.Common.{refl}
use Rattle.stack_said.proofs.Consequences.{words_status, memory_status}
use Rattle.stack_said.proofs.Returned.{none_works, memory_works}
use Rattle.stack_said.proofs.Running.{works_run}
use Rattle.stack_cli.proofs.given.run_given.Goals as goal

pub returns-in-Words-clause-runs : goal.returns-in-Words-clause-runs
returns-in-Words-clause-runs g c = rw c.in-Words.is (rw c.as_slice.ensures.value at c.run.ensures)

pub returns-in-Unreadable-clause-runs : goal.returns-in-Unreadable-clause-runs
returns-in-Unreadable-clause-runs g c = let d = c.deliver.ensures in
    rw c.in-Unreadable.is (works_run c.printed_is_accepted.ensures.accepted
    c.walls_can_be_surveyed.ensures.drawn _ _ _ _ _ _
    (none_works g.F.Shelf c.args.shelf.now) d.delivers d.one_put d.one_line d.out_later d.err_later)

pub returns-in-Unreadable-clause-unreadable : goal.returns-in-Unreadable-clause-unreadable
returns-in-Unreadable-clause-unreadable g c is = words_status _ _ _ _ refl c.deliver.ensures.delivers

pub returns-in-Memory-clause-runs : goal.returns-in-Memory-clause-runs
returns-in-Memory-clause-runs g c = let d = c.deliver-in-Memory.ensures in
    rw c.in-Memory.is (works_run c.printed_is_accepted.ensures.accepted
    c.walls_can_be_surveyed.ensures.drawn _ _ _ _ _ _
    (memory_works g.F.Shelf c.args.shelf.now) d.delivers d.one_put d.one_line d.out_later d.err_later)

pub returns-in-Memory-clause-memory : goal.returns-in-Memory-clause-memory
returns-in-Memory-clause-memory g c is = memory_status _ _ _ _ refl c.deliver-in-Memory.ensures.delivers
