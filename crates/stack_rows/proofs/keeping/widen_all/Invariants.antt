use Rattle.std.proofs.Common.{◌≡◌, ℕ, ◌<◌}
use Rattle.stack_rows.specs.RowForm.{number_at}
use Rattle.stack_rows.proofs.keeping.widen_all.Given as goal

abbrev pub invariant-loop-j : goal.invariant-loop-j
invariant-loop-j l = (k : ℕ) → k < l.j → number_at l.numbers k ≡ number_at l.words k
