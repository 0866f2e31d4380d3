use Rattle.std.proofs.Common.{◌≡◌, ℕ, ◌<◌, pos}
use Rattle.stack_rows.specs.RowForm.{number_at}
use Rattle.stack_inverse.proofs.objective.clear_row.Given as goal

abbrev pub invariant-loop-j : goal.invariant-loop-j
invariant-loop-j l = (i : ℕ) → i < l.j → number_at l.row i ≡ pos 0
