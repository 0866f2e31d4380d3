use Rattle.std.proofs.Common.{◌≡◌, ℕ, ◌<◌, length, get_or}
use Rattle.stack_revised.specs.NoCell.{nothing}
use Rattle.stack_revised.specs.Reads.{read_at}
use Rattle.stack_revised.proofs.running.list_of.Given as goal

abbrev pub invariant-loop-i : goal.invariant-loop-i
invariant-loop-i l = record {
  long : length l.cells.items ≡ l.i;
  each : (k : ℕ) → k < l.i → get_or l.cells.items k nothing ≡ read_at l.t l.read k;
}
