use Rattle.std.proofs.Common.{◌≡◌, ℕ, pos}
use Rattle.stack_rows.specs.RowForm.{number_at, IsMultiplied}
use Rattle.stack_rows.proofs.stepping.multiply_before.Given as goal

abbrev pub invariant-loop-j : goal.invariant-loop-j
invariant-loop-j l = record {
  written : IsMultiplied l.fn.numbers l.by l.j l.numbers;
  kept : (i : ℕ) → number_at l.fn.numbers i ≡ pos 0 → number_at l.numbers i ≡ pos 0;
}
