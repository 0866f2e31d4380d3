use Rattle.std.proofs.Common.{ℕ, ◌<◌}
use Rattle.stack_overlap.specs.Separation.{Separates}
use Rattle.stack_overlap.proofs.separating.first_separating.Given as goal

abbrev pub invariant-loop-i : goal.invariant-loop-i
invariant-loop-i l = (k : ℕ) → k < l.i → ¬ (Separates l.p k l.q)
