use Rattle.std.proofs.Common.{◌≡◌, ◌≤◌}
use Rattle.stack_model.specs.Keeping.{flag_at, kept_before}
use Rattle.stack_model.proofs.keeping.among.Given as goal

abbrev pub invariant-loop-j : goal.invariant-loop-j
invariant-loop-j l = (l.count ≡ kept_before (flag_at l.keeps) l.j) × (l.count ≤ l.j)
