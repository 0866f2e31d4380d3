use Rattle.std.proofs.Common.{◌≡◌, ◌+◌}
use Rattle.stack_algebra.specs.Listed.{listed}
use Rattle.stack_overhang.specs.Stacks.{harmonic_row, right_end_of}
use Rattle.stack_overhang.proofs.layers.harmonic_layers.Given as goal

abbrev pub invariant-loop-k : goal.invariant-loop-k
invariant-loop-k l = record {
  rows : l.rows.items ≡ listed l.k (λ k. harmonic_row l.n (k + 1));
  reach : l.right ≡ right_end_of l.n l.k;
}
