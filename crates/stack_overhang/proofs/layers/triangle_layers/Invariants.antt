use Rattle.std.proofs.Common.{◌≡◌}
use Rattle.stack_overhang.specs.Stacks.{triangle_counts}
use Rattle.stack_overhang.proofs.layers.triangle_layers.Given as goal

abbrev pub invariant-loop-k : goal.invariant-loop-k
invariant-loop-k l = l.counts.items ≡ triangle_counts l.k
