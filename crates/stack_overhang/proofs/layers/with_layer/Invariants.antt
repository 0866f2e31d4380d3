use Rattle.std.proofs.Common.{◌≡◌, ◌++◌, ◌-◌, ◌%◌}
use Rattle.stack_algebra.specs.Listed.{listed}
use Rattle.stack_overhang.proofs.layers.with_layer.Given as goal

abbrev pub invariant-loop-t : goal.invariant-loop-t
invariant-loop-t l = l.counts.items ≡ l.fn.counts.items ++ listed l.t (λ t. l.r - t % 2)
