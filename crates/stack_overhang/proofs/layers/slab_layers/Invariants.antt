use Rattle.std.proofs.Common.{◌≡◌, ◌+◌, ◌-◌, ◌∷◌, flat_map}
use Rattle.stack_algebra.specs.Listed.{listed}
use Rattle.stack_overhang.specs.Stacks.{layer_of}
use Rattle.stack_overhang.proofs.layers.slab_layers.Given as goal

abbrev pub invariant-loop-r : goal.invariant-loop-r
invariant-loop-r l = l.counts.items ≡ 1 ∷ flat_map layer_of (listed (l.r - 2) (λ k. k + 2))
