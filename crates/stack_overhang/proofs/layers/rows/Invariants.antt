use Rattle.std.proofs.Common.{◌≡◌, ◌+◌, get_or}
use Rattle.stack_algebra.specs.Listed.{listed}
use Rattle.stack_overhang.specs.Stacks.{centred}
use Rattle.stack_overhang.proofs.layers.rows.Given as goal

abbrev pub invariant-loop-k : goal.invariant-loop-k
invariant-loop-k l = l.rows.items ≡ listed l.k (λ k. centred (k + 1) (get_or l.counts k 0))
