use Rattle.std.proofs.Common.{◌+◌, refl}
use Rattle.stack_overhang.proofs.Growing.{one_more}
use Rattle.stack_overhang.proofs.layers.triangle_layers.Goals as goal

pub loop-k-preserved : goal.loop-k-preserved
loop-k-preserved c = one_more (λ k. k + 1) c.loop-k.counts.items _ c.loop-k.k _ c.in_ok-push.ensures.items refl
    c.loop-k.invariant
