use Rattle.std.proofs.Common.{◌-◌, ◌%◌, refl}
use Rattle.stack_overhang.proofs.Growing.{one_more_after}
use Rattle.stack_overhang.proofs.layers.with_layer.Goals as goal

pub loop-t-preserved : goal.loop-t-preserved
loop-t-preserved c =
    one_more_after (λ t. c.args.r - t % 2) c.args.counts.items c.loop-t.counts.items _ c.loop-t.t _
    c.in_ok-push.ensures.items refl c.loop-t.invariant
