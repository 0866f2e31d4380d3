use Rattle.std.proofs.Common.{◌+◌, pos}
use Rattle.stack_overhang.specs.Stacks.{harmonic_row}
use Rattle.stack_overhang.proofs.Growing.{one_more}
use Rattle.stack_overhang.proofs.Reaches.{next}
use Rattle.stack_overhang.proofs.layers.harmonic_layers.Goals as goal

pub overflow_add-right : goal.overflow_add-right
overflow_add-right c =
    (next c.args.n c.loop-k.k _ c.loop-k.invariant.reach c.loop-k-test.true c.requires).fits

pub overflow_sub-right-in-loop-k : goal.overflow_sub-right-in-loop-k
overflow_sub-right-in-loop-k c =
    (next c.args.n c.loop-k.k _ c.loop-k.invariant.reach c.loop-k-test.true c.requires).left_fits

pub loop-k-preserved : goal.loop-k-preserved
loop-k-preserved c =
    let at = next c.args.n c.loop-k.k _ c.loop-k.invariant.reach c.loop-k-test.true c.requires in
    record {
      rows = one_more (λ k. harmonic_row c.args.n (k + 1)) c.loop-k.rows.items _ c.loop-k.k _
          c.in_ok-push.ensures.items
          (λ i. record { left = at.left i; bottom = at.bottom i; count = 1; long = pos 5040; high = pos 1000 })
          c.loop-k.invariant.rows;
      reach = at.reach;
    }
