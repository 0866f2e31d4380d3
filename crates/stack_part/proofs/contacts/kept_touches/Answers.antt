use Rattle.std.proofs.Common.{refl, ◌&&◌}
use Rattle.stack_model.specs.Keeping.{flag_at}
use Rattle.stack_part.specs.Part.{touch_among}
use Rattle.stack_model.proofs.PickedSoFar.{picked_more}
use Rattle.stack_part.proofs.contacts.kept_touches.Goals as goal

pub loop-k-preserved : goal.loop-k-preserved
loop-k-preserved c = let keeps = flag_at c.args.keeps.now in
    picked_more (λ z. keeps z.first && keeps z.second) (touch_among keeps) _ _ c.args.touches.now c.loop-k.k _ _
    c.in_ok-list.ensures refl c.loop-k-test.true c.loop-k.invariant
