use Rattle.std.proofs.Common.{◌&&◌}
use Rattle.stack_model.specs.Keeping.{flag_at}
use Rattle.stack_part.specs.Part.{bearing_among}
use Rattle.stack_model.proofs.PickedSoFar.{picked_more}
use Rattle.stack_part.proofs.contacts.kept_bearings.Goals as goal

pub loop-k-preserved : goal.loop-k-preserved
loop-k-preserved c = let keeps = flag_at c.args.keeps.now in
    picked_more (λ z. keeps z.first && keeps z.second) (bearing_among keeps) _ _ c.args.bearings.now c.loop-k.k _ _
    c.in_ok-list.ensures c.index-bearings-k.is c.loop-k-test.true c.loop-k.invariant
