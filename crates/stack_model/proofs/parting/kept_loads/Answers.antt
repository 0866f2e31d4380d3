use Rattle.std.proofs.Common.{refl}
use Rattle.stack_model.specs.Keeping.{flag_at}
use Rattle.stack_model.specs.Part.{load_among}
use Rattle.stack_model.proofs.PickedSoFar.{picked_more}
use Rattle.stack_model.proofs.parting.kept_loads.Goals as goal

pub loop-i-preserved : goal.loop-i-preserved
loop-i-preserved c = let keeps = flag_at c.args.keeps.now in
    picked_more (λ l. keeps l.body) (load_among keeps) _ _ c.args.loads.now c.loop-i.i _ _
    c.in_ok-list.ensures refl c.loop-i-test.true c.loop-i.invariant
