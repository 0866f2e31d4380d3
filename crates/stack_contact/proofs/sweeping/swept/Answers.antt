use Rattle.std.proofs.Common.{suc}
use Rattle.stack_model.specs.ModelView.{model_view}
use Rattle.stack_contact.proofs.SweepSteps.{all-swept}
use Rattle.stack_contact.proofs.sweeping.swept.Goals as goal

pub returns : goal.returns
returns c = all-swept (model_view c.args.model.now) c.args.bodies.now c.requires c.loop-k.k (suc c.loop-k.k)
    c.loop-k.pairs.items c.loop-k-test.false c.loop-k.invariant
