use Rattle.stack_model.specs.ModelView.{model_view}
use Rattle.stack_contact.proofs.FromLeft.{ArePlacedTo}
use Rattle.stack_contact.proofs.sweeping.from_left.Given as goal

abbrev pub invariant-loop-body : goal.invariant-loop-body
invariant-loop-body l = ArePlacedTo (model_view l.model) l.body l.bodies.items
