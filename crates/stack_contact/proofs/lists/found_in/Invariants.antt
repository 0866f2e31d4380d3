use Rattle.stack_model.specs.ModelView.{model_view}
use Rattle.stack_contact.proofs.ListedPairs.{AreFoundTo}
use Rattle.stack_contact.proofs.lists.found_in.Given as goal

abbrev pub invariant-loop-n : goal.invariant-loop-n
invariant-loop-n l = AreFoundTo (model_view l.model) l.pairs l.n l.lists.bearings.items
    l.lists.touches.items
