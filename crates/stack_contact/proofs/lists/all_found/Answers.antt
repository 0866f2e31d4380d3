use mathlib.Core.Path.{sym, subst}
use Rattle.stack_model.specs.ModelView.{model_view}
use Rattle.stack_contact.specs.NearPairs.{AreNearPairs, IsOrdered}
use Rattle.stack_contact.proofs.lists.all_found.Goals as goal

pub found_in-requires-clause-near : goal.found_in-requires-clause-near
found_in-requires-clause-near c = subst (AreNearPairs (model_view c.args.model.now)) (sym c.as_slice.ensures.value)
    c.in_ok-pairs.ensures.near

pub found_in-requires-clause-ordered : goal.found_in-requires-clause-ordered
found_in-requires-clause-ordered c = subst IsOrdered (sym c.as_slice.ensures.value) c.in_ok-pairs.ensures.ordered
