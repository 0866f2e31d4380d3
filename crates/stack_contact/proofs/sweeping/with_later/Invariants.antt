use Rattle.stack_model.specs.ModelView.{model_view}
use Rattle.stack_contact.specs.NearPairs.{AreSwept}
use Rattle.stack_contact.proofs.sweeping.with_later.Given as goal

abbrev pub invariant-loop-m : goal.invariant-loop-m
invariant-loop-m l = AreSwept (model_view l.model) l.bodies l.k l.m l.pairs.items
