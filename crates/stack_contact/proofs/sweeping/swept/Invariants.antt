use Rattle.std.proofs.Common.{suc}
use Rattle.stack_model.specs.ModelView.{model_view}
use Rattle.stack_contact.specs.NearPairs.{AreSwept}
use Rattle.stack_contact.proofs.sweeping.swept.Given as goal

abbrev pub invariant-loop-k : goal.invariant-loop-k
invariant-loop-k l = AreSwept (model_view l.model) l.bodies l.k (suc l.k) l.pairs.items
