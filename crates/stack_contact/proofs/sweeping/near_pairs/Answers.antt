use Rattle.stack_model.specs.ModelView.{model_view}
use Rattle.std.proofs.lemmas.List.Filters.{dedup_is}
use Rattle.stack_contact.proofs.PairOrder.{near-kept, pairs-rise}
use Rattle.stack_contact.proofs.sweeping.near_pairs.Goals as goal

pub returns-clause-near : goal.returns-clause-near
returns-clause-near c = near-kept (model_view c.args.model.now) c.in_ok-pairs.pairs.items c.sort.new.self.items
    c.dedup.new.self.items c.in_ok-pairs.ensures c.sort.ensures.permutation
    (dedup_is _ _ _ c.dedup.ensures.filtered)

pub returns-clause-ordered : goal.returns-clause-ordered
returns-clause-ordered c = pairs-rise c.sort.new.self.items c.dedup.new.self.items c.in_ok-sort.ensures.sorted
    (dedup_is _ _ _ c.dedup.ensures.filtered)
