use Rattle.std.proofs.lemmas.Result.{err_from_is_err_and}
use Rattle.stack_reader.specs.Shape.{in_table}
use Rattle.stack_reader.proofs.Collected.{goes_on, ends, is_done}
use Rattle.stack_reader.proofs.shape.items.Goals as goal

pub returns-in_err-item_of : goal.returns-in_err-item_of
returns-in_err-item_of g c =
    let p = err_from_is_err_and c.from_residual.result c.from_residual.ensures.1 in
    rw (p.1, p.2) (ends (in_table g.I.Item.part c.args.key) c.in_err-item_of.field-0.0 _ _ _
    c.index-values-index.result _ c.loop-index-test.true c.index-values-index.is
    c.in_err-item_of.ensures c.loop-index.invariant)

pub loop-index-preserved : goal.loop-index-preserved
loop-index-preserved g c = goes_on g.I.Item.raw (in_table g.I.Item.part c.args.key) _ _ _ _
    c.index-values-index.result _ _
    c.in_ok-push.ensures.items c.loop-index-test.true c.index-values-index.is c.in_ok-item_of.ensures
    c.loop-index.invariant

pub returns : goal.returns
returns g c = is_done (in_table g.I.Item.part c.args.key) _ c.args.values.now c.loop-index.index _
    c.loop-index-test.false c.loop-index.invariant
