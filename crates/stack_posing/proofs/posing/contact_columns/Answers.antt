use Rattle.std.proofs.Common.{◌<◌, length, subst}
use Rattle.stack_posing.proofs.PosedParts.{next_bearing}
use Rattle.stack_posing.proofs.posing.contact_columns.Goals as goal

pub loop-k-preserved : goal.loop-k-preserved
loop-k-preserved c =
    next_bearing c.args.s.now c.loop-k.k c.loop-k.columns.items c.push.new.self.items c.push-in-loop-k.new.self.items
    c.in_ok-edge_column.field-0 c.in_ok-edge_column-2.field-0
    (subst (λ xs. c.loop-k.k < length xs) c.bearings-k-end.ensures.value c.loop-k-test.true) c.in_ok-push.ensures.items
    c.in_ok-push-2.ensures.items c.in_ok-edge_column.ensures c.in_ok-edge_column-2.ensures c.loop-k.invariant
