use Rattle.stack_posing.proofs.TwoBodies.{until_first, until_second, until_end}
use Rattle.stack_posing.proofs.posing.edge_column.Goals as goal

pub with_body-requires-clause-before : goal.with_body-requires-clause-before
with_body-requires-clause-before c = until_first c.args.s.now c.args.plus c.args.k c.bearing_at-bearing.result
    c.bearing_at-bearing.ensures.value c.bearing_at-bearing.ensures.pair c.new.result.items c.new.ensures.items

pub with_body-requires-2-clause-before : goal.with_body-requires-2-clause-before
with_body-requires-2-clause-before c = until_second c.args.s.now c.args.plus c.args.k c.bearing_at-bearing.result
    c.bearing_at-bearing.ensures.value c.bearing_at-bearing.ensures.pair c.in_ok-entries.entries.items
    c.in_ok-entries.ensures

pub returns : goal.returns
returns c = until_end c.args.s.now c.args.plus c.args.k c.bearing_at-bearing.result
    c.bearing_at-bearing.ensures.value c.bearing_at-bearing.ensures.pair c.in_ok-entries-2.entries.items
    c.in_ok-entries-2.ensures
