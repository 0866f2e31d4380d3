use Rattle.stack_rational.proofs.RunningMultiple.{running_first, running_within, running_more, running_out, held}
use Rattle.stack_rational.proofs.scale.common_scale.Goals as goal

pub loop-index-init : goal.loop-index-init
loop-index-init c = running_first c.args.list.now

pub joined-requires : goal.joined-requires
joined-requires c = running_within _ _ _ c.loop-index.invariant

pub returns-in-None-clause-wide : goal.returns-in-None-clause-wide
returns-in-None-clause-wide c = running_out _ _ c.index-list-index.result _ c.loop-index-test.true
    c.index-list-index.is c.loop-index.invariant c.in-None.ensures

pub loop-index-preserved : goal.loop-index-preserved
loop-index-preserved c = running_more _ _ c.index-list-index.result _ _ c.loop-index-test.true
    c.index-list-index.is c.loop-index.invariant c.in-Some.ensures.0
    (held _ c.in-Some.next c.in-Some.ensures.0 c.in-Some.ensures.1)
