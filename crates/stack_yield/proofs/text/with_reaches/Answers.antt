use Rattle.std.proofs.Common.{◌<◌, length, arith}
use Rattle.stack_yield.proofs.ReachLines.{one_more, no_more}
use Rattle.stack_yield.proofs.text.with_reaches.Goals as goal

pub loop-k-preserved : goal.loop-k-preserved
loop-k-preserved c =
    let lt : c.loop-k.k < length c.args.reaches.now = omega (arith, c.loop-k-test.true, c.loop-k.auto.k-end) in
    one_more c.args.reaches.now c.loop-k.k c.index-reaches-k.result _ _ _ lt c.index-reaches-k.is c.in_ok-longer.ensures
    c.loop-k.invariant

pub returns : goal.returns
returns c = no_more c.args.reaches.now c.loop-k.k _ _ (omega (arith, c.loop-k-test.false, c.loop-k.auto.k-end))
    c.loop-k.invariant
