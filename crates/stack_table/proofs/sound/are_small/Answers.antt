use Rattle.std.proofs.Common.{rules, sym, ◌∙◌}
use Rattle.stack_table.proofs.SoundProblem.{small_next, small_ends, small_done}
use Rattle.stack_table.proofs.sound.are_small.Goals as goal

pub loop-number-preserved : goal.loop-number-preserved
loop-number-preserved c = small_next c.args.numbers.now c.loop-number.number-index _ c.loop-number-test.true
    (search rules) (sym c.is_small.ensures ∙ c.if-not-is_small.false) c.loop-number.invariant

pub returns-then-not-is_small : goal.returns-then-not-is_small
returns-then-not-is_small c = small_ends c.args.numbers.now c.loop-number.number-index _ c.loop-number-test.true
    (search rules) (sym c.is_small.ensures ∙ c.if-not-is_small.true) c.loop-number.invariant

pub returns : goal.returns
returns c = small_done c.args.numbers.now c.loop-number.number-index c.loop-number-test.false c.loop-number.invariant
