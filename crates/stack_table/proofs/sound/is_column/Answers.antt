use Rattle.std.proofs.Common.{rules, sym, ap, ◌∙◌, SFits, to_z-of_z, get_or}
use Rattle.stack_rational.proofs.Common.{w128}
use Rattle.stack_table.specs.Sound.{is_small}
use Rattle.stack_table.proofs.SoundProblem.{column_next, column_back, column_past, column_wide, column_done}
use Rattle.stack_table.proofs.sound.is_column.Goals as goal

pub loop-entry-preserved : goal.loop-entry-preserved
loop-entry-preserved c =
    let i = c.loop-entry.entry-index in
    let fits : SFits w128 (get_or c.args.entries.now i _).value = search rules in
    column_next c.args.rows c.loop-entry.from i c.args.entries.now _ c.loop-entry-test.true c.loop-entry.invariant
    c.if-entry-from.false c.if-rows-entry.false
    (sym (ap is_small (to_z-of_z fits)) ∙ sym c.is_small.ensures ∙ c.if-not-is_small.false)

pub returns-then-entry-from : goal.returns-then-entry-from
returns-then-entry-from c = column_back c.args.rows c.loop-entry.from c.loop-entry.entry-index c.args.entries.now _
    c.loop-entry-test.true c.loop-entry.invariant c.if-entry-from.true

pub returns-then-rows-entry : goal.returns-then-rows-entry
returns-then-rows-entry c = column_past c.args.rows c.loop-entry.from c.loop-entry.entry-index c.args.entries.now _
    c.loop-entry-test.true c.loop-entry.invariant c.if-entry-from.false c.if-rows-entry.true

pub returns-then-not-is_small : goal.returns-then-not-is_small
returns-then-not-is_small c =
    let i = c.loop-entry.entry-index in
    let fits : SFits w128 (get_or c.args.entries.now i _).value = search rules in
    column_wide c.args.rows c.loop-entry.from i c.args.entries.now _ c.loop-entry-test.true c.loop-entry.invariant
    c.if-entry-from.false c.if-rows-entry.false
    (sym (ap is_small (to_z-of_z fits)) ∙ sym c.is_small.ensures ∙ c.if-not-is_small.true)

pub returns : goal.returns
returns c = column_done c.args.rows c.loop-entry.from c.loop-entry.entry-index c.args.entries.now
    c.loop-entry-test.false c.loop-entry.invariant
