use Rattle.std.proofs.Common.{◌≤◌, ◌∙◌, length, arith}
use Rattle.stack_rational.proofs.Common.{with_items_is}
use Rattle.stack_rows.proofs.Bits.{joined}
use Rattle.stack_rows.proofs.marks.Marks.join.Goals as goal

pub returns-clause-joined : goal.returns-clause-joined
returns-clause-joined c = λ j.
    let i = c.loop-w.invariant in
    let own = c.as_mut_slice-own in
    let others = c.as_slice-others in
    let is = with_items_is c.args.self.now.words c.loop-w.own (c.loop-w.auto.own ∙ own.ensures.len) in
    let end : length c.loop-w.own ≤ c.loop-w.w = omega (arith, c.loop-w-test.false, c.loop-w.auto.own) in
    let e = joined c.loop-w.own own.result.now others.result.now c.loop-w.w end
    (omega (arith, end, c.loop-w.auto.own))
    (rw (others.ensures.value, c.requires, ← own.ensures.value) (omega (arith, end, c.loop-w.auto.own))) i.done j in
    rw is (rw (own.ensures.value, others.ensures.value) at e)
