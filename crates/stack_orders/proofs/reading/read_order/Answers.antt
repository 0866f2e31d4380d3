use Rattle.std.proofs.Common.{◌≡◌, sym, ap, ◌∙◌, suc, ◌+◌, length, rules, Err, Ok}
use Rattle.stack_orders.specs.OrderRead.{next_block}
use Rattle.stack_orders.proofs.OrderLines.{answered, stopped, closed}
use Rattle.stack_orders.proofs.reading.read_order.Goals as goal

pub returns-in-None : goal.returns-in-None
returns-in-None c =
    let s = c.args.m.now in
    let h = c.sound.ensures.different_bodies in
    let ns = c.loop-rest.order.items in
    let line = c.cut_line.result.0.now in
    let none = sym c.in-None.ensures in
    let same = ap (λ ms. next_block s ms line) (sym c.as_slice.ensures.value) in
    let count : c.len.result + 1 ≡ suc (length ns) = search rules in
    answered s h c.args.text.now (Err (c.len.result + 1)) (stopped s h ns c.args.text.now c.loop-rest.rest.now line
    c.cut_line.result.1.now (c.len.result + 1) c.loop-rest.invariant.0 c.cut_line.ensures.cut (same ∙ none) count)

pub returns : goal.returns
returns c =
    let s = c.args.m.now in
    let h = c.sound.ensures.different_bodies in
    let none : length c.loop-rest.rest.now ≡ 0 = search rules in
    answered s h c.args.text.now (Ok c.loop-rest.order.items) (closed s h c.loop-rest.order.items c.args.text.now
    c.loop-rest.rest.now c.loop-rest.invariant.0 none)
