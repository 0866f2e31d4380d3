use Rattle.std.proofs.Common.{sym, ◌<◌, subst, arith}
use Rattle.stack_orders.specs.OrderRead.{is_free_line}
use Rattle.stack_orders.proofs.Positions.{position_at, position_none}
use Rattle.stack_orders.proofs.lines.named.Goals as goal

pub returns-then-names : goal.returns-then-names
returns-then-names c =
    let lt = subst (λ n. c.loop-i.i < n) c.bodies-i-end.ensures.value c.loop-i-test.true in
    sym (position_at (is_free_line c.args.line.now) c.args.model.now.bodies _ c.loop-i.i lt c.loop-i.invariant
    (sym c.if-names.ensures))

pub returns : goal.returns
returns c =
    let n = c.bodies-i-end.ensures.value in
    let t = c.loop-i-test.false in
    sym (position_none (is_free_line c.args.line.now) c.args.model.now.bodies _
    (λ k l. c.loop-i.invariant k (omega (arith, n, t, l))))
