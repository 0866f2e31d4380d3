use Rattle.std.proofs.Common.{◌≡◌, ◌≤◌, ◌+◌, length}
use Rattle.stack_certificate.specs.FaultLine.{cut}
use Rattle.stack_orders.specs.OrderRead.{told_order, order_over}
use Rattle.stack_orders.proofs.reading.read_order.Given as goal

abbrev pub invariant-loop-rest : goal.invariant-loop-rest
invariant-loop-rest l =
    (order_over l.m l.order.items (cut l.rest) ≡ told_order l.m l.text)
    × (length l.order.items + length l.rest ≤ length l.text)

abbrev pub decreases-loop-rest : goal.decreases-loop-rest
decreases-loop-rest l = length l.rest
