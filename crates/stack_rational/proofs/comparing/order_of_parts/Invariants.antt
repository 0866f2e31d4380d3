use Rattle.std.proofs.Common.{◌≡◌, ◌*ℤ◌, ◌+◌, unsigned_abs}
use Rattle.std.specs.Ordering.{int_cmp}
use Rattle.stack_rational.specs.Stored.{InStep}
use Rattle.stack_rational.proofs.comparing.order_of_parts.Given as goal

abbrev pub invariant-steps : goal.invariant-steps
invariant-steps g l = InStep g.T.Integer.MAX (g.T.Number.value l.a) (g.T.Number.value l.b)
    (g.T.Number.value l.c) (g.T.Number.value l.d) ×
    (int_cmp (g.T.Number.value l.a *ℤ g.T.Number.value l.d) (g.T.Number.value l.c *ℤ g.T.Number.value l.b)
    ≡ int_cmp (g.T.Number.value l.fn.a *ℤ g.T.Number.value l.fn.d)
    (g.T.Number.value l.fn.c *ℤ g.T.Number.value l.fn.b))

abbrev pub decreases-steps : goal.decreases-steps
decreases-steps g l = unsigned_abs (g.T.Number.value l.b) + unsigned_abs (g.T.Number.value l.d)
