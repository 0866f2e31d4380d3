use Rattle.std.proofs.Common.{◌≡◌, ℕ, ◌<◌, false}
use Rattle.stack_model.specs.Structure.{body_of}
use Rattle.stack_orders.specs.OrderRead.{is_free_line}
use Rattle.stack_orders.proofs.lines.named.Given as goal

-- none of the bodies so far has this line
abbrev pub invariant-loop-i : goal.invariant-loop-i
invariant-loop-i l = (k : ℕ) → k < l.i → is_free_line l.line (body_of l.model k) ≡ false
