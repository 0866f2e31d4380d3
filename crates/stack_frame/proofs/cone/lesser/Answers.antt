use Rattle.std.proofs.Common.{sym, subst}
use Rattle.stack_frame.specs.Cones.{IsLesser}
use Rattle.stack_frame.proofs.LesserCones.{lesser-first, lesser-second}
use Rattle.stack_frame.proofs.cone.lesser.Goals as goal

pub returns-then-is_at_most-clause-lesser : goal.returns-then-is_at_most-clause-lesser
returns-then-is_at_most-clause-lesser c = subst (IsLesser c.args.a c.args.b) (sym c.reduced.ensures)
    (lesser-first c.args.a c.args.b c.requires.a c.requires.b (sym c.if-is_at_most.ensures))

pub returns-else-is_at_most-clause-lesser : goal.returns-else-is_at_most-clause-lesser
returns-else-is_at_most-clause-lesser c = subst (IsLesser c.args.a c.args.b)
    (sym c.reduced-else-is_at_most.ensures) (lesser-second c.args.a c.args.b c.requires.a c.requires.b
    (sym c.if-is_at_most.ensures))
