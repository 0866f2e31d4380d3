use Rattle.std.proofs.Common.{◌≡◌, map, take}
use Rattle.stack_model.specs.Kept.{body_view}
use Rattle.stack_model.proofs.copying.bodies_again.Given as goal

abbrev pub invariant-loop-i : goal.invariant-loop-i
invariant-loop-i l = map body_view l.list.items ≡ map body_view (take l.i l.kept)
