use Rattle.std.proofs.Common.{◌≡◌, map, take}
use Rattle.stack_model.specs.Kept.{body_view}
use Rattle.stack_model.specs.Keeping.{flag_at, kept}
use Rattle.stack_model.proofs.parting.kept_bodies.Given as goal

abbrev pub invariant-loop-i : goal.invariant-loop-i
invariant-loop-i l = map body_view l.list.items ≡ kept (flag_at l.keeps) (take l.i (map body_view l.bodies))
