use Rattle.std.proofs.Common.{◌≡◌, map, take}
use Rattle.stack_model.specs.Raw.{numbers_view}
use Rattle.stack_model.specs.Relisted.{coordinates}
use Rattle.stack_model.proofs.listing.corners.Given as goal

abbrev pub invariant-loop-i : goal.invariant-loop-i
invariant-loop-i l = map numbers_view l.list.items ≡ map coordinates (take l.i l.outline)
