use Rattle.std.proofs.Common.{◌≡◌, map, take}
use Rattle.stack_model.specs.Raw.{raw_load}
use Rattle.stack_model.specs.Relisted.{load_listed}
use Rattle.stack_model.proofs.listing.loads.Given as goal

abbrev pub invariant-loop-i : goal.invariant-loop-i
invariant-loop-i l = map raw_load l.list.items ≡ map (load_listed l.model.bodies) (take l.i l.model.loads)
