use Rattle.std.proofs.Common.{◌≡◌, map, take}
use Rattle.stack_model.specs.Raw.{raw_block}
use Rattle.stack_model.specs.Relisted.{body_listed}
use Rattle.stack_model.proofs.listing.blocks.Given as goal

abbrev pub invariant-loop-i : goal.invariant-loop-i
invariant-loop-i l = map raw_block l.list.items ≡ map (body_listed l.model.materials) (take l.i l.model.bodies)
