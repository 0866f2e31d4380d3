use Rattle.std.proofs.Common.{◌≡◌, map, take}
use Rattle.stack_range.specs.Reversed.{reversed_load}
use Rattle.stack_range.proofs.reversing.reversed_loads.Given as goal

abbrev pub invariant-loop-i : goal.invariant-loop-i
invariant-loop-i l = l.list.items ≡ map reversed_load (take l.i l.model.loads)
