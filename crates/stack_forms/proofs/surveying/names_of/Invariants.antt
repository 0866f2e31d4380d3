use Rattle.std.proofs.Common.{◌≡◌, map, take, string_bytes}
use Rattle.stack_work.specs.Surveying.{structure_names}
use Rattle.stack_forms.proofs.surveying.names_of.Given as goal

abbrev pub invariant-loop-i : goal.invariant-loop-i
invariant-loop-i l = map string_bytes l.names.items ≡ take l.i (structure_names l.model)
