use Rattle.std.proofs.Common.{◌≡◌, take}
use Rattle.stack_model.specs.Keeping.{flag_at}
use Rattle.stack_part.specs.Part.{bearings_among}
use Rattle.stack_part.proofs.contacts.kept_bearings.Given as goal

abbrev pub invariant-loop-k : goal.invariant-loop-k
invariant-loop-k l = l.list.items ≡ bearings_among (flag_at l.keeps) (take l.k l.bearings)
