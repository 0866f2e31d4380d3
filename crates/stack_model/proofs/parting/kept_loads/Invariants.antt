use Rattle.std.proofs.Common.{◌≡◌, take}
use Rattle.stack_model.specs.Keeping.{flag_at, picked}
use Rattle.stack_model.specs.Part.{load_among}
use Rattle.stack_model.proofs.parting.kept_loads.Given as goal

abbrev pub invariant-loop-i : goal.invariant-loop-i
invariant-loop-i l = l.list.items
    ≡ picked (λ z. flag_at l.keeps z.body) (load_among (flag_at l.keeps)) (take l.i l.loads)
