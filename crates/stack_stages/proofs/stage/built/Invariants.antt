use Rattle.stack_model.specs.Keeping.{AreFlags}
use Rattle.stack_stages.specs.Stage.{is_fixed_or_among}
use Rattle.stack_stages.proofs.stage.built.Given as goal

-- of each body so far the list says whether it is built
abbrev pub invariant-loop-i : goal.invariant-loop-i
invariant-loop-i l = AreFlags l.i (is_fixed_or_among l.model l.first) l.flags.items
