use Rattle.std.proofs.Common.{◌≡◌, [], drop, map}
use Rattle.stack_algebra.specs.Steps.{steps}
use Rattle.stack_model.specs.Raw.{raw_load}
use Rattle.stack_model.specs.Content.{add_load}
use Rattle.stack_model.proofs.loads.all_loads.Given as goal

abbrev pub invariant-loop-index : goal.invariant-loop-index
invariant-loop-index l = steps (add_load l.bodies) l.index l.so_far.items
    (drop l.index (map raw_load l.raws)) ≡ steps (add_load l.bodies) 0 [] (map raw_load l.raws)
