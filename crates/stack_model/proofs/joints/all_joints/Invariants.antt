use Rattle.std.proofs.Common.{◌≡◌, [], drop, map}
use Rattle.stack_algebra.specs.Steps.{steps}
use Rattle.stack_model.specs.Raw.{raw_joint}
use Rattle.stack_model.specs.Content.{add_joint}
use Rattle.stack_model.proofs.joints.all_joints.Given as goal

abbrev pub invariant-loop-index : goal.invariant-loop-index
invariant-loop-index l = steps (add_joint l.materials) l.index l.so_far.items
    (drop l.index (map raw_joint l.raws)) ≡ steps (add_joint l.materials) 0 [] (map raw_joint l.raws)
