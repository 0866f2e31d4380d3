use Rattle.std.proofs.Common.{◌≡◌, [], drop, map}
use Rattle.stack_algebra.specs.Steps.{steps}
use Rattle.stack_model.specs.Kept.{body_view}
use Rattle.stack_model.specs.Raw.{raw_block}
use Rattle.stack_model.specs.Content.{add_block, body_names}
use Rattle.stack_model.proofs.bodies.all_bodies.Given as goal

abbrev pub invariant-loop-index : goal.invariant-loop-index
invariant-loop-index l = (l.names ≡ body_names (map body_view l.kept.items))
    × (steps (add_block l.materials) l.index (map body_view l.kept.items) (drop l.index (map raw_block l.raws))
    ≡ steps (add_block l.materials) 0 [] (map raw_block l.raws))
