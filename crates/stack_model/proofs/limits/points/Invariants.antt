use Rattle.std.proofs.Common.{◌≡◌, drop, map}
use Rattle.stack_model.specs.Raw.{numbers_view}
use Rattle.stack_model.specs.Limits.{points_of}
use Rattle.stack_model.proofs.Collected.{after}
use Rattle.stack_model.proofs.limits.points.Given as goal

abbrev pub invariant-loop-numbers : goal.invariant-loop-numbers
invariant-loop-numbers l = after l.found.items
    (points_of (map numbers_view (drop l.numbers-index l.lists))) ≡ points_of (map numbers_view l.lists)
