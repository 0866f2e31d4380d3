use Rattle.std.proofs.Common.{◌≡◌, true, map, ◌∷◌}
use Rattle.stack_algebra.specs.Listed.{listed}
use Rattle.stack_model.specs.Raw.{raw_block}
use Rattle.stack_overhang.specs.Bricks.{brick_at}
use Rattle.stack_overhang.specs.Listing.{rectangle_part, brick_block}
use Rattle.stack_overhang.proofs.parts.blocks.Given as goal

abbrev pub invariant-loop-k : goal.invariant-loop-k
invariant-loop-k l = map raw_block l.list.items
    ≡ rectangle_part l.base_name true l.fn.base ∷ listed l.k (λ k. brick_block k (brick_at l.bricks k))
