use Rattle.std.proofs.Common.{[], ◌∷◌, true, map, ap, ◌∙◌}
use Rattle.std.proofs.lemmas.List.{map-append}
use Rattle.stack_model.specs.Raw.{raw_block}
use Rattle.stack_overhang.specs.Bricks.{brick_at}
use Rattle.stack_overhang.specs.Listing.{rectangle_part, brick_block}
use Rattle.stack_overhang.proofs.Growing.{one_more_after}
use Rattle.stack_overhang.proofs.parts.blocks.Goals as goal

pub loop-k-preserved : goal.loop-k-preserved
loop-k-preserved c =
    one_more_after (λ k. brick_block k (brick_at c.args.bricks.now k))
    (rectangle_part c.args.base_name.now true c.args.base ∷ []) (map raw_block c.loop-k.list.items) _ c.loop-k.k _
    (ap (map raw_block) c.in_ok-push-2.ensures.items ∙ map-append raw_block c.loop-k.list.items _)
    c.in_ok-brick_block.ensures c.loop-k.invariant
