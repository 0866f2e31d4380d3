use Rattle.std.proofs.Common.{◌≡◌, drop}
use Rattle.toml.specs.View.{items_view}
use Rattle.stack_reader.specs.Forms.{lists_of_items}
use Rattle.stack_model.specs.Raw.{lists_view}
use Rattle.stack_model.proofs.Collected.{after}
use Rattle.stack_reader.proofs.field.lists.Given as goal

abbrev pub invariant-loop-item : goal.invariant-loop-item
invariant-loop-item l = after (lists_view l.found)
    (lists_of_items (items_view (drop l.item-index l.items))) ≡ lists_of_items (items_view l.items)
