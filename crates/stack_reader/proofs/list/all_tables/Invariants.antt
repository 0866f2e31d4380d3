use Rattle.std.proofs.Common.{◌≡◌, drop}
use Rattle.toml.specs.View.{items_view}
use Rattle.stack_reader.specs.Forms.{are_tables}
use Rattle.stack_reader.proofs.list.all_tables.Given as goal

abbrev pub invariant-loop-item : goal.invariant-loop-item
invariant-loop-item l = are_tables (items_view (drop l.item-index l.items)) ≡ are_tables (items_view l.items)
