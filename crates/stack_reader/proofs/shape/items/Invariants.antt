use Rattle.std.proofs.Common.{◌≡◌, drop, map}
use Rattle.toml.specs.View.{items_view}
use Rattle.stack_reader.specs.Shape.{in_table, each_of}
use Rattle.stack_reader.proofs.Collected.{before}
use Rattle.stack_reader.proofs.shape.items.Given as goal

abbrev pub invariant-loop-index : goal.invariant-loop-index
invariant-loop-index g l =
    before (map g.I.Item.raw l.found.items)
    (each_of (in_table g.I.Item.part l.key) l.index (items_view (drop l.index l.values)))
    ≡ each_of (in_table g.I.Item.part l.key) 0 (items_view l.values)
