use Rattle.std.proofs.Common.{◌≡◌}
use Rattle.toml.specs.View.{members_view}
use Rattle.stack_reader.specs.Forms.{has_only}
use Rattle.stack_reader.proofs.field.has_only_keys.Given as goal

abbrev pub invariant-loop-text : goal.invariant-loop-text
invariant-loop-text l =
    has_only l.known (members_view l.text-iterator) ≡ has_only l.known (members_view l.table.entries)
