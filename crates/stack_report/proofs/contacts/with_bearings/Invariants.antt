use Rattle.std.proofs.Common.{◌≡◌, ◌++◌, drop, string_bytes}
use Rattle.stack_report.specs.ContactTable.{bearing_line, lines_from}
use Rattle.stack_report.proofs.contacts.with_bearings.Given as goal

abbrev pub invariant-loop-index : goal.invariant-loop-index
invariant-loop-index l =
    string_bytes l.longer ++ lines_from (bearing_line l.model) l.index (drop l.index l.bearings)
    ≡ string_bytes l.fn.text ++ lines_from (bearing_line l.model) 0 l.bearings
