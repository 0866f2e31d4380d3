use Rattle.std.proofs.Common.{◌≡◌, ◌≤◌}
use Rattle.stack_contact.specs.FreeBlocks.{frees_before}
use Rattle.stack_contact.proofs.types.Survey.free_number.Given as goal

abbrev pub invariant-loop-j : goal.invariant-loop-j
invariant-loop-j l = record {
  value : l.count ≡ frees_before l.self.structure.bodies l.j;
  few : l.count ≤ l.j;
}
