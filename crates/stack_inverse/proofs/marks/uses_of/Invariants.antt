use Rattle.std.proofs.Common.{◌≡◌, suc, ◌/◌, length}
use Rattle.stack_inverse.specs.Marks.{HaveWords}
use Rattle.stack_inverse.proofs.marks.uses_of.Given as goal

abbrev pub invariant-loop : goal.invariant-loop
invariant-loop l = record {
  long : length l.uses.items ≡ l.counter;
  wide : HaveWords l.uses.items (suc (length l.first.columns.items / 64));
}
