use Rattle.std.proofs.Common.{◌<◌, ◌≤◌, length}
use Rattle.stack_rows.specs.RowForm.{IsDividedOn, AreMarked}
use Rattle.stack_rows.proofs.stepping.divide_on.Given as goal

abbrev pub invariant-loop : goal.invariant-loop
invariant-loop l = record {
  begun : l.fn.from ≤ l.j;
  room : l.j < length l.numbers;
  divided : IsDividedOn l.fn.numbers l.other l.s.factors.times l.s.factors.less l.s.divider.by l.by l.fn.from l.j
      l.numbers;
  marked : AreMarked l.numbers l.marks;
}
