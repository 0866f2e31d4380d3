use Rattle.std.proofs.Common.{◌≡◌, ◌/◌}
use Rattle.stack_rows.specs.RowForm.{IsStepped}
use Rattle.stack_rows.proofs.stepping.wide_from.Given as goal

abbrev pub invariant-loop-w : goal.invariant-loop-w
invariant-loop-w g l = record {
  stepped : IsStepped l.fn.numbers l.other l.marks (g.W.Way.times l.way) (g.W.Way.less l.way) (g.W.Way.by l.way)
      l.fn.from.end l.fn.from.size l.reached.end l.numbers l.reached.size;
  word : l.reached.end / 64 ≡ l.w;
}
