use Rattle.std.proofs.Common.{◌≡◌, ◌/◌}
use Rattle.stack_rows.specs.RowForm.{IsStepped}
use Rattle.stack_rows.proofs.stepping.words_from.Given as goal

abbrev pub invariant-loop-w : goal.invariant-loop-w
invariant-loop-w g l = record {
  stepped : IsStepped l.fn.words l.other l.marks (g.W.WordWay.times l.way) (g.W.WordWay.less l.way)
      (g.W.WordWay.by l.way) l.fn.from.end l.fn.from.size l.reached.end l.words l.reached.size;
  word : l.reached.end / 64 ≡ l.w;
}
