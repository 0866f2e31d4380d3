use Rattle.stack_rows.proofs.InWord.{IsInWord}
use Rattle.stack_rows.proofs.stepping.wide_in.Given as goal

abbrev pub invariant-loop-rest : goal.invariant-loop-rest
invariant-loop-rest g l = IsInWord l.fn.numbers l.other l.marks (g.W.Way.times l.way) (g.W.Way.less l.way)
    (g.W.Way.by l.way) l.fn.from.end l.fn.from.size l.w l.numbers l.size l.rest

abbrev pub decreases-loop-rest : goal.decreases-loop-rest
decreases-loop-rest g l = l.rest
