use Rattle.stack_rows.proofs.InWord.{IsInWord}
use Rattle.stack_rows.proofs.stepping.words_in.Given as goal

abbrev pub invariant-loop-rest : goal.invariant-loop-rest
invariant-loop-rest g l = IsInWord l.fn.words l.other l.marks (g.W.WordWay.times l.way) (g.W.WordWay.less l.way)
    (g.W.WordWay.by l.way) l.fn.from.end l.fn.from.size l.w l.words l.size l.rest

abbrev pub decreases-loop-rest : goal.decreases-loop-rest
decreases-loop-rest g l = l.rest
