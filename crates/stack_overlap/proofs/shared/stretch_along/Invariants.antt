use Rattle.std.proofs.Common.{MatchOption}
use Rattle.stack_overlap.specs.Marks.{IsStretch, NoneOnLine}
use Rattle.stack_overlap.proofs.shared.stretch_along.Given as goal

abbrev pub invariant-loop-j : goal.invariant-loop-j
invariant-loop-j l = MatchOption l.best (NoneOnLine l.a l.b l.q l.j) (λ r. IsStretch l.a l.b l.q l.j r)
