use Rattle.stack_rational.proofs.RunningMultiple.{IsRunning}
use Rattle.stack_rational.proofs.scale.common_scale.Given as goal

abbrev pub invariant-loop-index : goal.invariant-loop-index
invariant-loop-index l = IsRunning l.list l.index l.scale
