use Rattle.std.proofs.Common.{◌≡◌}
use Rattle.stack_extract.specs.Ends.{moves_by}
use Rattle.stack_extract.proofs.motions.moves_of.Given as goal

abbrev pub invariant-loop-b : goal.invariant-loop-b
invariant-loop-b g l = l.moves.items ≡ moves_by l.b (g.L.LastTable.flips l.t) l.numbers
