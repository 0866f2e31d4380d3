use Rattle.stack_algebra.specs.Laws.{whole_numbers}
use Rattle.stack_algebra.proofs.Ring.{solve}
use Rattle.stack_algebra.proofs.laws.polynomial_law.Goals as goal

pub returns : goal.returns
returns c = λ w. solve (whole_numbers w)
