-- What stands for a cell if there is none.
use lib.IntN.{pos}
use Rattle.stack_algebra.specs.Fraction.{Fraction}
use Rattle.stack_algebra.proofs.Over.{over}

-- past the last cell of a list
abbrev pub nothing : Fraction
nothing = over (pos 0) (pos 1)
