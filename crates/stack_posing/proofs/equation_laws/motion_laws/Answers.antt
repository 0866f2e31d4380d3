use Rattle.stack_posing.proofs.Moves.{powers_are_by_number, unopposed_moves_are_motions}
use Rattle.stack_posing.proofs.equation_laws.motion_laws.Goals as goal

pub returns-clause-powers : goal.returns-clause-powers
returns-clause-powers _ = powers_are_by_number

pub returns-clause-unresisted : goal.returns-clause-unresisted
returns-clause-unresisted _ = unopposed_moves_are_motions
