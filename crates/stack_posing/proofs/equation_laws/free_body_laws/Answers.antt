use Rattle.stack_posing.proofs.FreeBodies.{free_bodies_are_found, free_numbers_are_those_of_surveys}
use Rattle.stack_posing.proofs.equation_laws.free_body_laws.Goals as goal

pub returns-clause-found : goal.returns-clause-found
returns-clause-found _ = free_bodies_are_found

pub returns-clause-surveys : goal.returns-clause-surveys
returns-clause-surveys _ = free_numbers_are_those_of_surveys
