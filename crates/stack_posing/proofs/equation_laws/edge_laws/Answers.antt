use Rattle.stack_posing.proofs.EdgeSums.{edges_exert_their_part, parts_between_edges_are_admissible}
use Rattle.stack_posing.proofs.equation_laws.edge_laws.Goals as goal

pub returns-clause-exert : goal.returns-clause-exert
returns-clause-exert _ = edges_exert_their_part

pub returns-clause-admissible : goal.returns-clause-admissible
returns-clause-admissible _ = parts_between_edges_are_admissible
