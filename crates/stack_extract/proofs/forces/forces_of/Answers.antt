use Rattle.stack_extract.proofs.EndedTables.{some_last, has_forces, forces_answer, forces_refusal}
use Rattle.stack_extract.proofs.forces.forces_of.Goals as goal

pub forces_at-requires-clause-end : goal.forces_at-requires-clause-end
forces_at-requires-clause-end g c = some_last c.last_table.ensures c.kind_of.ensures c.requires.end

pub forces_at-requires-clause-forces : goal.forces_at-requires-clause-forces
forces_at-requires-clause-forces g c = has_forces c.args.e.now c.last_table.ensures c.kind_of.ensures c.requires.forces

pub returns-clause-ok : goal.returns-clause-ok
returns-clause-ok g c = forces_answer c.last_table.ensures c.kind_of.ensures c.forces_at.result c.forces_at.ensures.ok

pub returns-clause-wide : goal.returns-clause-wide
returns-clause-wide g c =
    forces_refusal c.last_table.ensures c.kind_of.ensures c.forces_at.result c.forces_at.ensures.wide
