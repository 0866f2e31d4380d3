use Rattle.stack_extract.proofs.EndedTables.{can_be_read, ray_last, ray_answer, ray_refusal}
use Rattle.stack_extract.proofs.forces.ray_of.Goals as goal

pub ray_at-requires-clause-end : goal.ray_at-requires-clause-end
ray_at-requires-clause-end g c = ray_last c.last_table.ensures c.requires.ray c.entering.ensures c.requires.end

pub ray_at-requires-clause-reads : goal.ray_at-requires-clause-reads
ray_at-requires-clause-reads g c = can_be_read c.last_table.ensures c.run_laws.ensures.ends c.requires.end
    c.requires.ray c.entering.result c.entering.ensures

pub returns-clause-ok : goal.returns-clause-ok
returns-clause-ok g c =
    ray_answer c.last_table.ensures c.requires.ray c.entering.ensures c.ray_at.result c.ray_at.ensures.ok

pub returns-clause-wide : goal.returns-clause-wide
returns-clause-wide g c =
    ray_refusal c.last_table.ensures c.requires.ray c.entering.ensures c.ray_at.result c.ray_at.ensures.wide
