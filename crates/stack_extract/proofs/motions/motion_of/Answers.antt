use Rattle.stack_extract.proofs.EndedTables.{some_last, has_motion, motion_answer, motion_refusal}
use Rattle.stack_extract.proofs.motions.motion_of.Goals as goal

pub motion_at-requires-clause-end : goal.motion_at-requires-clause-end
motion_at-requires-clause-end g c = some_last c.last_table.ensures c.kind_of.ensures c.requires.end

pub motion_at-requires-clause-motion : goal.motion_at-requires-clause-motion
motion_at-requires-clause-motion g c = has_motion c.args.e.now c.last_table.ensures c.kind_of.ensures c.requires.motion

pub returns-clause-ok : goal.returns-clause-ok
returns-clause-ok g c = motion_answer c.last_table.ensures c.kind_of.ensures c.motion_at.result c.motion_at.ensures.ok

pub returns-clause-wide : goal.returns-clause-wide
returns-clause-wide g c =
    motion_refusal c.last_table.ensures c.kind_of.ensures c.motion_at.result c.motion_at.ensures.wide
