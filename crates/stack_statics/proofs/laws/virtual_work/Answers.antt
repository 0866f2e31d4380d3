use Rattle.stack_statics.proofs.BearingWork.{exerted_power}
use Rattle.stack_statics.proofs.Work.{virtual_work_is_zero}
use Rattle.stack_statics.proofs.laws.virtual_work.Goals as goal

pub returns-clause-bearings : goal.returns-clause-bearings
returns-clause-bearings _ = exerted_power

pub returns-clause-balanced : goal.returns-clause-balanced
returns-clause-balanced _ = virtual_work_is_zero
