use Rattle.stack_model.proofs.Joined.{in_either_order, joints_have_their_terms}
use Rattle.stack_model.proofs.laws.joint_laws.Goals as goal

pub returns-clause-order : goal.returns-clause-order
returns-clause-order c = in_either_order

pub returns-clause-own : goal.returns-clause-own
returns-clause-own c = joints_have_their_terms
