use Rattle.stack_model.proofs.Items.{joint_between}
use Rattle.stack_model.proofs.model.Model.joint.Goals as goal

pub returns-clause-between : goal.returns-clause-between
returns-clause-between c = joint_between c.self.inside c.args.self.now c.args.i c.index.result.now c.self.view_is
    c.self.invariant c.requires c.index.ensures
