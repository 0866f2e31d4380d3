use Rattle.stack_model.proofs.Items.{body_placed}
use Rattle.stack_model.proofs.model.Model.body.Goals as goal

pub returns-clause-has_material : goal.returns-clause-has_material
returns-clause-has_material c =
    (body_placed c.self.inside c.args.self.now c.args.i c.index.result.now c.self.view_is c.self.invariant
    c.requires c.index.ensures).has_material
