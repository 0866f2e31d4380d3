use Rattle.stack_model.proofs.Items.{body_placed}
use Rattle.stack_model.proofs.model.Model.polygon.Goals as goal

pub returns-clause-polygon : goal.returns-clause-polygon
returns-clause-polygon c =
    (body_placed c.self.inside c.args.self.now c.args.i c.index.result.now c.self.view_is c.self.invariant
    c.requires c.index.ensures).polygon
