use Rattle.std.proofs.Common.{◌∙◌}
use Rattle.stack_model.proofs.Numbering.{number-named}
use Rattle.stack_model.proofs.names.Names.number.Goals as goal

pub returns : goal.returns
returns c = c.get_index_of.ensures.index ∙ number-named c.args.name.now c.args.self.now
    c.self.inside.set.keys c.self.view_is
