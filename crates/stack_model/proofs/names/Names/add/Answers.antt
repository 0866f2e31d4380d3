use Rattle.std.proofs.Common.{◌∙◌, ap, not, string_bytes}
use Rattle.std.specs.List.{list_any}
use Rattle.std.specs.Str.{bytes_eq}
use Rattle.stack_model.proofs.Numbering.{new-named}
use Rattle.stack_model.proofs.names.Names.add.Goals as goal

pub returns-clause-new : goal.returns-clause-new
returns-clause-new c = c.in_ok-insert.ensures.added
    ∙ ap (λ name. not (list_any (λ k. bytes_eq name (string_bytes k)) c.self.inside.set.keys))
    (c.in_ok-word.ensures.ok)
    ∙ new-named c.args.name.now c.args.self.now c.self.inside.set.keys c.self.view_is
