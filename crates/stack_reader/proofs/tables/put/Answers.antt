use Rattle.std.proofs.Common.{ap, ◌∙◌}
use Rattle.toml.specs.View.{members_view}
use Rattle.stack_reader.proofs.Filled.{was_put}
use Rattle.stack_reader.proofs.tables.put.Goals as goal

pub returns : goal.returns
returns c = ap members_view c.in_ok-insert.ensures.entries
    ∙ was_put c.in_ok-text.text c.args.value _ _ (c.in_ok-text.ensures.ok ∙ c.word.ensures)
