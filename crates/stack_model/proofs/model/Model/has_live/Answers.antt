use Rattle.std.proofs.Common.{ap, ◌∙◌, not, ◌||◌}
use Rattle.std.specs.List.{list_any}
use Rattle.stack_model.specs.declared.types.Load.{Load}
use Rattle.stack_model.specs.Structure.{lists_live, is_still}
use Rattle.stack_model.proofs.Items.{found_live}
use Rattle.stack_model.proofs.model.Model.has_live.Goals as goal

pub returns-clause-value : goal.returns-clause-value
returns-clause-value c = c.are_live.ensures
    ∙ ap (λ ls. list_any (λ (l : Load). l.live) ls || not (is_still c.self.inside.head.sway)) c.as_slice.ensures.value
    ∙ ap lists_live c.self.view_is

pub returns-clause-meaning : goal.returns-clause-meaning
returns-clause-meaning c = found_live c.args.self.now c.are_live.result (returns-clause-value c)
