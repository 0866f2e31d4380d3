use Rattle.std.proofs.Common.{subst₂, sym, ap, ◌∙◌}
use Rattle.stack_model.specs.Borne.{MayBear}
use Rattle.stack_range.specs.Reversed.{reversed_sway}
use Rattle.stack_range.proofs.ReversedLoads.{may_bear_reversed}
use Rattle.stack_range.proofs.reversing.reversed_model.Goals as goal

pub with_loads-requires : goal.with_loads-requires
with_loads-requires c = subst₂ (MayBear c.args.model.now)
    (sym (c.as_slice.ensures.value ∙ c.in_ok-loads.ensures))
    (sym (c.reversed_sway.ensures ∙ ap reversed_sway c.sway.ensures.value))
    (may_bear_reversed c.args.model.now c.sound.ensures)
