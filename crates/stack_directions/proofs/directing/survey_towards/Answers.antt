use Rattle.std.proofs.Common.{sym, subst, ◌∙◌, pos}
use Rattle.stack_model.specs.Structure.{Structure}
use Rattle.stack_model.specs.Borne.{MayBear}
use Rattle.stack_pairs.specs.Directed.{ArePair}
use Rattle.stack_directions.proofs.DirectedBorne.{directed_are_borne}
use Rattle.stack_directions.proofs.directing.survey_towards.Goals as goal

pub with_loads-requires : goal.with_loads-requires
with_loads-requires c = subst (λ ls. MayBear c.model-own.result.now ls (pos 0, pos 0))
    (sym (c.as_slice.ensures.value ∙ c.in_ok-loads.ensures))
    (directed_are_borne c.model-own.result.now c.args.t.i c.args.t.j c.args.t.m c.args.t.n c.sound.ensures
    (subst (λ (s : Structure). ArePair s c.args.t.i c.args.t.j) (sym c.model-own.ensures) c.requires.pair)
    c.requires.factors)
