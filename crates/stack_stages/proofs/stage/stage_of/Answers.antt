use Rattle.std.proofs.Common.{◌≡◌, sym, ap, subst, ◌∙◌, length, take}
use Rattle.std.specs.Result.{IfOk}
use Rattle.stack_model.specs.Keeping.{AreFlags}
use Rattle.stack_stages.specs.Stage.{is_fixed_or_among}
use Rattle.stack_stages.proofs.BuiltFlags.{built_part, one_each}
use Rattle.stack_stages.proofs.stage.stage_of.Goals as goal

pub survey_part-requires : goal.survey_part-requires
survey_part-requires c =
    let s = c.model.result.now in
    ap length c.as_slice.ensures.value ∙ one_each c.args.s.now s (is_fixed_or_among s (take c.args.k c.args.order.now))
    c.in_ok-keeps.keeps.items c.model.ensures c.in_ok-keeps.ensures

pub returns : goal.returns
returns c =
    let s = c.model.result.now in
    let first = take c.args.k c.args.order.now in
    let flags = subst (AreFlags (length s.bodies) (is_fixed_or_among s first)) (sym c.as_slice.ensures.value)
    c.in_ok-keeps.ensures in
    let same = built_part c.args.s.now s first c.as_slice.result.now c.model.ensures flags in
    subst (λ v. IfOk c.survey_part.result (λ r. r ≡ v)) same c.survey_part.ensures
