use Rattle.std.proofs.Common.{sym, ap, ◌∙◌, subst}
use Rattle.stack_contact.specs.Surveyed.{Surveyed, surveyed, IsSurvey}
use Rattle.stack_model.specs.Keeping.{flag_at}
use Rattle.stack_model.specs.Part.{part_of}
use Rattle.stack_part.specs.Part.{bearings_among, touches_among}
use Rattle.stack_part.proofs.PartSurveys.{survey_of_part}
use Rattle.stack_part.proofs.surveys.survey_part.Goals as goal

pub survey_of-requires : goal.survey_of-requires
survey_of-requires c =
    let keeps = flag_at c.args.keeps.now in
    let v = c.args.s.now in
    let same = c.in_ok-model.ensures ∙ ap (part_of keeps) c.model.ensures in
    let bearings = c.in_ok-bearings.ensures ∙ ap (bearings_among keeps) c.bearings.ensures.value in
    let touches = c.in_ok-touches.ensures ∙ ap (touches_among keeps) c.touches.ensures in
    subst (λ (w : Surveyed). IsSurvey c.in_ok-model.model w)
    (λ i. surveyed (sym same i) (sym bearings i) (sym touches i))
    (survey_of_part keeps v c.in_ok-model.model c.model.result.now c.bearings.ensures.survey c.model.ensures
    c.in_ok-model.ensures)
