use Rattle.std.proofs.Common.{◌≡◌, ap, ◌∙◌, [], map, string_bytes, Err, inl, inr, refl}
use Rattle.stack_model.specs.Structure.{Structure}
use Rattle.stack_model.specs.ModelView.{model_view}
use Rattle.stack_contact.specs.Surveyed.{Surveys}
use Rattle.stack_contact.specs.declared.types.SurveyError.{SurveyError}
use Rattle.stack_contact.specs.declared.types.SurveyError.TheVariants.{Overlap, TooManyBearings, Memory}
use Rattle.stack_lines.specs.Refusals.{Refusal, faulty}
use Rattle.stack_work.specs.Work.{Holds, Ends, surveys}
use Rattle.stack_work.specs.Surveying.{from_survey, survey_step}
use Rattle.stack_forms.proofs.surveying.survey_model.Goals as goal

-- A model that has no survey is refused for the fault that it has.
ends_unsurveyed : (holds : Holds) (s : Structure) (e : SurveyError) (r : Refusal) → Surveys s (Err e)
    → r ≡ faulty (from_survey s e) → Ends holds (surveys s (survey_step s)) [] (Err r)
ends_unsurveyed holds s (Overlap i j) r found is = inr (Err (Overlap i j), found, (refl, inl is))
ends_unsurveyed holds s (TooManyBearings n) r found is = inr (Err (TooManyBearings n), found, (refl, inl is))
ends_unsurveyed holds s Memory r found is = inl (refl, is)

pub returns : goal.returns
returns c holds = ends_unsurveyed holds (model_view c.args.model) c.in-Err.error _ c.in-Err.ensures
    (c.in_ok-unsurveyed-in-Err.ensures (model_view c.args.model)
    (ap (map string_bytes) c.as_slice.ensures.value ∙ c.in_ok-names.ensures))
