use Rattle.std.proofs.Common.{◌∙◌, sym, ap, refl, List, ℤ, ℕ, Result, Ok}
use Rattle.stack_yield.specs.Outcomes.{outcomes}
use Rattle.stack_work.specs.Progress.{AnswersDue}
use Rattle.stack_work.proofs.OneStep.{done_alone}
use Rattle.stack_work.proofs.YieldEnds.{directions_are, directions_refused}
use Rattle.stack_forms.proofs.forms.yielding.directions_text.Goals as goal

abbrev some_directions : List (ℤ × ℤ) → Result (List (ℤ × ℤ)) ℕ
some_directions ds = Ok ds

pub returns-in-Ok : goal.returns-in-Ok
returns-in-Ok c = done_alone AnswersDue (directions_are c.args.survey.now c.args.loads c.args.text.now c.args.budget
    c.as_slice.result.now (c.in-Ok.ensures.gives ∙ ap some_directions (sym c.as_slice.ensures.value))
    (outcomes c.args.survey.now c.args.loads.i c.args.loads.j c.args.budget c.as_slice.result.now) refl)
    c.region_survey.result c.region_survey.ensures

pub returns-in-Err : goal.returns-in-Err
returns-in-Err c holds =
    directions_refused c.args.survey.now c.args.loads c.args.text.now c.args.budget c.in-Err.fault c.from.result holds
    c.in-Err.ensures.gives c.from.ensures
