use Rattle.stack_model.specs.Structure.{Structure}
use Rattle.stack_model.specs.ModelView.{model_view}
use Rattle.stack_model.specs.declared.model.Model.{Model}
use Rattle.stack_work.proofs.Common.{Answer, AnswersDue, Due, built_step, sample_of, wall_sampled}
use Rattle.stack_work.specs.Sampling.{sample_work}
use Rattle.stack_work.specs.Progress.{IsModel}
use Rattle.stack_work.proofs.Steps.{alone_then, alone_refused}
use Rattle.stack_forms.proofs.forms.sampling.sample_form.Goals as goal

pub returns-in-Ok : goal.returns-in-Ok
unfolding sample_work
returns-in-Ok c = alone_then AnswersDue model_view (built_step (sample_of c.args.number))
    (wall_sampled c.args.number) c.in-Ok.model c.sample_wall.result c.in-Ok.ensures.does c.sample_wall.ensures

pub returns-in-Err : goal.returns-in-Err
unfolding sample_work
returns-in-Err c = alone_refused {A = Structure} {B = Due} {X = Model} {Y = Answer} IsModel AnswersDue
    (built_step (sample_of c.args.number)) (wall_sampled c.args.number) c.in-Err.refusal c.in-Err.ensures.does
