use Rattle.stack_model.specs.Structure.{Structure}
use Rattle.stack_model.specs.ModelView.{model_view}
use Rattle.stack_model.specs.declared.model.Model.{Model}
use Rattle.stack_work.proofs.Common.{Answer, AnswersDue, Due, built_step, gives, stack_of}
use Rattle.stack_work.specs.Stacking.{stack_work}
use Rattle.stack_work.specs.Answers.{document}
use Rattle.stack_work.specs.Progress.{IsModel}
use Rattle.stack_work.proofs.Steps.{alone_then, alone_refused}
use Rattle.stack_forms.proofs.forms.stacking.stack_form.Goals as goal

pub returns-in-Ok : goal.returns-in-Ok
unfolding stack_work
returns-in-Ok c = alone_then AnswersDue model_view (built_step (stack_of c.args.kind c.args.size))
    (λ s. gives (document s)) c.in-Ok.model c.described.result c.in-Ok.ensures c.described.ensures

pub returns-in-Err : goal.returns-in-Err
unfolding stack_work
returns-in-Err c = alone_refused {A = Structure} {B = Due} {X = Model} {Y = Answer} IsModel AnswersDue
    (built_step (stack_of c.args.kind c.args.size)) (λ s. gives (document s)) c.in-Err.refusal c.in-Err.ensures
