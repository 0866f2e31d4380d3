use Rattle.stack_work.specs.Stacking.{stack_work}
use Rattle.stack_work.specs.Sampling.{sample_work}
use Rattle.stack_work.specs.Progress.{AnswersDue}
use Rattle.stack_work.proofs.Steps.{alone}
use Rattle.stack_forms.proofs.forms.answer_form.Goals as goal

pub returns-in-Stack : goal.returns-in-Stack
returns-in-Stack g c = rw c.in-Stack.is (alone g.F.Shelf AnswersDue
    (stack_work c.in-Stack.kind c.in-Stack.size) c.args.shelf.now c.stack_form.result c.stack_form.ensures)

pub returns-in-Sample : goal.returns-in-Sample
returns-in-Sample g c = rw c.in-Sample.is (alone g.F.Shelf AnswersDue
    (sample_work c.in-Sample.number) c.args.shelf.now c.sample_form.result c.sample_form.ensures)
