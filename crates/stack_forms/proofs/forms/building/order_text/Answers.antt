use Rattle.std.proofs.Common.{◌≡◌, ◌∙◌, sym, ap, refl, List, ℕ, Result, Ok}
use Rattle.stack_model.specs.Structure.{Structure}
use Rattle.stack_orders.specs.OrderRead.{told_order}
use Rattle.stack_stages.specs.Staged.{staged}
use Rattle.stack_work.specs.Progress.{AnswersDue}
use Rattle.stack_work.proofs.OneStep.{done_alone}
use Rattle.stack_work.proofs.StagesEnds.{order_is, order_refused}
use Rattle.stack_forms.proofs.forms.building.order_text.Goals as goal

abbrev an_order : List ℕ → Result (List ℕ) ℕ
an_order ns = Ok ns

-- the text tells the order that was read
order_told : {s : Structure} (t : Structure) (text : List ℕ) {items ns : List ℕ} → s ≡ t
    → told_order s text ≡ an_order items → ns ≡ items → told_order t text ≡ an_order ns
order_told t text {items} {ns} same is e = ap (λ u. told_order u text) (sym same) ∙ (is ∙ ap an_order (sym e))

pub returns-in-Ok : goal.returns-in-Ok
returns-in-Ok c =
    let told = order_told c.args.survey.now.structure c.args.text.now c.model.ensures c.in-Ok.ensures.0
    c.as_slice.ensures.value in
    done_alone AnswersDue (order_is c.args.survey.now c.args.text.now c.args.budget c.as_slice.result.now told
    (staged c.args.survey.now c.as_slice.result.now c.args.budget) refl) c.stages_survey.result
    c.stages_survey.ensures

pub returns-in-Err : goal.returns-in-Err
returns-in-Err c holds =
    order_refused c.args.survey.now c.args.text.now c.args.budget c.model.result.now c.model.ensures c.in-Err.fault
    c.from.result holds c.in-Err.ensures c.from.ensures
