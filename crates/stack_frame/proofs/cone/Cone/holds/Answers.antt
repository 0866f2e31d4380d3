use Rattle.std.proofs.Common.{◌≡◌, rules, SFits, to_z-of_z, ap, sym, ◌∙◌, ℤ, ◌*ℤ◌, Result}
use mir.Syntax.{w64, w128}
use Rattle.stack_whole.specs.declared.whole.Wide.{Wide}
use Rattle.stack_whole.specs.declared.whole.Whole.{Whole}
use Rattle.stack_whole.specs.Whole.{made, whole}
use Rattle.stack_frame.specs.declared.cone.Cone.{Cone}
use Rattle.stack_frame.proofs.MadeNumbers.{first_wide, second_wide, third_wide, went_through}
use Rattle.stack_frame.proofs.cone.Cone.holds.Goals as goal

-- a product with a number k of 64 bits, which is read as z
product : (z k a : ℤ) (w : Whole) (m : Result Whole Wide) → m ≡ made (w.value *ℤ a) → w ≡ whole z → z ≡ k →
    made (k *ℤ a) ≡ m
product z k a w m made_as widened is =
    sym (made_as ∙ ap (λ (w : Whole). made (w.value *ℤ a)) widened ∙ ap (λ z. made (z *ℤ a)) is)

pub returns-in_err-most : goal.returns-in_err-most
returns-in_err-most c =
    let fits : SFits w64 c.self.inside.p = search rules in
    let p = to_z-of_z fits ∙ ap (λ (k : Cone). k.p) c.self.view_is in
    first_wide c.args.self c.args.a.value c.args.b.value c.from_residual.result c.in_err-most.field-0.0
    (product _ _ _ _ _ c.product.ensures c.widened.ensures p ∙ c.in_err-most.was) c.from_residual.ensures.0

pub returns-in_err-tangential : goal.returns-in_err-tangential
returns-in_err-tangential c =
    let fits : SFits w64 c.self.inside.p = search rules in
    let p = to_z-of_z fits ∙ ap (λ (k : Cone). k.p) c.self.view_is in
    second_wide c.args.self c.args.a.value c.args.b.value c.from_residual-in_err-tangential.result c.in_ok-most.most
    c.in_err-tangential.field-0.0 (product _ _ _ _ _ c.product.ensures c.widened.ensures p ∙ c.in_ok-most.was)
    (sym c.size.ensures ∙ c.in_err-tangential.was) c.from_residual-in_err-tangential.ensures.0

pub returns-in_err-least : goal.returns-in_err-least
returns-in_err-least c =
    let fits_p : SFits w64 c.self.inside.p = search rules in
    let fits_q : SFits w64 c.self.inside.q = search rules in
    let p = to_z-of_z fits_p ∙ ap (λ (k : Cone). k.p) c.self.view_is in
    let q = to_z-of_z fits_q ∙ ap (λ (k : Cone). k.q) c.self.view_is in
    third_wide c.args.self c.args.a.value c.args.b.value c.from_residual-in_err-least.result c.in_ok-most.most
    c.in_ok-tangential.tangential c.in_err-least.field-0.0
    (product _ _ _ _ _ c.product.ensures c.widened.ensures p ∙ c.in_ok-most.was)
    (sym c.size.ensures ∙ c.in_ok-tangential.was)
    (product _ _ _ _ _ c.product-2.ensures c.widened-2.ensures q ∙ c.in_err-least.was)
    c.from_residual-in_err-least.ensures.0

pub returns : goal.returns
returns c =
    let fits_p : SFits w64 c.self.inside.p = search rules in
    let fits_q : SFits w64 c.self.inside.q = search rules in
    let fits_m : SFits w128 c.in_ok-most.most.value = search rules in
    let fits_l : SFits w128 c.in_ok-least.least.value = search rules in
    let p = to_z-of_z fits_p ∙ ap (λ (k : Cone). k.p) c.self.view_is in
    let q = to_z-of_z fits_q ∙ ap (λ (k : Cone). k.q) c.self.view_is in
    went_through c.args.self c.args.a.value c.args.b.value c.in_ok-most.most c.in_ok-tangential.tangential
    c.in_ok-least.least _ _ (to_z-of_z fits_m) (to_z-of_z fits_l)
    (product _ _ _ _ _ c.product.ensures c.widened.ensures p ∙ c.in_ok-most.was)
    (sym c.size.ensures ∙ c.in_ok-tangential.was)
    (product _ _ _ _ _ c.product-2.ensures c.widened-2.ensures q ∙ c.in_ok-least.was)
