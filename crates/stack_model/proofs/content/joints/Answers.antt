use Rattle.std.proofs.Common.{◌≡◌, ℕ, List, [], map, length, sym, subst, refl, ap, ◌∙◌}
use Rattle.std.proofs.lemmas.List.{length-map}
use Rattle.stack_algebra.specs.Steps.{steps}
use Rattle.stack_model.specs.declared.places.What.TheVariants as whats
use Rattle.stack_model.specs.Gives.{Fails}
use Rattle.stack_model.specs.Raw.{raw_material, raw_joint}
use Rattle.stack_model.specs.Content.{joints_of, at_most, add_material, add_joint}
use Rattle.stack_model.proofs.Chains.{any_fails, later_fails, any_runs, refused}
use Rattle.stack_model.proofs.content.joints.Goals as goal

-- as many as are listed
listed : {A B : Type 0} (n : ℕ) (xs : List A) (view : A → B) → n ≡ length xs → length (map view xs) ≡ n
listed n xs view h = length-map xs view ∙ sym h

pub returns-in_err-at_most : goal.returns-in_err-at_most
unfolding joints_of
returns-in_err-at_most c =
    let P = c.args.parts.now in
    let e = c.in_err-at_most.field-0.0 in
    let n = listed c.len.result P.materials.items raw_material (c.len.ensures ∙ P.materials.ok.0) in
    refused _ e c.from_residual.result _ c.from_residual.ensures.1
    (any_fails e _ _ (subst (λ n. Fails e (at_most 64 n whats.Materials)) (sym n) c.in_err-at_most.ensures))

pub returns-in_err-materials : goal.returns-in_err-materials
unfolding joints_of
returns-in_err-materials c =
    let P = c.args.parts.now in
    let e = c.in_err-materials.field-0.0 in
    let n = listed c.len.result P.materials.items raw_material (c.len.ensures ∙ P.materials.ok.0) in
    refused _ e c.from_residual-in_err-materials.result _ c.from_residual-in_err-materials.ensures.1
    (later_fails e _ (ap (λ n. at_most 64 n whats.Materials) n ∙ c.in_ok-at_most.ensures)
    (any_fails e _ _ (subst (λ ms. Fails e (steps add_material 0 [] (map raw_material ms))) c.as_slice.ensures.value
    c.in_err-materials.ensures)))

pub returns-in_err-at_most-2 : goal.returns-in_err-at_most-2
unfolding joints_of
returns-in_err-at_most-2 c =
    let P = c.args.parts.now in
    let e = c.in_err-at_most-2.field-0.0 in
    let n = listed c.len.result P.materials.items raw_material (c.len.ensures ∙ P.materials.ok.0) in
    let k = listed c.len-2.result P.joints.items raw_joint (c.len-2.ensures ∙ P.joints.ok.0) in
    refused _ e c.from_residual-in_err-at_most-2.result _ c.from_residual-in_err-at_most-2.ensures.1
    (later_fails e _ (ap (λ n. at_most 64 n whats.Materials) n ∙ c.in_ok-at_most.ensures)
    (later_fails e _ (ap (λ ms. steps add_material 0 [] (map raw_material ms)) (sym c.as_slice.ensures.value)
    ∙ c.in_ok-materials.ensures)
    (any_fails e _ _ (subst (λ n. Fails e (at_most 256 n whats.Joints)) (sym k) c.in_err-at_most-2.ensures))))

pub returns-in_err-joints : goal.returns-in_err-joints
unfolding joints_of
returns-in_err-joints c =
    let P = c.args.parts.now in
    let e = c.in_err-joints.field-0.0 in
    let n = listed c.len.result P.materials.items raw_material (c.len.ensures ∙ P.materials.ok.0) in
    let k = listed c.len-2.result P.joints.items raw_joint (c.len-2.ensures ∙ P.joints.ok.0) in
    refused _ e c.from_residual-in_err-joints.result _ c.from_residual-in_err-joints.ensures.1
    (later_fails e _ (ap (λ n. at_most 64 n whats.Materials) n ∙ c.in_ok-at_most.ensures)
    (later_fails e _ (ap (λ ms. steps add_material 0 [] (map raw_material ms)) (sym c.as_slice.ensures.value)
    ∙ c.in_ok-materials.ensures)
    (later_fails e _ (ap (λ n. at_most 256 n whats.Joints) k ∙ c.in_ok-at_most-2.ensures)
    (any_fails e _ _ (subst (λ js. Fails e (steps (add_joint c.in_ok-materials.materials) 0 [] (map raw_joint js)))
    c.as_slice-2.ensures.value c.in_err-joints.ensures)))))

pub returns : goal.returns
unfolding joints_of
returns c =
    let P = c.args.parts.now in
    let n = listed c.len.result P.materials.items raw_material (c.len.ensures ∙ P.materials.ok.0) in
    let k = listed c.len-2.result P.joints.items raw_joint (c.len-2.ensures ∙ P.joints.ok.0) in
    any_runs _ (ap (λ n. at_most 64 n whats.Materials) n ∙ c.in_ok-at_most.ensures)
    (any_runs _ (ap (λ ms. steps add_material 0 [] (map raw_material ms)) (sym c.as_slice.ensures.value)
    ∙ c.in_ok-materials.ensures)
    (any_runs _ (ap (λ n. at_most 256 n whats.Joints) k ∙ c.in_ok-at_most-2.ensures)
    (any_runs _
    (ap (λ js. steps (add_joint c.in_ok-materials.materials) 0 [] (map raw_joint js)) (sym c.as_slice-2.ensures.value)
    ∙ c.in_ok-joints.ensures)
    refl)))
