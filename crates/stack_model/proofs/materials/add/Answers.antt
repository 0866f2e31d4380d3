use Rattle.std.proofs.Common.{rules, map, SFits, w64, to_z-of_z, pos, sym, subst, ap, ◌∙◌}
use Rattle.stack_whole.specs.Limits.{greatest_weight}
use Rattle.stack_model.specs.declared.places.Spot.TheVariants as spots
use Rattle.stack_model.specs.declared.places.Key.TheVariants as keys
use Rattle.stack_model.specs.declared.errors.ModelError.TheVariants.{Range}
use Rattle.stack_model.specs.Structure.{NamedMaterial}
use Rattle.stack_model.specs.Kept.{material_view}
use Rattle.stack_model.specs.Gives.{Fails, Gives}
use Rattle.stack_model.specs.Limits.{is_name, is_between, friction_of}
use Rattle.stack_whole.specs.Demands.{unless}
use Rattle.stack_model.specs.Content.{ranged, with_material, add_material}
use Rattle.stack_model.proofs.Chains.{fails_as, any_fails, later_fails, later_gives, refused}
use Rattle.stack_model.proofs.materials.add.Goals as goal

pub returns-in_err-unless-clause-value : goal.returns-in_err-unless-clause-value
unfolding add_material
returns-in_err-unless-clause-value c =
    let e = c.in_err-unless.field-0.0 in
    let s = spots.Material c.args.index in
    refused _ e c.from_residual.result _ c.from_residual.ensures.1
    (any_fails e _ _ (subst (λ b. Fails e (unless b (Range s keys.Name)))
    (c.is_name.ensures ∙ ap is_name c.as_str.ensures.value) (fails_as e (sym c.in_err-unless.ensures))))

pub returns-in_err-unless-2-clause-value : goal.returns-in_err-unless-2-clause-value
unfolding add_material
returns-in_err-unless-2-clause-value c =
    let e = c.in_err-unless-2.field-0.0 in
    let s = spots.Material c.args.index in
    let fits : SFits w64 c.args.raw.now.weight = search rules in
    let name = c.is_name.ensures ∙ ap is_name c.as_str.ensures.value in
    refused _ e c.from_residual-in_err-unless-2.result _ c.from_residual-in_err-unless-2.ensures.1
    (later_fails e _ (ap (λ b. unless b (Range s keys.Name)) (sym name) ∙ sym c.in_ok-unless.ensures)
    (any_fails e _ _ (subst (λ b. Fails e (unless b (Range s keys.Weight)))
    (c.is_between.ensures ∙ ap (is_between (pos 0) greatest_weight) (to_z-of_z fits))
    (fails_as e (sym c.in_err-unless-2.ensures)))))

pub returns-in_err-p-clause-value : goal.returns-in_err-p-clause-value
unfolding add_material
returns-in_err-p-clause-value c =
    let e = c.in_err-p.field-0.0 in
    let s = spots.Material c.args.index in
    let fits : SFits w64 c.args.raw.now.weight = search rules in
    let name = c.is_name.ensures ∙ ap is_name c.as_str.ensures.value in
    let weight = c.is_between.ensures ∙ ap (is_between (pos 0) greatest_weight) (to_z-of_z fits) in
    refused _ e c.from_residual-in_err-p.result _ c.from_residual-in_err-p.ensures.1
    (later_fails e _ (ap (λ b. unless b (Range s keys.Name)) (sym name) ∙ sym c.in_ok-unless.ensures)
    (later_fails e _ (ap (λ b. unless b (Range s keys.Weight)) (sym weight) ∙ sym c.in_ok-unless-2.ensures)
    (any_fails e _ _ (subst (λ ns. Fails e (ranged s keys.Friction (friction_of ns))) c.as_slice.ensures.value
    c.in_err-p.ensures))))

pub returns-clause-value : goal.returns-clause-value
unfolding add_material
returns-clause-value c =
    let s = spots.Material c.args.index in
    let raw = c.args.raw.now in
    let fits : SFits w64 raw.weight = search rules in
    let fits_p : SFits w64 c.in_ok-p.p = search rules in
    let fits_q : SFits w64 c.in_ok-p.q = search rules in
    let name = c.is_name.ensures ∙ ap is_name c.as_str.ensures.value in
    let weight = c.is_between.ensures ∙ ap (is_between (pos 0) greatest_weight) (to_z-of_z fits) in
    later_gives _ c.keep.result _ (ap (λ b. unless b (Range s keys.Name)) (sym name) ∙ sym c.in_ok-unless.ensures)
    (later_gives _ c.keep.result _
    (ap (λ b. unless b (Range s keys.Weight)) (sym weight) ∙ sym c.in_ok-unless-2.ensures)
    (later_gives _ c.keep.result _
    (ap (λ ns. ranged s keys.Friction (friction_of ns)) (sym c.as_slice.ensures.value) ∙ c.in_ok-p.ensures)
    (subst (λ (m : NamedMaterial). Gives (λ _. map material_view c.keep.new.kept.items) c.keep.result
    (with_material s m (map material_view c.args.kept.now.items))) (λ j. record {
      name = c.as_str-2.ensures.value j;
      weight = to_z-of_z fits j;
      p = to_z-of_z fits_p j;
      q = to_z-of_z fits_q j;
    }) c.keep.ensures.value)))
