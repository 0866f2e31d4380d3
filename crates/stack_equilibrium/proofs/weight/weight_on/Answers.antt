use Rattle.std.proofs.Common.{◌≡◌, rules, ap, sym, subst, SFits, ◌∙◌, pos, ◌-ℤ◌, ◌*ℤ◌}
use mir.Syntax.{w64, w128}
use Rattle.std.proofs.lemmas.Int.{to_z-of_z}
use Rattle.stack_polygon.specs.Area.{twice_area_of, six_moments_of}
use Rattle.stack_whole.specs.declared.whole.Whole.{Whole}
use Rattle.stack_equilibrium.specs.LoadSizes.{IsWeight}
use Rattle.stack_statics.specs.Weights.{weight_by}
use Rattle.stack_statics.proofs.FanSums.{weighs}
use Rattle.stack_equilibrium.proofs.WeightSizes.{weight_within}
use Rattle.stack_equilibrium.proofs.weight.weight_on.Goals as goal

pub returns-clause-value : goal.returns-clause-value
returns-clause-value c =
    let fits_area : SFits w128 c.twice_area.result = search rules in
    let fits_moment : SFits w128 c.six_moments.result.0 = search rules in
    let fits_x : SFits w64 c.corner.result.x = search rules in
    let area : c.of-twice_area.result.value ≡ twice_area_of c.args.outline.now =
    ap (λ (w : Whole). w.value) c.of-twice_area.ensures ∙ to_z-of_z w128 _ fits_area
    ∙ c.twice_area.ensures.value in
    let about_y : c.of-about_y.result.value ≡ (six_moments_of c.args.outline.now).0 =
    ap (λ (w : Whole). w.value) c.of-about_y.ensures ∙ to_z-of_z w128 _ fits_moment
    ∙ (λ i. (c.six_moments.ensures.value i).0) in
    let x = to_z-of_z w64 c.corner.result.x fits_x in
    c.made_weight.ensures
    ∙ ap (λ w. weight_by w c.of-twice_area.result.value c.about.result.value)
    (to_z-of_z w64 c.args.unit c.ranges.unit)
    ∙ weighs c.args.unit c.args.outline.now c.of-twice_area.result.value c.about.result.value area
    (ap (λ (w : Whole). w.value) c.about.ensures.value
    ∙ (λ i. about_y i -ℤ pos 3 *ℤ x i *ℤ area i)
    ∙ (λ i. (six_moments_of c.args.outline.now).0 -ℤ pos 3 *ℤ (c.corner.ensures.value i).x
    *ℤ twice_area_of c.args.outline.now))

pub returns-clause-size : goal.returns-clause-size
returns-clause-size c = subst IsWeight (sym (returns-clause-value c))
    (weight_within c.args.unit c.args.outline.now c.requires c.valid.ensures)
