use Rattle.std.proofs.Common.{◌≡◌, ◌∙◌, ap, SFits, rules, w64}
use Rattle.std.proofs.lemmas.Int.{to_z-of_z}
use Rattle.stack_model.specs.declared.types.Material.{Material}
use Rattle.stack_model.specs.Structure.{material_of}
use Rattle.stack_statics.specs.Loads.{wrench_sum}
use Rattle.stack_statics.specs.Sway.{sway_load}
use Rattle.stack_equilibrium.specs.SurveyScene.{sway_load_at, unit_weight_of}
use Rattle.stack_equilibrium.proofs.loads.live_on.Goals as goal

pub returns-clause-value : goal.returns-clause-value
returns-clause-value c =
    let s = c.args.model.now in
    let fits_x : SFits w64 c.sway-x.result.0 = search rules in
    let fits_y : SFits w64 c.sway-x.result.1 = search rules in
    let fits_w : SFits w64 c.material-unit.result.weight = search rules in
    let unit : c.material-unit.result.weight ≡ unit_weight_of s c.args.i =
    ap (λ (m : Material). m.weight) c.material-unit.ensures.value
    ∙ (λ z. (material_of s (c.body.ensures.value z).material).weight) in
    let sway : c.sway_on.result ≡ sway_load_at s c.args.i =
    c.sway_on.ensures.value
    ∙ (λ z. sway_load (to_z-of_z w64 c.sway-x.result.0 fits_x z, to_z-of_z w64 c.sway-x.result.1 fits_y z)
    (to_z-of_z w64 c.material-unit.result.weight fits_w z) c.polygon-outline.result.now)
    ∙ (λ z. sway_load (c.sway-x.ensures.value z) (unit z) (c.polygon-outline.ensures.value z)) in
    c.with_listed.ensures.value ∙ (λ z. wrench_sum (sway z) (c.listed_on-listed.ensures.value z))
