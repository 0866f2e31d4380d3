use Rattle.std.proofs.Common.{◌≡◌, ◌∙◌, ap, SFits, rules, w64}
use Rattle.std.proofs.lemmas.Int.{to_z-of_z}
use Rattle.stack_model.specs.declared.types.Material.{Material}
use Rattle.stack_model.specs.Structure.{material_of}
use Rattle.stack_statics.specs.Loads.{weight_of, wrench_sum}
use Rattle.stack_equilibrium.specs.SurveyScene.{unit_weight_of, weight_at}
use Rattle.stack_equilibrium.proofs.WeightSizes.{weight_is_own}
use Rattle.stack_equilibrium.proofs.loads.dead_on.Goals as goal

pub with_listed-requires-clause-own : goal.with_listed-requires-clause-own
with_listed-requires-clause-own c = weight_is_own c.weight_on.ensures.size

pub returns-clause-value : goal.returns-clause-value
returns-clause-value c =
    let s = c.args.model.now in
    let fits : SFits w64 c.material-unit.result.weight = search rules in
    let unit : c.material-unit.result.weight ≡ unit_weight_of s c.args.i =
    ap (λ (m : Material). m.weight) c.material-unit.ensures.value
    ∙ (λ z. (material_of s (c.body.ensures.value z).material).weight) in
    let weight : c.weight_on.result ≡ weight_at s c.args.i =
    c.weight_on.ensures.value
    ∙ (λ z. weight_of (to_z-of_z w64 c.material-unit.result.weight fits z) c.polygon-outline.result.now)
    ∙ (λ z. weight_of (unit z) (c.polygon-outline.ensures.value z)) in
    c.with_listed.ensures.value ∙ (λ z. wrench_sum (weight z) (c.listed_on-listed.ensures.value z))
