-- What the run over the materials answers.
use Rattle.std.proofs.Common.{arith, sym, ◌≡◌, refl, ap, ◌∙◌, ℕ, ◌+◌, ◌<◌, pos, List, []}
use Rattle.std.proofs.Common.{map, length, take}
use Rattle.std.proofs.lemmas.List.{take_all}
use Rattle.std.proofs.lemmas.Simd.{map-map}
use Rattle.stack_whole.specs.Limits.{greatest_weight}
use Rattle.stack_algebra.specs.Steps.{steps}
use Rattle.stack_model.specs.Structure.{NamedMaterial}
use Rattle.stack_model.specs.Parts.{MaterialPart, PartLists}
use Rattle.stack_model.specs.Limits.{is_name, is_between, friction_of}
use Rattle.stack_model.specs.Content.{is_new, material_names, with_material, add_material}
use Rattle.stack_model.specs.Relisted.{material_listed}
use Rattle.stack_faults.specs.FaultLists.{earliest}
use Rattle.stack_faults.specs.ContentFaults.{material_written, causes_of_material, faults_by}
use Rattle.stack_faults.proofs.Firsts.{Answers, answers_weaker}
use Rattle.stack_faults.proofs.StepAnswers.{Meets, ends, unless_step, ranged_step}
use Rattle.stack_faults.proofs.Names.{seen}
use Rattle.stack_faults.proofs.Written.{one_more_same, friction_back}
use Rattle.stack_faults.proofs.Walks.{listed}

-- what was collected, listed again, are these materials
abbrev pub AreMaterialsOf : List MaterialPart → List NamedMaterial → Type 0
AreMaterialsOf written ms = map material_listed ms ≡ written

-- what was collected has the names of these materials
pub names_of : (written : List MaterialPart) (ms : List NamedMaterial) → AreMaterialsOf written ms
    → material_names ms ≡ map (λ (m : MaterialPart). m.name) written
names_of written ms h = sym (map-map (λ (m : MaterialPart). m.name) material_listed ms)
    ∙ ap (map (λ (m : MaterialPart). m.name)) h

one_told : (parts : PartLists) (i : ℕ) (ms : List NamedMaterial) → i < length parts.materials
    → AreMaterialsOf (take i parts.materials) ms
    → Meets (AreMaterialsOf (take (i + 1) parts.materials)) (add_material i ms (material_written parts i))
    (causes_of_material parts i)
unfolding add_material with_material
one_told parts i ms l h = let m = material_written parts i in
    unless_step (is_name m.name) refl
    (λ _. unless_step (is_between (pos 0) greatest_weight m.weight) refl
    (λ _. ranged_step (friction_of m.friction)
    (λ f e. unless_step (is_new m.name (material_names ms)) (seen (λ (m : MaterialPart). m.name) m.name
    (take i parts.materials) (material_names ms) (names_of (take i parts.materials) ms h))
    (λ _. ends (one_more_same material_listed ms _ parts.materials i _ l
    (λ z. record { name = m.name; weight = m.weight; friction = friction_back m.friction f e z }) h)))))

pub materials_told : (parts : PartLists)
    → Answers (AreMaterialsOf parts.materials) (steps add_material 0 [] parts.materials)
    (earliest (faults_by (length parts.materials) (causes_of_material parts)))
materials_told parts =
    answers_weaker (AreMaterialsOf (take (length parts.materials) parts.materials))
    (AreMaterialsOf parts.materials) _ _
    (λ ms h. h ∙ take_all (length parts.materials) parts.materials (omega arith))
    (listed add_material parts.materials _ (λ i. AreMaterialsOf (take i parts.materials))
    (causes_of_material parts) (λ i ms l h. (one_told parts i ms l h).answers) [] refl)
