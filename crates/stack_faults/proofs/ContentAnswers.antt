-- What content as a whole answers.
use Rattle.std.proofs.Common.{◌≡◌, sym, ap, subst, ℕ, Bool, true, false, not, List, [], ◌∷◌, ◌++◌, append_assoc}
use Rattle.std.proofs.Common.{length, Option}
use Rattle.std.proofs.Common.{Some, None, refl, ℤ, map, Ok}
use Rattle.std.specs.Prelude.{is_none, nat_le, nat_lt, ⊤}
use Rattle.stack_algebra.specs.Steps.{◌>>=◌, steps}
use Rattle.stack_model.specs.declared.places.What.{What}
use Rattle.stack_model.specs.declared.places.What.TheVariants as whats
use Rattle.stack_model.specs.declared.errors.ModelError.TheVariants.{Range, TooMany}
use Rattle.stack_model.specs.declared.types.Joint.{Joint}
use Rattle.stack_model.specs.declared.places.Spot.TheVariants as spots
use Rattle.stack_model.specs.declared.places.Key.TheVariants as keys
use Rattle.stack_model.specs.Structure.{NamedMaterial, NamedBody, structure_with}
use Rattle.stack_model.specs.Parts.{PartLists}
use Rattle.stack_model.specs.Limits.{most_materials, most_joints, most_bodies, most_loads, is_version, sway_of}
use Rattle.stack_model.specs.Relisted.{joint_listed}
use Rattle.stack_whole.specs.Demands.{unless}
use Rattle.stack_model.specs.Content.{ranged, at_most, sway_listed, head_of, add_material, add_joint, add_block}
use Rattle.stack_model.specs.Content.{add_load, joints_of, bodies_of, loads_of, content_of}
use Rattle.stack_faults.specs.FaultLists.{faults_where, earliest, answered_fault}
use Rattle.stack_faults.specs.ContentFaults.{number_faults, faults_by, causes_of_material}
use Rattle.stack_faults.specs.ContentFaults.{material_faults, block_faults, load_faults, is_bad_sway}
use Rattle.stack_faults.specs.ContentFaults.{head_faults, joint_faults, causes_of_joint, content_faults}
use Rattle.stack_faults.specs.AsListed.{IsSwayOf, IsStructureOf, StructureAsListed}
use Rattle.stack_faults.proofs.Firsts.{Answers, answers_fault, then_told, last_told}
use Rattle.stack_faults.proofs.Names.{over_limit}
use Rattle.stack_faults.proofs.MaterialAnswers.{AreMaterialsOf, materials_told}
use Rattle.stack_faults.proofs.BlockAnswers.{AreAll, AreBodiesOf, blocks_told}
use Rattle.stack_faults.proofs.JointAnswers.{joints_told}
use Rattle.stack_faults.proofs.Written.{sway_back}
use Rattle.stack_faults.proofs.LoadAnswers.{AreLoadsOf, loads_told}

number_told : (limit count : ℕ) (what : What)
    → Answers (λ _. ⊤) (at_most limit count what) (earliest (number_faults limit count what))
number_told limit count what = go (nat_le count limit) (nat_lt limit count) (over_limit count limit)
  where
    go : (b t : Bool) → t ≡ not b → Answers (λ _. ⊤) (unless b (TooMany what))
        (earliest (faults_where ((t, TooMany what) ∷ [])))
    go true t h = (ap (λ b. earliest (faults_where ((b, TooMany what) ∷ []))) h, tt)
    go false t h = ap (λ b. earliest (faults_where ((b, TooMany what) ∷ []))) h

-- the version and the sway
head_told : (parts : PartLists) → Answers (IsSwayOf parts.sway) (head_of parts) (earliest (head_faults parts))
unfolding head_of
head_told parts = go (is_version parts.version) parts.sway
  where
    told : (zs : List ℤ) (o : Option (ℤ × ℤ)) → sway_of zs ≡ o
        → Answers (IsSwayOf (Some zs)) (ranged spots.Top keys.Sway o)
        (earliest (faults_where ((false, Range spots.Top keys.Version) ∷ (is_none o, Range spots.Top keys.Sway) ∷ [])))
    told zs (Some z) e = (refl, sway_back zs z e)
    told zs None e = refl

    go : (b : Bool) (o : Option (List ℤ)) → Answers (IsSwayOf o)
        (unless b (Range spots.Top keys.Version) >>= λ _. sway_listed o)
        (earliest (faults_where
        ((not b, Range spots.Top keys.Version) ∷ (is_bad_sway o, Range spots.Top keys.Sway) ∷ [])))
    go true None = (refl, refl)
    go true (Some zs) = told zs (sway_of zs) refl
    go false o = refl

-- the materials and the joints
abbrev AreBoth : PartLists → List NamedMaterial × List Joint → Type 0
AreBoth parts x = AreMaterialsOf parts.materials x.0 × (map (joint_listed x.0) x.1 ≡ parts.joints)

both_lists_told : (parts : PartLists)
    → Answers (AreBoth parts) (joints_of parts) (earliest (material_faults parts ++ joint_faults parts))
unfolding joints_of
both_lists_told parts =
    let n = number_faults most_materials (length parts.materials) whats.Materials in
    let m = faults_by (length parts.materials) (causes_of_material parts) in
    let k = number_faults most_joints (length parts.joints) whats.Joints in
    let j = faults_by (length parts.joints) (causes_of_joint parts) in
    subst (λ xs. Answers (AreBoth parts) (joints_of parts) (earliest xs)) (sym (append_assoc n m (k ++ j)))
    (then_told (λ _. ⊤) (AreBoth parts) (at_most most_materials (length parts.materials) whats.Materials) _ n
    (m ++ (k ++ j)) (number_told most_materials (length parts.materials) whats.Materials)
    (λ _ _. then_told (AreMaterialsOf parts.materials) (AreBoth parts) (steps add_material 0 [] parts.materials) _ m
    (k ++ j) (materials_told parts)
    (λ ms h. then_told (λ _. ⊤) (AreBoth parts) (at_most most_joints (length parts.joints) whats.Joints) _ k j
    (number_told most_joints (length parts.joints) whats.Joints)
    (λ _ _. last_told (λ js. map (joint_listed ms) js ≡ parts.joints) (AreBoth parts)
    (steps (add_joint ms) 0 [] parts.joints) (λ js. (ms, js)) (earliest j) (joints_told parts ms h) (λ js e. (h, e))))))

bodies_told : (parts : PartLists) (ms : List NamedMaterial) → AreMaterialsOf parts.materials ms
    → Answers (AreAll parts ms) (bodies_of ms parts) (earliest (block_faults parts))
unfolding bodies_of
bodies_told parts ms h = then_told (λ _. ⊤) (AreAll parts ms) _ (λ _. steps (add_block ms) 0 [] parts.blocks) _ _
    (number_told most_bodies (length parts.blocks) whats.Blocks) (λ _ _. blocks_told parts ms h)

all_loads_told : (parts : PartLists) (bs : List NamedBody) → AreBodiesOf parts.blocks bs
    → Answers (AreLoadsOf bs parts.loads) (loads_of bs parts) (earliest (load_faults parts))
unfolding loads_of
all_loads_told parts bs h = then_told (λ _. ⊤) (AreLoadsOf bs parts.loads) _ (λ _. steps (add_load bs) 0 [] parts.loads)
    _ _ (number_told most_loads (length parts.loads) whats.Loads) (λ _ _. loads_told parts bs h)

from_left : {E : Type 0} (a b c d e : List E) → a ++ ((b ++ c) ++ (d ++ e)) ≡ a ++ b ++ c ++ d ++ e
from_left a b c d e = simp append_assoc

content_told : (parts : PartLists)
    → Answers (IsStructureOf parts) (content_of parts) (earliest (content_faults parts))
unfolding content_of
content_told parts =
    let b = material_faults parts in
    let c = joint_faults parts in
    let d = block_faults parts in
    let e = load_faults parts in
    subst (λ xs. Answers (IsStructureOf parts) (content_of parts) (earliest xs)) (from_left (head_faults parts) b c d e)
    (then_told (IsSwayOf parts.sway) (IsStructureOf parts) (head_of parts) _ (head_faults parts) ((b ++ c) ++ (d ++ e))
    (head_told parts)
    (λ sway hs. then_told (AreBoth parts) (IsStructureOf parts) (joints_of parts) _ (b ++ c) (d ++ e)
    (both_lists_told parts)
    (λ both hb. then_told (AreAll parts both.0) (IsStructureOf parts) (bodies_of both.0 parts) _ d e
    (bodies_told parts both.0 hb.0)
    (λ bs h. last_told (AreLoadsOf bs parts.loads) (IsStructureOf parts) (loads_of bs parts)
    (structure_with parts.version sway both.0 both.1 bs) (earliest e) (all_loads_told parts bs h.bodies)
    (λ ls loads. record {
      version = refl;
      sway = hs;
      materials = hb.0;
      joints = hb.1;
      count = h.count;
      bodies = h.each;
      loads = loads;
    })))))

pub content_first : (parts : PartLists) → answered_fault (content_of parts) ≡ earliest (content_faults parts)
content_first parts = answers_fault (IsStructureOf parts) (content_of parts) (earliest (content_faults parts))
    (content_told parts)

pub as_listed : StructureAsListed
as_listed parts s e = let h : Answers (IsStructureOf parts) (Ok s) (earliest (content_faults parts)) =
    subst (λ r. Answers (IsStructureOf parts) r (earliest (content_faults parts))) e (content_told parts) in h.1
