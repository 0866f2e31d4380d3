-- What was checked holds of the structure.
use Rattle.std.proofs.Common.{◌≡◌, ℕ, ◌<◌, ◌≤◌, ℤ, Bool, true, false, not, List, [], ◌∷◌, ◌++◌, length, Result, Ok, Err}
use Rattle.std.proofs.Common.{refl, sym, subst, arith, nat_le}
use Rattle.std.specs.Bool.{⊤}
use Rattle.std.proofs.lemmas.List.{length-map}
use Rattle.std.proofs.lemmas.Int.{ints}
use Rattle.stack_algebra.specs.Steps.{◌>>=◌, steps}
use Rattle.stack_model.specs.declared.types.Joint.{Joint}
use Rattle.stack_model.specs.declared.types.Load.{Load}
use Rattle.stack_model.specs.declared.places.What.{What}
use Rattle.stack_model.specs.declared.places.What.TheVariants as whats
use Rattle.stack_model.specs.declared.errors.ModelError.{ModelError}
use Rattle.stack_model.specs.Structure.{NamedMaterial, NamedBody, structure_with, IsWithinLimits, HasJointLimits}
use Rattle.stack_model.specs.Structure.{HasBodyLimits}
use Rattle.stack_model.specs.Parts.{LoadPart, PartLists, IsOfVersion}
use Rattle.stack_model.specs.Limits.{point_of, live_of, force_of, most_bodies}
use Rattle.stack_model.specs.Content.{at_most, is_free, number_of, material_names, body_names, add_material, add_joint}
use Rattle.stack_model.specs.Content.{add_block, add_load, head_of, joints_of, bodies_of, loads_of}
use Rattle.stack_polygon.proofs.Ranges.{in_range}
use Rattle.stack_model.proofs.Points.{point_taken}
use Rattle.stack_model.specs.Borne.{IsBorne}
use Rattle.stack_model.specs.Sound.{IsSound, AreDifferent, AreOfDifferentPairs}
use Rattle.stack_model.proofs.Joined.{no_joints}
use Rattle.stack_model.proofs.Heads.{head_is, of_version}
use Rattle.stack_model.proofs.Apart.{AreApart, no_names, no_bodies}
use Rattle.stack_model.proofs.Limited.{force, number_below}
use Rattle.stack_model.proofs.Growth.{Adds, grown}
use Rattle.stack_model.proofs.Chains.{held, any_went, unless_went, ranged_went, found_went}
use Rattle.stack_model.proofs.TakenItems.{material_adds, joint_adds, block_adds}

not_fixed : (b : Bool) → not b ≡ true → b ≡ false
not_fixed true h = absurd (cc)
not_fixed false h = refl

load_adds : (bs : List NamedBody) (i : ℕ) (ls : List Load) (l : LoadPart) (ns : List Load)
    → add_load bs i ls l ≡ Ok ns → Adds (IsBorne bs) (λ _. ⊤) ls ns
unfolding add_load
load_adds bs i ls l ns h =
    ranged_went _ _ (live_of l.kind) _ h
    (λ live kind h. ranged_went _ _ (point_of l.at) _ h
    (λ c place h. ranged_went _ _ (force_of l.force) _ h
    (λ f taken h. found_went (number_of l.block (body_names bs)) _ _ h
    (λ n number h. unless_went (is_free n bs) _ _ h
    (λ free h.
    let made : Load = record { body = n; live = live; at = c; fx = f.0; fy = f.1 } in
    let is : ls ++ made ∷ [] ≡ ns = cc in
    let parts = force l.force f taken in
    record {
      item = made;
      is = is;
      keeps = record {
        carried = record {
          on_body = subst (λ k. n < k) (length-map bs (λ (b : NamedBody). b.name))
              (number_below l.block (body_names bs) n number);
          in_range = in_range c (point_taken l.at c place);
          least_fx = parts.x.0;
          most_fx = parts.x.1;
          least_fy = parts.y.0;
          most_fy = parts.y.1;
        };
        free = not_fixed _ free;
      };
      stays = λ _. tt;
    })))))

-- as many as were listed are few where those were
few : (limit n m : ℕ) (what : What) (x : ⊤) → m ≡ n → at_most limit n what ≡ Ok x → m ≤ limit
few limit n m what x same h =
    let t : nat_le n limit ≡ true = held (nat_le n limit) _ x h in
    subst (λ k. k ≤ limit) (sym same) (grind (arith, ints))

-- the two lists
record ListSteps (u v : Result ⊤ ModelError) (r : Result (List NamedMaterial) ModelError)
    (k : List NamedMaterial → Result (List Joint) ModelError) (ms : List NamedMaterial)
    (js : List Joint) : Type 0 where
  pub few_materials : u ≡ Ok tt
  pub few_joints : v ≡ Ok tt
  pub materials : r ≡ Ok ms
  pub joints : k ms ≡ Ok js

list_steps : (u v : Result ⊤ ModelError) (r : Result (List NamedMaterial) ModelError)
    (k : List NamedMaterial → Result (List Joint) ModelError) (both : List NamedMaterial × List Joint)
    → (u >>= λ _. r >>= λ ms. v >>= λ _. k ms >>= λ js. Ok (ms, js)) ≡ Ok both
    → ListSteps u v r k both.0 both.1
list_steps u v r k both h =
    any_went u _ h (λ _ few h. any_went r _ h (λ ns materials h. any_went v _ h (λ _ few_joints h. any_went (k ns) _ h
    (λ cs joints h. let same : (ns, cs) ≡ both = cc in
    subst (λ x. ListSteps u v r k x.0 x.1) same
    (record { few_materials = few; few_joints = few_joints; materials = materials; joints = joints })))))

-- a list that is counted first
counted : {A : Type 0} (u : Result ⊤ ModelError) (r : Result A ModelError) (x : A) → (u >>= λ _. r) ≡ Ok x
    → (u ≡ Ok tt) × (r ≡ Ok x)
counted (Ok t) r x h = (refl, h)
counted (Err e) r x h = absurd (cc)

-- the structure of parts whose content was taken
pub sound : (parts : PartLists) (sway : ℤ × ℤ) (ms : List NamedMaterial) (js : List Joint) (bs : List NamedBody)
    (ls : List Load)
    → IsOfVersion parts → head_of parts ≡ Ok sway → joints_of parts ≡ Ok (ms, js) → bodies_of ms parts ≡ Ok bs
    → loads_of bs parts ≡ Ok ls → IsSound (structure_with parts.version sway ms js bs ls)
unfolding joints_of bodies_of loads_of
sound parts sway ms js bs ls of_its_version head lists bodies loads =
    let whole = structure_with parts.version sway ms js bs ls in
    let h = head_is parts sway head in
    let s = list_steps (at_most 64 (length parts.materials) whats.Materials)
    (at_most 256 (length parts.joints) whats.Joints) (steps add_material 0 [] parts.materials)
    (λ ms. steps (add_joint ms) 0 [] parts.joints) (ms, js) lists in
    let t = counted (at_most most_bodies (length parts.blocks) whats.Blocks) (steps (add_block ms) 0 [] parts.blocks) bs
    bodies in
    let u = counted (at_most 256 (length parts.loads) whats.Loads) (steps (add_load bs) 0 [] parts.loads) ls loads in
    let m = grown add_material IsWithinLimits (λ ms. AreDifferent (material_names ms))
    material_adds no_names parts.materials ms s.materials in
    let j = grown (add_joint ms) (HasJointLimits (length ms)) AreOfDifferentPairs
    (joint_adds ms) no_joints parts.joints js s.joints in
    let b = grown (add_block ms) (HasBodyLimits (length ms)) AreApart
    (block_adds ms) no_bodies parts.blocks bs t.1 in
    let l = grown (add_load bs) (IsBorne bs) (λ _. ⊤) (load_adds bs) tt parts.loads ls u.1 in
    let few_m = few 64 _ _ whats.Materials tt m.count s.few_materials in
    let few_j = few 256 _ _ whats.Joints tt j.count s.few_joints in
    let few_b = few most_bodies _ _ whats.Blocks tt b.count t.0 in
    let few_l = few 256 _ _ whats.Loads tt l.count u.0 in
    record {
      materials = λ i lt. m.keeps i _ lt;
      version = of_version parts whole refl of_its_version h head j.count;
      sway = h.limits;
      joints = λ i lt. j.keeps i _ lt;
      bodies = λ i lt. b.keeps i _ lt;
      loads = λ i lt. (l.keeps i _ lt).carried;
      free = λ i lt. (l.keeps i _ lt).free;
      few_materials = few_m;
      few_joints = few_j;
      few_bodies = few_b;
      few_free = (b.stays).few_free;
      few_fixed = (b.stays).few_fixed;
      few_loads = few_l;
      different_materials = m.stays;
      different_bodies = (b.stays).different;
      different_pairs = j.stays;
    }
