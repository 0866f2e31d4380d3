-- What holds of a material, a joint and a body that was taken after others.
use Rattle.std.proofs.Common.{◌≡◌, ℕ, ◌<◌, pos, Bool, true, false, List, [], ◌∷◌, ◌++◌, length, Some}
use Rattle.std.proofs.Common.{Ok, subst, arith, nat_lt, is_none}
use Rattle.std.proofs.lemmas.List.{length-map}
use Rattle.std.proofs.lemmas.Int.{ints}
use Rattle.stack_whole.specs.Limits.{most_free, greatest_weight}
use Rattle.stack_model.specs.declared.types.Joint.{Joint}
use Rattle.stack_model.specs.Structure.{NamedMaterial, NamedBody, IsWithinLimits, HasJointLimits, HasBodyLimits}
use Rattle.stack_model.specs.Structure.{joint_terms}
use Rattle.stack_model.specs.Parts.{MaterialPart, JointPart, BlockPart}
use Rattle.stack_model.specs.Limits.{is_name, is_between, friction_of, corner_list_of}
use Rattle.stack_model.specs.Convex.{convex}
use Rattle.stack_model.specs.Content.{is_new, number_of, has_room, material_names, body_names}
use Rattle.stack_model.specs.Content.{with_material, add_material, with_body, add_joint, add_block}
use Rattle.stack_model.specs.Sound.{AreDifferent, AreOfDifferentPairs, fixed_among, free_among}
use Rattle.stack_model.proofs.Joined.{one_more_joint}
use Rattle.stack_model.proofs.Apart.{AreApart, HasRoom, one_more_material, one_more_body}
use Rattle.stack_model.proofs.Points.{corners_taken, outlined}
use Rattle.stack_model.proofs.Limited.{between, coefficient, number_below, is_a_name}
use Rattle.stack_model.proofs.Growth.{Adds}
use Rattle.stack_model.proofs.Chains.{held, any_went, unless_went, ranged_went, found_went}

pub material_adds : (i : ℕ) (ms : List NamedMaterial) (m : MaterialPart) (ns : List NamedMaterial)
    → add_material i ms m ≡ Ok ns → Adds IsWithinLimits (λ ms. AreDifferent (material_names ms)) ms ns
unfolding add_material with_material
material_adds i ms m ns h =
    unless_went (is_name m.name) _ _ h
    (λ named h. unless_went (is_between (pos 0) greatest_weight m.weight) _ _ h
    (λ weighed h. ranged_went _ _ (friction_of m.friction) _ h
    (λ f taken h. unless_went (is_new m.name (material_names ms)) _ _ h
    (λ new h.
    let made : NamedMaterial = record { name = m.name; weight = m.weight; p = f.0; q = f.1 } in
    let is : ms ++ made ∷ [] ≡ ns = cc in
    let w = between (pos 0) greatest_weight m.weight weighed in
    let c = coefficient m.friction f taken in
    record {
      item = made;
      is = is;
      keeps = record {
        named = is_a_name m.name named;
        least_weight = w.0;
        most_weight = w.1;
        least_p = c.p.0;
        most_p = c.p.1;
        least_q = c.q.0;
        most_q = c.q.1;
      };
      stays = λ h. subst (λ ms. AreDifferent (material_names ms)) is (one_more_material ms made new h);
    }))))

-- the material with a name is one of these
module _ (ms : List NamedMaterial) (name : List ℕ) (n : ℕ) (h : number_of name (material_names ms) ≡ Some n) where
  is_material : n < length ms
  is_material = subst (λ l. n < l) (length-map ms (λ (m : NamedMaterial). m.name))
      (number_below name (material_names ms) n h)

pub joint_adds : (ms : List NamedMaterial) (i : ℕ) (js : List Joint) (j : JointPart) (ns : List Joint)
    → add_joint ms i js j ≡ Ok ns → Adds (HasJointLimits (length ms)) AreOfDifferentPairs js ns
unfolding add_joint
joint_adds ms i js j ns h =
    ranged_went _ _ (friction_of j.friction) _ h
    (λ f taken h. found_went (number_of j.first (material_names ms)) _ _ h
    (λ a first h. found_went (number_of j.second (material_names ms)) _ _ h
    (λ b second h. unless_went (is_none (joint_terms js a b)) _ _ h
    (λ new h.
    let made : Joint = record { first = a; second = b; p = f.0; q = f.1 } in
    let is : js ++ made ∷ [] ≡ ns = cc in
    let c = coefficient j.friction f taken in
    record {
      item = made;
      is = is;
      keeps = record {
        first = is_material ms j.first a first;
        second = is_material ms j.second b second;
        least_p = c.p.0;
        most_p = c.p.1;
        least_q = c.q.0;
        most_q = c.q.1;
      };
      stays = λ h. subst AreOfDifferentPairs is (one_more_joint js made new h);
    }))))

-- there was room for one more body
roomy : (fixed : Bool) (bs : List NamedBody) → has_room fixed bs ≡ Ok tt → HasRoom fixed bs
roomy true bs h = let t = held (nat_lt (fixed_among bs) 64) _ tt h in grind (arith, ints)
roomy false bs h = let t = held (nat_lt (free_among bs) most_free) _ tt h in grind (arith, ints)

pub block_adds : (ms : List NamedMaterial) (i : ℕ) (bs : List NamedBody) (b : BlockPart) (cs : List NamedBody)
    → add_block ms i bs b ≡ Ok cs → Adds (HasBodyLimits (length ms)) AreApart bs cs
unfolding add_block with_body
block_adds ms i bs b cs h =
    unless_went (is_name b.name) _ _ h
    (λ named h. ranged_went _ _ (corner_list_of b.corners) _ h
    (λ ps taken h. unless_went (is_new b.name (body_names bs)) _ _ h
    (λ new h. found_went (number_of b.material (material_names ms)) _ _ h
    (λ n material h. any_went (convex i ps) _ h
    (λ qs convexity h. any_went (has_room b.fixed bs) _ h
    (λ _ room h.
    let made : NamedBody = record { name = b.name; material = n; fixed = b.fixed; corners = qs } in
    let is : bs ++ made ∷ [] ≡ cs = cc in
    record {
      item = made;
      is = is;
      keeps = record {
        named = is_a_name b.name named;
        has_material = is_material ms b.material n material;
        polygon = outlined i ps qs (corners_taken b.corners ps taken) convexity;
      };
      stays = λ h. subst AreApart is (one_more_body bs made new (roomy b.fixed bs room) h);
    }))))))
