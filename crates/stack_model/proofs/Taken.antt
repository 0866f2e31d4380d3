-- A structure within the limits is taken without a fault where it is listed.
use Rattle.std.proofs.Common.{◌≡◌, ℕ, ◌<◌, ◌≤◌, pos, Bool, true, false, not, List, [], ◌∷◌, ◌++◌, length}
use Rattle.std.proofs.Common.{get_or, Some, Ok, refl, sym, ap, ◌∙◌, subst}
use Rattle.std.proofs.lemmas.Bool.{le-leb, lt-ltb}
use Rattle.std.proofs.lemmas.List.{length-map, get_or-map}
use Rattle.stack_model.specs.Limits.{most_bodies}
use Rattle.stack_whole.specs.Limits.{most_free, greatest_weight}
use Rattle.stack_polygon.proofs.Ranges.{to_range}
use Rattle.stack_model.specs.declared.places.What.{What}
use Rattle.stack_model.specs.declared.places.What.TheVariants as whats
use Rattle.stack_model.specs.declared.errors.ModelError.TheVariants.{TooMany}
use Rattle.stack_model.specs.Structure.{NamedMaterial, NamedBody, Structure, material_of, body_of}
use Rattle.stack_model.specs.Structure.{IsWithinLimits, HasJointLimits, HasBodyLimits, IsCarried}
use Rattle.stack_whole.specs.Demands.{unless}
use Rattle.stack_model.specs.Content.{at_most, number_of, has_room, material_names, body_names}
use Rattle.stack_model.specs.Content.{with_material, add_material, with_body, add_joint, add_block, add_load, joints_of}
use Rattle.stack_model.specs.Content.{bodies_of, loads_of, content_of}
use Rattle.stack_model.specs.Relisted.{material_listed, joint_listed, body_listed, load_listed}
use Rattle.stack_model.specs.Sound.{IsSound, AreDifferent, AreOfDifferentPairs, free_among, fixed_among}
use Rattle.stack_model.proofs.Points.{point_again, corners_again}
use Rattle.stack_model.proofs.Heads.{head_again}
use Rattle.stack_model.proofs.Joined.{is_new_pair}
use Rattle.stack_model.proofs.Chains.{any_runs, unless_runs, ranged_runs, found_runs}
use Rattle.stack_model.specs.Taken.{SoundIsTaken}
use Rattle.stack_model.proofs.Passing.{is_within, passes_name, passes_friction, passes_sway, passes_force}
use Rattle.stack_model.proofs.Passing.{passes_corners, passes_convex, kind_again, number_at, new_at, room_at}
use Rattle.stack_model.proofs.Listed.{EachTaken, all_taken, item_at, parts_mapped}

module _ (s : Structure) (h : IsSound s) where
  materials_taken : EachTaken add_material material_listed s.materials
  unfolding add_material with_material
  materials_taken i before x after e =
      let t = item_at before x after s.materials _ e in
      let m = subst IsWithinLimits t.1 (h.materials (length before) t.0) in
      unless_runs _ (passes_name x.name m.named)
      (unless_runs _ (is_within (pos 0) greatest_weight x.weight m.least_weight m.most_weight)
      (ranged_runs _ _ _ (passes_friction x.p x.q m.least_p m.most_p m.least_q m.most_q)
      (unless_runs _ (new_at (material_names before) (material_names after) x.name
      (subst AreDifferent (sym (parts_mapped _ before x after s.materials e)) h.different_materials)) refl)))

  -- a material is found at its number by its name
  material_found : (k : ℕ) → k < length s.materials
      → number_of (material_of s k).name (material_names s.materials) ≡ Some k
  material_found k l =
      ap (λ name. number_of name (material_names s.materials))
      (sym (get_or-map (λ (m : NamedMaterial). m.name) s.materials k _ [] l))
      ∙ number_at (material_names s.materials) k
      (subst (λ n. k < n) (sym (length-map s.materials (λ (m : NamedMaterial). m.name))) l) h.different_materials

  joints_taken : EachTaken (add_joint s.materials) (joint_listed s.materials) s.joints
  unfolding add_joint
  joints_taken i before x after e =
      let t = item_at before x after s.joints _ e in
      let j = subst (HasJointLimits (length s.materials)) t.1 (h.joints (length before) t.0) in
      ranged_runs _ _ _ (passes_friction x.p x.q j.least_p j.most_p j.least_q j.most_q)
      (found_runs _ _ (material_found x.first j.first) (found_runs _ _ (material_found x.second j.second)
      (unless_runs _ (is_new_pair before x after (subst AreOfDifferentPairs (sym e) h.different_pairs)) refl)))

  room_for : (before after : List NamedBody) (x : NamedBody) → before ++ x ∷ after ≡ s.bodies
      → has_room x.fixed before ≡ Ok tt
  room_for before after x e = go x.fixed refl
    where
      go : (t : Bool) → x.fixed ≡ t → has_room t before ≡ Ok tt
      go true f = ap (λ t. unless t (TooMany whats.Fixed)) (lt-ltb (fixed_among before) 64
          (room_at (λ b. b.fixed) before after x 64 f (subst (λ bs. fixed_among bs ≤ 64) (sym e) h.few_fixed)))
      go false f = ap (λ t. unless t (TooMany whats.Free)) (lt-ltb (free_among before) most_free
          (room_at (λ b. not b.fixed) before after x most_free (ap not f)
          (subst (λ bs. free_among bs ≤ most_free) (sym e) h.few_free)))

  blocks_taken : EachTaken (add_block s.materials) (body_listed s.materials) s.bodies
  unfolding add_block with_body
  blocks_taken i before x after e =
      let t = item_at before x after s.bodies _ e in
      let b = subst (HasBodyLimits (length s.materials)) t.1 (h.bodies (length before) t.0) in
      unless_runs _ (passes_name x.name b.named)
      (ranged_runs _ _ _ (corners_again x.corners (passes_corners x.corners b.polygon))
      (unless_runs _ (new_at (body_names before) (body_names after) x.name
      (subst AreDifferent (sym (parts_mapped _ before x after s.bodies e)) h.different_bodies))
      (found_runs _ _ (material_found x.material b.has_material)
      (any_runs _ (passes_convex i x.corners b.polygon) (any_runs _ (room_for before after x e) refl)))))

  loads_taken : EachTaken (add_load s.bodies) (load_listed s.bodies) s.loads
  unfolding add_load
  loads_taken i before x after e =
      let t = item_at before x after s.loads _ e in
      let l = subst (IsCarried (length s.bodies)) t.1 (h.loads (length before) t.0) in
      let f = subst (λ l. (body_of s l.body).fixed ≡ false) t.1 (h.free (length before) t.0) in
      let named : get_or (body_names s.bodies) x.body [] ≡ (body_of s x.body).name =
      get_or-map (λ (b : NamedBody). b.name) s.bodies x.body _ [] l.on_body in
      ranged_runs _ _ _ (kind_again x.live) (ranged_runs _ _ _ (point_again x.at (to_range x.at l.in_range))
      (ranged_runs _ _ _ (passes_force x.fx x.fy (l.least_fx, l.most_fx) (l.least_fy, l.most_fy))
      (found_runs _ _ (ap (λ name. number_of name (body_names s.bodies)) (sym named)
      ∙ number_at (body_names s.bodies) x.body
      (subst (λ n. x.body < n) (sym (length-map s.bodies (λ (b : NamedBody). b.name))) l.on_body)
      h.different_bodies)
      (unless_runs _ (ap not f) refl))))

-- so many listed items are few
few : (limit n m : ℕ) (what : What) → m ≡ n → n ≤ limit → at_most limit m what ≡ Ok tt
few limit n m what e l = ap (λ k. at_most limit k what) e ∙ ap (λ t. unless t (TooMany what)) (le-leb n limit l)

pub taken : SoundIsTaken
unfolding content_of joints_of bodies_of loads_of
taken s h =
    let ms = s.materials in
    any_runs _ (head_again s h.version.known (passes_sway s.sway h.sway))
    (any_runs _ (any_runs _ (few 64 _ _ whats.Materials (length-map ms material_listed) h.few_materials)
    (any_runs _ (all_taken add_material material_listed ms (materials_taken s h))
    (any_runs _ (few 256 _ _ whats.Joints (length-map s.joints (joint_listed ms)) h.few_joints)
    (any_runs _ (all_taken (add_joint ms) (joint_listed ms) s.joints (joints_taken s h)) refl))))
    (any_runs _ (any_runs _ (few most_bodies _ _ whats.Blocks (length-map s.bodies (body_listed ms)) h.few_bodies)
    (all_taken (add_block ms) (body_listed ms) s.bodies (blocks_taken s h)))
    (any_runs _ (any_runs _ (few 256 _ _ whats.Loads (length-map s.loads (load_listed s.bodies)) h.few_loads)
    (all_taken (add_load s.bodies) (load_listed s.bodies) s.loads (loads_taken s h))) refl)))
