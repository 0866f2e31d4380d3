-- The part of a sound structure is sound.
use Rattle.std.proofs.Common.{ℤ, ◌≡◌, sym, ap, subst, ◌∙◌, ℕ, ◌<◌, ◌≤◌, Bool, true, false, not}
use Rattle.std.proofs.Common.{List, [], length, get_or, arith}
use Rattle.std.proofs.lemmas.List.{length-map, get_or-map}
use Rattle.std.proofs.lemmas.Option.{slice_get-get_or, get_or_from_slice_get, slice_get_within}
use Rattle.stack_model.specs.declared.types.Joint.{Joint}
use Rattle.stack_model.specs.declared.types.Load.{Load}
use Rattle.stack_model.specs.Structure.{NamedMaterial, NamedBody, Structure, structure_with, body_at, body_of, load_of}
use Rattle.stack_model.specs.Structure.{HasBodyLimits, IsCarried}
use Rattle.stack_model.specs.Content.{body_names}
use Rattle.stack_model.specs.Sound.{IsSound, AreDifferent}
use Rattle.stack_model.specs.Keeping.{kept, kept_before, picked}
use Rattle.stack_model.specs.Part.{part_of, load_among}
use Rattle.stack_model.proofs.KeptItems.{items_rise, item_of, at_number}
use Rattle.stack_model.proofs.KeptLists.{kept_few, kept_counted}
use Rattle.stack_model.proofs.PickedItems.{picked_from, picked_few}

module _ (keeps : ℕ → Bool) (s : Structure) (h : IsSound s) where
  -- the structure of the kept bodies
  abbrev part : Structure
  part = part_of keeps s

  -- load i of the part, of load m
  record IsLoadOf (i m : ℕ) : Type 0 where
    pub within : m < length s.loads
    pub stays : keeps (load_of s m).body ≡ true
    pub is : load_of part i ≡ load_among keeps (load_of s m)

  -- each load of the part is a load on a kept body
  load_from : (i : ℕ) → i < length part.loads → (m : ℕ) × IsLoadOf i m
  load_from i l =
      let r = picked_from (λ l. keeps l.body) (load_among keeps) s.loads i (load_of part i)
      (slice_get-get_or part.loads i _ l) in
      let e : load_of s r.0 ≡ r.1 = get_or_from_slice_get s.loads r.0 r.1 _ r.2.at in (
        r.0,
        record {
          within = slice_get_within s.loads r.0 r.1 r.2.at;
          stays = subst (λ l. keeps l.body ≡ true) (sym e) r.2.kept;
          is = sym (ap (load_among keeps) e ∙ r.2.is);
        },
      )

  -- the body of a kept load is the same
  body_same : (m : ℕ) → m < length s.loads → keeps (load_of s m).body ≡ true
      → (kept_before keeps (load_of s m).body < length part.bodies)
      × (body_of part (kept_before keeps (load_of s m).body) ≡ body_of s (load_of s m).body)
  body_same m l k =
      let a = at_number keeps s.bodies (load_of s m).body (h.loads m l).on_body k in
      (a.0, a.1.same _)

  -- the loads of the part are within the limits
  carried : (i : ℕ) → i < length part.loads → IsCarried (length part.bodies) (load_of part i)
  carried i l =
      let r = load_from i l in
      let c = h.loads r.0 (r.1).within in
      subst (IsCarried (length part.bodies)) (sym (r.1).is) (record {
        on_body = (body_same r.0 (r.1).within (r.1).stays).0;
        in_range = c.in_range;
        least_fx = c.least_fx;
        most_fx = c.most_fx;
        least_fy = c.least_fy;
        most_fy = c.most_fy;
      })

  -- none of them is on a fixed body
  on_free : (i : ℕ) → i < length part.loads → (body_of part (load_of part i).body).fixed ≡ false
  on_free i l =
      let r = load_from i l in
      subst (λ l. (body_of part l.body).fixed ≡ false) (sym (r.1).is)
      (ap (λ b. b.fixed) (body_same r.0 (r.1).within (r.1).stays).1 ∙ h.free r.0 (r.1).within)

  -- the name of a body in the list of names
  name_at : (bs : List NamedBody) (i : ℕ) → i < length bs → get_or (body_names bs) i [] ≡ (body_at bs i).name
  name_at bs i l = get_or-map (λ (b : NamedBody). b.name) bs i _ [] l

  -- kept bodies have different names
  different : AreDifferent (body_names part.bodies)
  different i j lt within same =
      let w : j < length part.bodies = subst (λ n. j < n) (length-map part.bodies (λ (b : NamedBody). b.name)) within in
      let v : i < length part.bodies = omega (arith, lt, w) in
      let p = item_of keeps s.bodies i v in
      let q = item_of keeps s.bodies j w in
      let e : body_of part i ≡ body_of s p.0 = (p.1).same _ in
      let f : body_of part j ≡ body_of s q.0 = (q.1).same _ in
      h.different_bodies p.0 q.0 (items_rise keeps p.0 q.0 i j (p.1).number (q.1).number (q.1).stays lt)
      (subst (λ n. q.0 < n) (sym (length-map s.bodies (λ (b : NamedBody). b.name))) (q.1).within)
      (name_at s.bodies p.0 (p.1).within ∙ ap (λ b. b.name) (sym e) ∙ sym (name_at part.bodies i v)
      ∙ same ∙ name_at part.bodies j w ∙ ap (λ b. b.name) f ∙ sym (name_at s.bodies q.0 (q.1).within))

  -- kept bodies are within the limits
  placed : (i : ℕ) → i < length part.bodies → HasBodyLimits (length s.materials) (body_of part i)
  placed i l =
      let p = item_of keeps s.bodies i l in
      let e : body_of part i ≡ body_of s p.0 = (p.1).same _ in
      subst (HasBodyLimits (length s.materials)) (sym e) (h.bodies p.0 (p.1).within)

  -- no more than what is no more than a limit
  no_more : (m n k : ℕ) → m ≤ n → n ≤ k → m ≤ k
  no_more m n k a b = omega arith

  -- all that holds of a sound structure holds of the part
  pub part_sound : IsSound part
  part_sound = record {
    materials = h.materials;
    version = record { known = h.version.known; joints = h.version.joints; sway = h.version.sway };
    sway = h.sway;
    joints = h.joints;
    bodies = placed;
    loads = carried;
    free = on_free;
    few_materials = h.few_materials;
    few_joints = h.few_joints;
    few_bodies = no_more _ _ _ (kept_few keeps s.bodies) h.few_bodies;
    few_free = no_more _ _ _ (kept_counted (λ b. not b.fixed) keeps s.bodies) h.few_free;
    few_fixed = no_more _ _ _ (kept_counted (λ b. b.fixed) keeps s.bodies) h.few_fixed;
    few_loads = picked_few _ _ s.loads _ h.few_loads;
    different_materials = h.different_materials;
    different_bodies = different;
    different_pairs = h.different_pairs;
  }

-- structures of the same lists are the same
pub of_lists : {v w : ℤ} {sway way : ℤ × ℤ} {ms ns : List NamedMaterial} {js ks : List Joint} {bs cs : List NamedBody}
    {ls us : List Load} → v ≡ w → sway ≡ way → ms ≡ ns → js ≡ ks → bs ≡ cs → ls ≡ us
    → structure_with v sway ms js bs ls ≡ structure_with w way ns ks cs us
of_lists v y m j b l = λ i. structure_with (v i) (y i) (m i) (j i) (b i) (l i)
