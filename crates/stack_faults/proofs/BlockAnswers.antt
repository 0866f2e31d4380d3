-- What the run over the blocks answers.
use Rattle.std.proofs.Common.{arith, below_more, ◌≡◌, refl, sym, ap, ◌∙◌, subst, ℕ, ◌+◌, ◌<◌, Bool, true, false, not}
use Rattle.std.proofs.Common.{◌&&◌, List, [], ◌∷◌, ◌++◌, map, length, take, Option, Some, None, Ok, Err}
use Rattle.std.specs.Prelude.{nat_lt, ◌==◌, if◌then◌else◌, ⊤, count_by}
use Rattle.std.proofs.lemmas.Bool.{ltb-true}
use Rattle.std.proofs.lemmas.List.{take_all, get_or_append_left, get_or_push, length_push}
use Rattle.stack_algebra.specs.Steps.{steps}
use Rattle.stack_algebra.specs.Search.{or_else, only_if}
use Rattle.stack_whole.specs.Limits.{most_free}
use Rattle.stack_polygon.specs.declared.point.Point.{Point}
use Rattle.stack_polygon.specs.Corners.{reversed}
use Rattle.stack_polygon.specs.Outlines.{is_clear, is_convex, first_failing}
use Rattle.stack_model.specs.declared.places.What.TheVariants as whats
use Rattle.stack_model.specs.declared.errors.ModelError.{ModelError}
use Rattle.stack_model.specs.declared.errors.ModelError.TheVariants.{NotConvex, TooMany}
use Rattle.stack_model.specs.Structure.{NamedMaterial, NamedBody, body_at}
use Rattle.stack_model.specs.Parts.{MaterialPart, BlockPart, PartLists}
use Rattle.stack_model.specs.Limits.{most_fixed, is_name, corner_list_of}
use Rattle.stack_model.specs.Convex.{at_block, convex}
use Rattle.stack_whole.specs.Demands.{unless}
use Rattle.stack_model.specs.Content.{is_new, number_of, has_room, material_names, body_names}
use Rattle.stack_model.specs.Content.{with_body, add_block}
use Rattle.stack_model.specs.Sound.{fixed_among, free_among}
use Rattle.stack_model.proofs.Apart.{AreApart, HasRoom, no_bodies, one_more_body}
use Rattle.stack_faults.specs.FaultLists.{earliest}
use Rattle.stack_faults.specs.ContentFaults.{block_written, fixed_written, free_written}
use Rattle.stack_faults.specs.ContentFaults.{is_crooked, unclear_edge, causes_of_block, faults_by}
use Rattle.stack_faults.proofs.Firsts.{Answers, first_cause, answers_weaker}
use Rattle.stack_faults.proofs.StepAnswers.{Meets, unless_step, ranged_step, found_step, try_step, last_step}
use Rattle.stack_faults.proofs.Names.{at_limit, one_more, count-map, seen, lacking, found_named}
use Rattle.stack_faults.proofs.Walks.{listed}
use Rattle.stack_faults.proofs.MaterialAnswers.{AreMaterialsOf, names_of}
use Rattle.stack_faults.proofs.Written.{outlined}
use Rattle.stack_faults.specs.AsListed.{IsBodyOf}

-- corners within their limits are crooked, or have an outline
outline_told : (i : ℕ) (ps : List Point) (o : Option (List Point)) → o ≡ Some ps
    → Answers (λ _. ⊤) (convex i ps) (only_if (is_crooked o) (NotConvex i (unclear_edge o)))
outline_told i ps o same = subst (λ o. Answers (λ _. ⊤) (convex i ps)
    (only_if (is_crooked o) (NotConvex i (unclear_edge o)))) (sym same)
    (go (is_convex ps) (is_convex (reversed ps)))
  where
    go : (s t : Bool) → Answers (λ _. ⊤) (at_block i (if s then Ok ps
        else (if t then Ok (reversed ps) else Err (first_failing (is_clear ps) (length ps)))))
        (only_if (not s && not t) (NotConvex i (first_failing (is_clear ps) (length ps))))
    go true t = (refl, tt)
    go false true = (refl, tt)
    go false false = refl

-- there is room for one more, or it is the first too many
abbrev room_causes : Bool → ℕ → ℕ → List (Bool × ModelError)
room_causes fixed m n = (fixed && m == most_fixed, TooMany whats.Fixed)
    ∷ (not fixed && n == most_free, TooMany whats.Free) ∷ []

room_told : (fixed : Bool) (bs : List NamedBody) → AreApart bs
    → Answers (λ _. HasRoom fixed bs) (has_room fixed bs)
    (first_cause (room_causes fixed (fixed_among bs) (free_among bs)))
room_told true bs h = go (nat_lt (fixed_among bs) most_fixed) refl
    (at_limit (fixed_among bs) most_fixed h.few_fixed)
  where
    go : (c : Bool) → nat_lt (fixed_among bs) most_fixed ≡ c → (fixed_among bs == most_fixed) ≡ not c
        → Answers (λ _. HasRoom true bs) (unless c (TooMany whats.Fixed))
        (first_cause (room_causes true (fixed_among bs) (free_among bs)))
    go true e t = (
      ap (λ b. or_else (only_if b (TooMany whats.Fixed)) None) t,
      ltb-true (fixed_among bs) most_fixed e,
    )
    go false e t = ap (λ b. or_else (only_if b (TooMany whats.Fixed)) None) t
room_told false bs h = go (nat_lt (free_among bs) most_free) refl
    (at_limit (free_among bs) most_free h.few_free)
  where
    go : (c : Bool) → nat_lt (free_among bs) most_free ≡ c → (free_among bs == most_free) ≡ not c
        → Answers (λ _. HasRoom false bs) (unless c (TooMany whats.Free))
        (first_cause (room_causes false (fixed_among bs) (free_among bs)))
    go true e t = (
      ap (λ b. or_else (only_if b (TooMany whats.Free)) None) t,
      ltb-true (free_among bs) most_free e,
    )
    go false e t = ap (λ b. or_else (only_if b (TooMany whats.Free)) None) t

-- what was collected has the names and the flags of these blocks, and keeps apart
pub record AreBodiesOf (written : List BlockPart) (bs : List NamedBody) : Type 0 where
  pub names : body_names bs ≡ map (λ (b : BlockPart). b.name) written
  pub flags : map (λ (b : NamedBody). b.fixed) bs ≡ map (λ (b : BlockPart). b.fixed) written
  pub apart : AreApart bs

counted : (p : Bool → Bool) (written : List BlockPart) (bs : List NamedBody) → AreBodiesOf written bs
    → count_by (λ (b : NamedBody). p b.fixed) bs ≡ count_by (λ (b : BlockPart). p b.fixed) written
counted p written bs h = count-map p (λ (b : NamedBody). b.fixed) bs ∙ ap (count_by p) h.flags
    ∙ sym (count-map p (λ (b : BlockPart). b.fixed) written)

room_written : (fixed : Bool) (written : List BlockPart) (bs : List NamedBody) → AreBodiesOf written bs
    → Answers (λ _. HasRoom fixed bs) (has_room fixed bs)
    (first_cause (room_causes fixed (fixed_written written) (free_written written)))
room_written fixed written bs h = subst (Answers (λ _. HasRoom fixed bs) (has_room fixed bs))
    (λ i. first_cause (room_causes fixed (counted (λ b. b) written bs h i) (counted not written bs h i)))
    (room_told fixed bs h.apart)

-- so many bodies were collected, and each is the body of its block
pub record Collected (parts : PartLists) (ms : List NamedMaterial) (written : List BlockPart) (n : ℕ)
    (bs : List NamedBody) : Type 0 where
  pub bodies : AreBodiesOf written bs
  pub count : length bs ≡ n
  pub each : (k : ℕ) → k < n → IsBodyOf ms (block_written parts k) (body_at bs k)

abbrev nobody : NamedBody
nobody = record { name = []; material = 0; fixed = true; corners = [] }

one_more_body_of : (parts : PartLists) (ms : List NamedMaterial) (bs : List NamedBody) (c : NamedBody) (i : ℕ)
    → length bs ≡ i → ((k : ℕ) → k < i → IsBodyOf ms (block_written parts k) (body_at bs k))
    → IsBodyOf ms (block_written parts i) c
    → (k : ℕ) → k < i + 1 → IsBodyOf ms (block_written parts k) (body_at (bs ++ c ∷ []) k)
one_more_body_of parts ms bs c i count each last =
    below_more (λ k. IsBodyOf ms (block_written parts k) (body_at (bs ++ c ∷ []) k)) i
    (λ k l. subst (IsBodyOf ms (block_written parts k))
    (sym (get_or_append_left bs (c ∷ []) nobody k (omega (arith, l, count)))) (each k l))
    (subst (IsBodyOf ms (block_written parts i)) (sym (get_or_push bs c nobody i count)) last)

new_body : (ms : List NamedMaterial) (b : BlockPart) (i : ℕ) (ps : List Point) (n : ℕ) (qs : List Point)
    → corner_list_of b.corners ≡ Some ps → number_of b.material (material_names ms) ≡ Some n → convex i ps ≡ Ok qs
    → IsBodyOf ms b (record { name = b.name; material = n; fixed = b.fixed; corners = qs })
new_body ms b i ps n qs h e k =
    let at = found_named (λ (m : NamedMaterial). m.name) b.material ms n _ e in
    record {
      name = refl;
      material = at.0;
      material_name = at.1;
      fixed = refl;
      points = ps;
      written = h;
      outline = outlined i ps qs k;
    }

-- what was collected, with the body of one block more
one_collected : (parts : PartLists) (ms : List NamedMaterial) (i : ℕ) (bs : List NamedBody) (c : NamedBody)
    → i < length parts.blocks → Collected parts ms (take i parts.blocks) i bs
    → IsBodyOf ms (block_written parts i) c → is_new c.name (body_names bs) ≡ true → HasRoom c.fixed bs
    → Collected parts ms (take (i + 1) parts.blocks) (i + 1) (bs ++ c ∷ [])
one_collected parts ms i bs c l h last new room = record {
  bodies = record {
    names = one_more (λ (b : NamedBody). b.name) (λ (b : BlockPart). b.name) bs c parts.blocks i _ l last.name
        h.bodies.names;
    flags = one_more (λ (b : NamedBody). b.fixed) (λ (b : BlockPart). b.fixed) bs c parts.blocks i _ l last.fixed
        h.bodies.flags;
    apart = one_more_body bs c new room h.bodies.apart;
  };
  count = length_push bs c ∙ ap (λ k. k + 1) h.count;
  each = one_more_body_of parts ms bs c i h.count h.each last;
}

one_told : (parts : PartLists) (ms : List NamedMaterial) → AreMaterialsOf parts.materials ms → (i : ℕ)
    (bs : List NamedBody) → i < length parts.blocks → Collected parts ms (take i parts.blocks) i bs
    → Meets (Collected parts ms (take (i + 1) parts.blocks) (i + 1)) (add_block ms i bs (block_written parts i))
    (causes_of_block parts i)
unfolding add_block with_body
one_told parts ms materials i bs l h = let b = block_written parts i in
    unless_step (is_name b.name) refl
    (λ _. ranged_step (corner_list_of b.corners)
    (λ ps corners. unless_step (is_new b.name (body_names bs))
    (seen (λ (b : BlockPart). b.name) b.name (take i parts.blocks) (body_names bs) h.bodies.names)
    (λ new. found_step (number_of b.material (material_names ms))
    (lacking (λ (m : MaterialPart). m.name) b.material parts.materials (material_names ms)
    (names_of parts.materials ms materials))
    (λ n number. try_step (convex i ps) (outline_told i ps (corner_list_of b.corners) corners)
    (λ qs outline. last_step (has_room b.fixed bs) _ (room_written b.fixed (take i parts.blocks) bs h.bodies)
    (one_collected parts ms i bs _ l h (new_body ms b i ps n qs corners number outline) new))))))

-- all blocks have their bodies
abbrev pub AreAll : PartLists → List NamedMaterial → List NamedBody → Type 0
AreAll parts ms bs = Collected parts ms parts.blocks (length parts.blocks) bs

pub blocks_told : (parts : PartLists) (ms : List NamedMaterial) → AreMaterialsOf parts.materials ms
    → Answers (AreAll parts ms) (steps (add_block ms) 0 [] parts.blocks)
    (earliest (faults_by (length parts.blocks) (causes_of_block parts)))
blocks_told parts ms materials =
    answers_weaker (Collected parts ms (take (length parts.blocks) parts.blocks) (length parts.blocks))
    (AreAll parts ms) _ _
    (λ bs h. subst (λ written. Collected parts ms written (length parts.blocks) bs)
    (take_all (length parts.blocks) parts.blocks (omega arith)) h)
    (listed (add_block ms) parts.blocks _ (λ i. Collected parts ms (take i parts.blocks) i) (causes_of_block parts)
    (λ i bs l h. (one_told parts ms materials i bs l h).answers) [] (record {
      bodies = record { names = refl; flags = refl; apart = no_bodies };
      count = refl;
      each = λ k l. absurd (omega (arith, l));
    }))
