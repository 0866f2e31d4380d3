-- What the run over the loads answers.
use Rattle.std.proofs.Common.{arith, take, ◌+◌, ◌≡◌, refl, sym, ap, ◌∙◌, subst, ℕ, ◌<◌, true, List}
use Rattle.std.proofs.Common.{[], map, length, get_or, Some, find}
use Rattle.std.specs.Str.{bytes_eq}
use Rattle.std.proofs.lemmas.List.{get_or-map, length-map, take_all}
use Rattle.std.proofs.lemmas.List.Quantifiers.{position-Some}
use Rattle.stack_algebra.specs.Steps.{steps}
use Rattle.stack_model.specs.declared.types.Load.{Load}
use Rattle.stack_model.specs.Structure.{NamedBody, body_at}
use Rattle.stack_model.specs.Parts.{BlockPart, LoadPart, PartLists}
use Rattle.stack_model.specs.Relisted.{load_listed}
use Rattle.stack_model.specs.Limits.{live_of, point_of, force_of}
use Rattle.stack_model.specs.Content.{is_free, number_of, body_names, add_load}
use Rattle.stack_faults.specs.FaultLists.{earliest}
use Rattle.stack_faults.specs.ContentFaults.{load_written, is_fixed_block, names_fixed, causes_of_load}
use Rattle.stack_faults.specs.ContentFaults.{faults_by}
use Rattle.stack_faults.proofs.Firsts.{Answers, answers_weaker}
use Rattle.stack_faults.proofs.StepAnswers.{Meets, ends, unless_step, ranged_step, found_step}
use Rattle.stack_faults.proofs.Names.{not_not, lacking, find_first, found_named}
use Rattle.stack_faults.proofs.Walks.{listed}
use Rattle.stack_faults.proofs.Written.{one_more_same, point_back, kind_back, force_back}
use Rattle.stack_faults.proofs.BlockAnswers.{AreBodiesOf}

-- the first block of a name is fixed where the body of its number is
fixed_found : (written : List BlockPart) (bs : List NamedBody) → AreBodiesOf written bs → (name : List ℕ) (n : ℕ)
    → number_of name (body_names bs) ≡ Some n → names_fixed name written ≡ (body_at bs n).fixed
fixed_found written bs h name n e =
    let names = map (λ (b : BlockPart). b.name) written in
    let at : number_of name names ≡ Some n = ap (number_of name) (sym h.names) ∙ e in
    let p = position-Some (bytes_eq name) names n [] at in
    let d : BlockPart = record { name = []; material = []; fixed = true; corners = [] } in
    let few : n < length written = subst (λ m. n < m) (length-map written (λ (b : BlockPart). b.name)) p.0 in
    let same_length : length bs ≡ length written = sym (length-map bs (λ (b : NamedBody). b.fixed))
    ∙ ap length h.flags
    ∙ length-map written (λ (b : BlockPart). b.fixed) in
    let named : (k : ℕ) → k < length written → get_or names k [] ≡ (get_or written k d).name =
    λ k l. get_or-map (λ (b : BlockPart). b.name) written k d [] l in
    let first : find (λ (b : BlockPart). bytes_eq name b.name) written ≡ Some (get_or written n d) =
    find_first (λ (b : BlockPart). bytes_eq name b.name) written n d few
    (ap (bytes_eq name) (sym (named n few)) ∙ p.1)
    (λ k l. ap (bytes_eq name) (sym (named k (omega (arith, l, few)))) ∙ p.2 k l) in
    ap is_fixed_block first ∙ sym (get_or-map (λ (b : BlockPart). b.fixed) written n d true few)
    ∙ ap (λ fs. get_or fs n true) (sym h.flags)
    ∙ get_or-map (λ (b : NamedBody). b.fixed) bs n _ true (subst (λ m. n < m) (sym same_length) few)

-- what was collected, listed again, are these loads
abbrev pub AreLoadsOf : List NamedBody → List LoadPart → List Load → Type 0
AreLoadsOf bs written ls = map (load_listed bs) ls ≡ written

one_told : (parts : PartLists) (bs : List NamedBody) → AreBodiesOf parts.blocks bs → (i : ℕ) (ls : List Load)
    → i < length parts.loads → AreLoadsOf bs (take i parts.loads) ls
    → Meets (AreLoadsOf bs (take (i + 1) parts.loads)) (add_load bs i ls (load_written parts i))
    (causes_of_load parts i)
unfolding add_load
one_told parts bs h i ls lt so_far =
    let l = load_written parts i in
    let has_name : (n : ℕ) → number_of l.block (body_names bs) ≡ Some n → (body_at bs n).name ≡ l.block =
    λ n e. (found_named (λ (b : NamedBody). b.name) l.block bs n _ e).1 in
    ranged_step (live_of l.kind)
    (λ live a. ranged_step (point_of l.at)
    (λ c p. ranged_step (force_of l.force)
    (λ f q. found_step (number_of l.block (body_names bs))
    (lacking (λ (b : BlockPart). b.name) l.block parts.blocks (body_names bs) h.names)
    (λ n e. unless_step (is_free n bs)
    (fixed_found parts.blocks bs h l.block n e ∙ sym (not_not (body_at bs n).fixed))
    (λ _. ends (one_more_same (load_listed bs) ls _ parts.loads i _ lt (λ z. record {
      block = has_name n e z;
      kind = kind_back l.kind live a z;
      at = point_back l.at c p z;
      force = force_back l.force f q z;
    }) so_far))))))

pub loads_told : (parts : PartLists) (bs : List NamedBody) → AreBodiesOf parts.blocks bs
    → Answers (AreLoadsOf bs parts.loads) (steps (add_load bs) 0 [] parts.loads)
    (earliest (faults_by (length parts.loads) (causes_of_load parts)))
loads_told parts bs h =
    answers_weaker (AreLoadsOf bs (take (length parts.loads) parts.loads)) (AreLoadsOf bs parts.loads) _ _
    (λ ls e. e ∙ take_all (length parts.loads) parts.loads (omega arith))
    (listed (add_load bs) parts.loads _ (λ i. AreLoadsOf bs (take i parts.loads)) (causes_of_load parts)
    (λ i ls lt so_far. (one_told parts bs h i ls lt so_far).answers) [] refl)
