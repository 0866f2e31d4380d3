-- What the run over the joints answers.
use Rattle.std.proofs.Common.{arith, take, ◌+◌, ◌≡◌, refl, sym, ap, ◌∙◌, ℕ, ◌<◌, Bool, true, false, not, ◌&&◌}
use Rattle.std.proofs.Common.{◌||◌, List, [], ◌∷◌, map, length, get_or, Option, Some, None, option_map}
use Rattle.std.proofs.Common.{is_none, find, nat_eq, cond}
use Rattle.std.specs.List.{list_any}
use Rattle.std.specs.Str.{bytes_eq}
use Rattle.std.proofs.lemmas.Int.{ints}
use Rattle.std.proofs.lemmas.Slice.Eq.{bytes_eq-Decides}
use Rattle.std.proofs.lemmas.List.{take_all}
use Rattle.stack_algebra.specs.Steps.{steps}
use Rattle.stack_model.specs.declared.types.Joint.{Joint}
use Rattle.stack_model.specs.Structure.{NamedMaterial, material_at, joins, joint_terms}
use Rattle.stack_model.specs.Parts.{MaterialPart, JointPart, PartLists}
use Rattle.stack_model.specs.Relisted.{joint_listed}
use Rattle.stack_model.proofs.Limited.{named}
use Rattle.stack_model.specs.Limits.{friction_of}
use Rattle.stack_model.specs.Content.{number_of, material_names, add_joint}
use Rattle.stack_faults.specs.FaultLists.{earliest}
use Rattle.stack_faults.specs.ContentFaults.{joint_written, names_the_same, lists_joint}
use Rattle.stack_faults.specs.ContentFaults.{causes_of_joint, faults_by}
use Rattle.stack_faults.proofs.Firsts.{Answers, answers_weaker}
use Rattle.stack_faults.proofs.StepAnswers.{Meets, ends, unless_step, ranged_step, both_step}
use Rattle.stack_faults.proofs.Names.{not_not, lacking, one_more, any-map, found_named}
use Rattle.stack_faults.proofs.Walks.{listed}
use Rattle.stack_faults.proofs.Written.{one_more_same, friction_back}
use Rattle.stack_faults.proofs.MaterialAnswers.{AreMaterialsOf, names_of}

-- nothing is found exactly where no item passes
none_passes : {A B : Type 0} (f : A → B) (p : A → Bool) (xs : List A)
    → is_none (option_map f (find p xs)) ≡ not (list_any p xs)
none_passes f p [] = refl
none_passes f p (x ∷ xs) = go (p x) (none_passes f p xs)
  where
    go : (b : Bool) → is_none (option_map f (find p xs)) ≡ not (list_any p xs)
        → is_none (option_map f (cond b (Some x) (find p xs))) ≡ not (b || list_any p xs)
    go true h = refl
    go false h = h

any_same : {A : Type 0} (p q : A → Bool) → ((x : A) → p x ≡ q x) → (xs : List A) → list_any p xs ≡ list_any q xs
any_same p q h [] = refl
any_same p q h (x ∷ xs) = λ i. h x i || any_same p q h xs i

-- a number that may be missing is this one
abbrev is_number : ℕ → Option ℕ → Bool
is_number n None = false
is_number n (Some m) = nat_eq m n

same_number : (n : ℕ) → nat_eq n n ≡ true
same_number n = grind (arith, ints)

one_number : (m n : ℕ) → nat_eq m n ≡ true → m ≡ n
one_number m n h = grind (arith, ints)

-- two names have one number exactly where they are the same, where one has it
name_same : (names : List (List ℕ)) (x y : List ℕ) (n : ℕ) → number_of y names ≡ Some n
    → is_number n (number_of x names) ≡ bytes_eq x y
name_same names x y n h = go (bytes_eq x y) refl
  where
    differ : (o : Option ℕ) → number_of x names ≡ o → bytes_eq x y ≡ false → is_number n o ≡ false
    differ None e f = refl
    differ (Some m) e f = test (nat_eq m n) refl
      where
        test : (b : Bool) → nat_eq m n ≡ b → nat_eq m n ≡ false
        test true t =
            let one : m ≡ n = one_number m n t in
            let same : x ≡ y = named x names m e ∙ ap (λ k. get_or names k []) one ∙ sym (named y names n h) in
            let u = (bytes_eq-Decides x y).1 same in absurd (cc)
        test false t = t

    go : (b : Bool) → bytes_eq x y ≡ b → is_number n (number_of x names) ≡ b
    go true e = ap (λ z. is_number n (number_of z names)) ((bytes_eq-Decides x y).0 e) ∙ ap (is_number n) h
        ∙ same_number n
    go false e = differ (number_of x names) refl e

abbrev numbers_of_joint : Joint → Option ℕ × Option ℕ
numbers_of_joint j = (Some j.first, Some j.second)

abbrev numbers_named : List (List ℕ) → JointPart → Option ℕ × Option ℕ
numbers_named names j = (number_of j.first names, number_of j.second names)

-- what was collected, listed again, are these joints, and their materials have the numbers of the names
pub record AreJointsOf (ms : List NamedMaterial) (written : List JointPart) (js : List Joint) : Type 0 where
  pub listed : map (joint_listed ms) js ≡ written
  pub numbered : map numbers_of_joint js ≡ map (numbers_named (material_names ms)) written

-- a joint between m and n isn't new exactly where one of the same two names is written
is_listed : (names : List (List ℕ)) (written : List JointPart) (js : List Joint)
    → map numbers_of_joint js ≡ map (numbers_named names) written → (j : JointPart) (m n : ℕ)
    → number_of j.first names ≡ Some m → number_of j.second names ≡ Some n
    → lists_joint j written ≡ not (is_none (joint_terms js m n))
is_listed names written js h j m n hm hn =
    let passes : Option ℕ × Option ℕ → Bool =
    λ x. (is_number m x.0 && is_number n x.1) || (is_number n x.0 && is_number m x.1) in
    any_same (λ k. names_the_same k j) (λ k. passes (numbers_named names k))
    (λ k i. (sym (name_same names k.first j.first m hm) i && sym (name_same names k.second j.second n hn) i)
    || (sym (name_same names k.first j.second n hn) i && sym (name_same names k.second j.first m hm) i)) written
    ∙ sym (any-map passes (numbers_named names) written) ∙ ap (list_any passes) (sym h)
    ∙ any-map passes numbers_of_joint js ∙ sym (not_not (list_any (λ k. joins k m n) js))
    ∙ ap not (sym (none_passes (λ (k : Joint). (k.p, k.q)) (λ k. joins k m n) js))

one_told : (parts : PartLists) (ms : List NamedMaterial) → AreMaterialsOf parts.materials ms → (i : ℕ) (js : List Joint)
    → i < length parts.joints → AreJointsOf ms (take i parts.joints) js
    → Meets (AreJointsOf ms (take (i + 1) parts.joints)) (add_joint ms i js (joint_written parts i))
    (causes_of_joint parts i)
unfolding add_joint
one_told parts ms h i js lt so_far =
    let j = joint_written parts i in
    let names = material_names ms in
    let lacks = λ (name : List ℕ). lacking (λ (m : MaterialPart). m.name) name parts.materials names
    (names_of parts.materials ms h) in
    let has_name : (name : List ℕ) (n : ℕ) → number_of name names ≡ Some n → (material_at ms n).name ≡ name =
    λ name n e. (found_named (λ (m : NamedMaterial). m.name) name ms n _ e).1 in
    ranged_step (friction_of j.friction)
    (λ f e. both_step _ _ (number_of j.first names) (number_of j.second names) (lacks j.first) (lacks j.second)
    (λ a b p q. unless_step (is_none (joint_terms js a b))
    (is_listed names (take i parts.joints) js so_far.numbered j a b p q)
    (λ _. ends (record {
      listed = one_more_same (joint_listed ms) js _ parts.joints i _ lt (λ z. record {
        first = has_name j.first a p z;
        second = has_name j.second b q z;
        friction = friction_back j.friction f e z;
      }) so_far.listed;
      numbered = one_more numbers_of_joint (numbers_named names) js _ parts.joints i _ lt
          (λ z. (sym p z, sym q z)) so_far.numbered;
    }))))

pub joints_told : (parts : PartLists) (ms : List NamedMaterial) → AreMaterialsOf parts.materials ms
    → Answers (λ js. map (joint_listed ms) js ≡ parts.joints) (steps (add_joint ms) 0 [] parts.joints)
    (earliest (faults_by (length parts.joints) (causes_of_joint parts)))
joints_told parts ms h =
    answers_weaker (AreJointsOf ms (take (length parts.joints) parts.joints))
    (λ js. map (joint_listed ms) js ≡ parts.joints)
    _ _ (λ js e. e.listed ∙ take_all (length parts.joints) parts.joints (omega arith))
    (listed (add_joint ms) parts.joints _ (λ i. AreJointsOf ms (take i parts.joints)) (causes_of_joint parts)
    (λ i js lt so_far. (one_told parts ms h i js lt so_far).answers) [] (record { listed = refl; numbered = refl }))
