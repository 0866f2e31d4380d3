-- Joints that are each between materials which no earlier one is between are between different pairs.
use Rattle.std.proofs.Common.{◌≡◌, refl, sym, ap, ◌∙◌, subst, ℕ, zero, suc, ◌<◌, ◌≤◌, Bool, true, false, inl, inr}
use Rattle.std.proofs.Common.{Option, Some, None, option_map, List, [], ◌∷◌, ◌++◌, length, get_or, find, arith, is_none}
use Rattle.std.proofs.Common.{cond, IfSome, nat_eq, ◌&&◌, ◌||◌, ℤ}
use Rattle.std.proofs.lemmas.Bool.{cases_lt}
use Rattle.std.proofs.lemmas.Int.{ints}
use Rattle.stack_algebra.proofs.Conjunctions.{both_true}
use Rattle.std.proofs.lemmas.List.{length-append, get_or_append_left}
use Rattle.std.proofs.Math.Seq.{get_or-append_seam}
use Rattle.stack_model.specs.declared.types.Joint.{Joint}
use Rattle.stack_model.specs.Structure.{joins, joint_at, joint_terms, AreTermsBetween, AreTerms, HasJointLimits}
use Rattle.stack_model.specs.JointLaws.{TermsInEitherOrder, JointsHaveTheirTerms}
use Rattle.stack_model.specs.Sound.{AreOfDifferentPairs}

pub no_joints : AreOfDifferentPairs []
no_joints i j lt within = absurd (omega arith)

-- none is found where none is
found_none : {A B : Type 0} (f : A → B) (o : Option A) → is_none (option_map f o) ≡ true → o ≡ None
found_none f None h = refl
found_none f (Some x) h = absurd (cc)

none_before : {A : Type 0} (p : A → Bool) (xs : List A) (i : ℕ) (d : A) → find p xs ≡ None → i < length xs
    → p (get_or xs i d) ≡ false
none_before p [] i d h lt = absurd (omega arith)
none_before {A} p (x ∷ xs) i d h lt = go (p x) refl i lt h (none_before p xs)
  where
    go : (b : Bool) → p x ≡ b → (i : ℕ) → i < suc (length xs) → find p (x ∷ xs) ≡ None
        → ((i : ℕ) (d : A) → find p xs ≡ None → i < length xs → p (get_or xs i d) ≡ false)
        → p (get_or (x ∷ xs) i d) ≡ false
    go true e i lt h rest = let t : Some x ≡ None = sym (ap (λ b. cond b (Some x) (find p xs)) e) ∙ h in absurd (cc)
    go false e zero lt h rest = e
    go false e (suc i) lt h rest = rest i d (sym (ap (λ b. cond b (Some x) (find p xs)) e) ∙ h) (omega (arith, lt))

pub one_more_joint : (js : List Joint) (j : Joint) → is_none (joint_terms js j.first j.second) ≡ true
    → AreOfDifferentPairs js → AreOfDifferentPairs (js ++ j ∷ [])
one_more_joint js j new different a b lt within = elim (cases_lt b (length js)) [
  | inl earlier ↦ (λ i. joins (left a (omega (arith, lt, earlier)) i) (left b earlier i).first
      (left b earlier i).second)
      ∙ different a b lt earlier
  | inr last ↦ (λ i. joins (left a (before last) i) (at_end b (end last) i).first (at_end b (end last) i).second)
      ∙ none_before (λ k. joins k j.first j.second) js a _
      (found_none (λ (k : Joint). (k.p, k.q)) (find (λ k. joins k j.first j.second) js) new) (before last)
]
  where
    left : (k : ℕ) → k < length js → joint_at (js ++ j ∷ []) k ≡ joint_at js k
    left k l = get_or_append_left js (j ∷ []) _ k l

    at_end : (k : ℕ) → k ≡ length js → joint_at (js ++ j ∷ []) k ≡ j
    at_end k e = subst (λ n. joint_at (js ++ j ∷ []) n ≡ j) (sym e) (get_or-append_seam js j [] _)

    before : length js ≤ b → a < length js
    before last = omega (arith, lt, within, length-append js (j ∷ []), last)

    end : length js ≤ b → b ≡ length js
    end last = omega (arith, within, length-append js (j ∷ []), last)

-- what is found is a listed joint, and where nothing is found no joint is between the two
pub terms_between : (js : List Joint) (a b : ℕ) → AreTermsBetween js a b (joint_terms js a b)
terms_between [] a b = λ i lt. absurd (omega (arith, lt))
terms_between (j ∷ js) a b = go (joins j a b) refl (terms_between js a b)
  where
    later : (o : Option (ℤ × ℤ)) → joins j a b ≡ false → AreTermsBetween js a b o → AreTermsBetween (j ∷ js) a b o
    later None e h = none
      where
        none : (i : ℕ) → i < suc (length js) → joins (joint_at (j ∷ js) i) a b ≡ false
        none zero lt = e
        none (suc i) lt = h i (omega (arith, lt))
    later (Some t) e h = (suc h.0, (omega (arith, h.1.0), h.1.1, h.1.2))

    go : (t : Bool) → joins j a b ≡ t → AreTermsBetween js a b (joint_terms js a b)
        → AreTermsBetween (j ∷ js) a b (joint_terms (j ∷ js) a b)
    go true e h = subst (AreTermsBetween (j ∷ js) a b)
        (sym (ap (λ t. option_map (λ (k : Joint). (k.p, k.q)) (cond t (Some j) (find (λ k. joins k a b) js))) e))
        (0, (omega arith, e, refl))
    go false e h = subst (AreTermsBetween (j ∷ js) a b)
        (sym (ap (λ t. option_map (λ (k : Joint). (k.p, k.q)) (cond t (Some j) (find (λ k. joins k a b) js))) e))
        (later (joint_terms js a b) e h)

-- no joint in front of one of different pairs is between its materials
pub is_new_pair : (before : List Joint) (x : Joint) (after : List Joint) → AreOfDifferentPairs (before ++ x ∷ after)
    → is_none (joint_terms before x.first x.second) ≡ true
is_new_pair before x after different = go (joint_terms before x.first x.second) (terms_between before x.first x.second)
  where
    within : (js : List Joint) → length js < length (js ++ x ∷ after)
    within [] = omega arith
    within (j ∷ js) = let r = within js in omega (arith, r)

    go : (o : Option (ℤ × ℤ)) → AreTermsBetween before x.first x.second o → is_none o ≡ true
    go None h = refl
    go (Some t) h =
        let left : joint_at (before ++ x ∷ after) h.0 ≡ joint_at before h.0 =
        get_or_append_left before (x ∷ after) _ h.0 h.1.0 in
        let here : joint_at (before ++ x ∷ after) (length before) ≡ x = get_or-append_seam before x after _ in
        let no : joins (joint_at before h.0) x.first x.second ≡ false =
        sym (λ i. joins (left i) (here i).first (here i).second)
        ∙ different h.0 (length before) h.1.0 (within before) in
        absurd (cc)

-- terms of a joint are within the limits, where each joint is
pub terms_limits : (js : List Joint) (a b n : ℕ) → ((i : ℕ) → i < length js → HasJointLimits n (joint_at js i))
    → (o : Option (ℤ × ℤ)) → AreTermsBetween js a b o → IfSome o (λ t. AreTerms t)
terms_limits js a b n all None h = tt
terms_limits js a b n all (Some t) h =
    let j = all h.0 h.1.0 in
    subst AreTerms (sym h.1.2)
    (record { least_p = j.least_p; most_p = j.most_p; least_q = j.least_q; most_q = j.most_q })

-- the order of the two materials doesn't matter
either : (j : Joint) (a b : ℕ) → joins j a b ≡ joins j b a
either j a b = swap (nat_eq j.first a && nat_eq j.second b) (nat_eq j.first b && nat_eq j.second a)
  where
    swap : (s t : Bool) → (s || t) ≡ (t || s)
    swap true true = refl
    swap true false = refl
    swap false true = refl
    swap false false = refl

find_same : {A : Type 0} (p q : A → Bool) → ((x : A) → p x ≡ q x) → (xs : List A) → find p xs ≡ find q xs
find_same p q h [] = refl
find_same p q h (x ∷ xs) = λ i. cond (h x i) (Some x) (find_same p q h xs i)

pub in_either_order : TermsInEitherOrder
in_either_order js a b = ap (option_map (λ (j : Joint). (j.p, j.q)))
    (find_same (λ j. joins j a b) (λ j. joins j b a) (λ j. either j a b) js)

-- of two listed joints between the same two materials neither is earlier
joins_both : (j k : Joint) (a b : ℕ) → joins j a b ≡ true → joins k a b ≡ true → joins j k.first k.second ≡ true
joins_both j k a b h l = go (nat_eq k.first a && nat_eq k.second b) (nat_eq k.first b && nat_eq k.second a) refl refl l
  where
    one : (m n : ℕ) → nat_eq m n ≡ true → m ≡ n
    one m n h = grind (arith, ints)

    go : (s t : Bool) → (nat_eq k.first a && nat_eq k.second b) ≡ s → (nat_eq k.first b && nat_eq k.second a) ≡ t
        → (s || t) ≡ true → joins j k.first k.second ≡ true
    go true t e f h' =
        let p = both_true (nat_eq k.first a) (nat_eq k.second b) e in
        (λ i. joins j (one k.first a p.0 i) (one k.second b p.1 i)) ∙ h
    go false true e f h' =
        let p = both_true (nat_eq k.first b) (nat_eq k.second a) f in
        (λ i. joins j (one k.first b p.0 i) (one k.second a p.1 i)) ∙ either j b a ∙ h
    go false false e f h' = absurd (cc)

pub joints_have_their_terms : JointsHaveTheirTerms
joints_have_their_terms js a b i different lt h = go (joint_terms js a b) (terms_between js a b)
  where
    same : (k : ℕ) → k < length js → joins (joint_at js k) a b ≡ true → k ≡ i
    same k l g = elim (cases_lt k i) [
      | inl less ↦ let t = joins_both (joint_at js k) (joint_at js i) a b g h in
          let u = different k i less lt in absurd (cc)
      | inr more ↦ elim (cases_lt i k) [
        | inl less ↦ let t = joins_both (joint_at js i) (joint_at js k) a b h g in
            let u = different i k less l in absurd (cc)
        | inr less ↦ omega (arith, more, less)
      ]
    ]

    go : (o : Option (ℤ × ℤ)) → AreTermsBetween js a b o → o ≡ Some ((joint_at js i).p, (joint_at js i).q)
    go None none = let t = none i lt in absurd (cc)
    go (Some t) some = ap (λ (z : ℤ × ℤ). Some z) (some.1.2
        ∙ (λ x. ((joint_at js (same some.0 some.1.0 some.1.1 x)).p, (joint_at js (same some.0 some.1.0 some.1.1 x)).q)))
