-- A list that grows by one item a step: what each item has, and what the list keeps at each step.
use Rattle.std.proofs.Common.{◌≡◌, ℕ, zero, suc, ◌+◌, List, [], ◌∷◌, ◌++◌, length, Result, Ok, Err, refl}
use Rattle.std.proofs.Common.{ap, ◌∙◌, subst, arith, append_assoc}
use Rattle.std.proofs.lemmas.List.{append-nil}
use Rattle.std.specs.List.{All}
use Rattle.stack_algebra.specs.Steps.{◌>>=◌, steps}
use Rattle.stack_model.specs.declared.errors.ModelError.{ModelError}

-- a step that went well: its first part did, and so did the rest
pub went : {A B : Type 0} (r : Result A ModelError) (k : A → Result B ModelError) (y : B) → r >>= k ≡ Ok y
    → (x : A) × ((r ≡ Ok x) × (k x ≡ Ok y))
went (Ok x) k y h = (x, (refl, h))
went (Err e) k y h = absurd (cc)

-- one item was added
pub record Adds {X : Type 0} (Q : X → Type 0) (I : List X → Type 0) (xs ys : List X) : Type 0 where
  pub item : X
  pub is : xs ++ item ∷ [] ≡ ys
  pub keeps : Q item
  pub stays : I xs → I ys

-- so many were added
record Grows {X : Type 0} (Q : X → Type 0) (I : List X → Type 0) (n : ℕ) (xs ys : List X) : Type 0 where
  pub items : List X
  pub is : xs ++ items ≡ ys
  pub count : length items ≡ n
  pub keeps : All Q items
  pub stays : I xs → I ys

-- a list of so many that grew from none
pub record Grown {X : Type 0} (Q : X → Type 0) (I : List X → Type 0) (n : ℕ) (ys : List X) : Type 0 where
  pub count : length ys ≡ n
  pub keeps : All Q ys
  pub stays : I ys

none : {X : Type 0} (Q : X → Type 0) → All Q []
none Q k d lt = absurd (omega arith)

one_more : {X : Type 0} (Q : X → Type 0) (x : X) (xs : List X) → Q x → All Q xs → All Q (x ∷ xs)
one_more Q x xs h all zero d lt = h
one_more Q x xs h all (suc k) d lt = all k d (omega arith)

module _ {X P : Type 0} (f : ℕ → List X → P → Result (List X) ModelError) (Q : X → Type 0)
    (I : List X → Type 0) where
  grows : ((i : ℕ) (xs : List X) (p : P) (ys : List X) → f i xs p ≡ Ok ys → Adds Q I xs ys)
      → (i : ℕ) (xs : List X) (ps : List P) (ys : List X) → steps f i xs ps ≡ Ok ys
      → Grows Q I (length ps) xs ys
  grows adds i xs [] ys h =
      let same : xs ≡ ys = cc in
      record {
        items = [];
        is = append-nil xs ∙ same;
        count = refl;
        keeps = none Q;
        stays = subst I same;
      }
  grows adds i xs (p ∷ ps) ys h =
      let one = went (f i xs p) (λ b. steps f (i + 1) b ps) ys h in
      let a = adds i xs p one.0 one.1.0 in
      let rest = grows adds (i + 1) one.0 ps ys one.1.1 in
      let grouped : xs ++ a.item ∷ rest.items ≡ (xs ++ a.item ∷ []) ++ rest.items = simp append_assoc in
      record {
        items = a.item ∷ rest.items;
        is = grouped ∙ (ap (λ zs. zs ++ rest.items) a.is ∙ rest.is);
        count = ap suc rest.count;
        keeps = one_more Q a.item rest.items a.keeps rest.keeps;
        stays = λ h. rest.stays (a.stays h);
      }

  pub grown : ((i : ℕ) (xs : List X) (p : P) (ys : List X) → f i xs p ≡ Ok ys → Adds Q I xs ys)
      → I [] → (ps : List P) (ys : List X) → steps f 0 [] ps ≡ Ok ys → Grown Q I (length ps) ys
  grown adds start ps ys h =
      let g = grows adds 0 [] ps ys h in
      record {
        count = subst (λ zs. length zs ≡ length ps) g.is g.count;
        keeps = subst (All Q) g.is g.keeps;
        stays = g.stays start;
      }
