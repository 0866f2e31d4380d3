-- What a table answers: its lists, and then each item of them.
use Rattle.std.proofs.Common.{◌≡◌, refl, sym, ap, ◌∙◌, ℕ, zero, suc, ◌+◌, Bool, true, false, List, [], ◌∷◌, length}
use Rattle.std.proofs.Common.{get_or, Option, Some, None, Result, Ok, Err, arith}
use Rattle.std.specs.Prelude.{is_none, if◌then◌else◌, option_and_then}
use Rattle.toml.specs.Data.{Data, array, table, Items, no_items, item, Members, no_members, get_member}
use Rattle.stack_algebra.specs.Steps.{◌>>=◌}
use Rattle.stack_algebra.specs.Search.{or_else, first}
use Rattle.stack_algebra.proofs.Search.{first_same}
use Rattle.stack_model.specs.declared.places.Spot.TheVariants as spots
use Rattle.stack_model.specs.declared.places.Key.{Key}
use Rattle.stack_model.specs.declared.places.Key.TheVariants as keys
use Rattle.stack_reader.specs.declared.errors.ReadError.{ReadError}
use Rattle.stack_reader.specs.declared.errors.ReadError.TheVariants.{Kind}
use Rattle.stack_reader.specs.Keys.{word_of}
use Rattle.stack_reader.specs.Forms.{are_tables, tables_of, in_form}
use Rattle.stack_reader.specs.Shape.{list_at, material_part, joint_part, block_part}
use Rattle.stack_reader.specs.Shape.{load_part, in_table, each_of, parts_of_document}
use Rattle.stack_faults.specs.FaultLists.{faults_where, earliest, answered_fault}
use Rattle.stack_faults.specs.TableFaults.{is_of_another_form, optional_key_faults}
use Rattle.stack_faults.specs.TableFaults.{joint_table_faults, material_table_faults, block_table_faults}
use Rattle.stack_faults.specs.TableFaults.{load_table_faults, tables_in, tables_or_none, tables_listed}
use Rattle.stack_faults.specs.TableFaults.{faults_of_tables, shape_faults}
use Rattle.stack_faults.proofs.Firsts.{Answers, answers_weaker, earliest-below, Told, Finds, all_told, step}
use Rattle.stack_faults.proofs.Firsts.{step_found, last}
use Rattle.stack_faults.proofs.ShapeAnswers.{head_told, material_told, joint_told, block_told, load_told}

or_none : {E : Type 0} (o : Option E) → or_else o None ≡ o
or_none (Some x) = refl
or_none None = refl

grouped : {E : Type 0} (a b c : Option E) → or_else (or_else a b) c ≡ or_else a (or_else b c)
grouped (Some x) b c = refl
grouped None b c = refl

-- the first of f, read from its front
first_front : {E : Type 0} (n : ℕ) (f : ℕ → Option E) → first (suc n) f ≡ or_else (f 0) (first n (λ k. f (suc k)))
first_front zero f = sym (or_none (f 0))
first_front (suc n) f = ap (λ o. or_else o (f (suc n))) (first_front n f)
    ∙ grouped (f 0) (first n (λ k. f (suc k))) (f (suc n))

module _ {A : Type 0} (part : ℕ → Members → Result A ReadError) (key : Key) (faults : ℕ → Members → List ReadError)
    (told : (i : ℕ) (ms : Members) → answered_fault (part i ms) ≡ earliest (faults i ms)) where
  -- the first fault of the tables, the first of which has this number
  abbrev front : ℕ → List Members → Option ReadError
  front i [] = None
  front i (ms ∷ rest) = or_else (earliest (faults i ms)) (front (i + 1) rest)

  each_front : (i : ℕ) (items : Items) → are_tables items ≡ true
      → answered_fault (each_of (in_table part key) i items) ≡ front i (tables_in items)
  unfolding each_of in_table
  each_front i no_items h = refl
  each_front i (item (table ms) rest) h = go (part i ms) (told i ms) (each_of (in_table part key) (i + 1) rest)
      (each_front (i + 1) rest h)
    where
      go : (r : Result A ReadError) → answered_fault r ≡ earliest (faults i ms) → (s : Result (List A) ReadError)
          → answered_fault s ≡ front (i + 1) (tables_in rest)
          → answered_fault (r >>= λ x. s >>= λ xs. Ok (x ∷ xs))
          ≡ or_else (earliest (faults i ms)) (front (i + 1) (tables_in rest))
      go (Err e) e1 s e2 = ap (λ o. or_else o (front (i + 1) (tables_in rest))) e1
      go (Ok x) e1 (Err e) e2 = λ z. or_else (e1 z) (e2 z)
      go (Ok x) e1 (Ok xs) e2 = λ z. or_else (e1 z) (e2 z)
  each_front i (item d rest) h = absurd cc

  front_first : (i : ℕ) (tables : List Members)
      → front i tables ≡ first (length tables) (λ k. earliest (faults (i + k) (get_or tables k no_members)))
  front_first i [] = refl
  front_first i (ms ∷ rest) =
      let here : i ≡ i + 0 = omega arith in
      (λ z. or_else (earliest (faults (here z) ms)) (front_first (i + 1) rest z))
      ∙ ap (or_else (earliest (faults (i + 0) ms)))
      (first_same (length rest) _ _ (λ k l. ap (λ j. earliest (faults j (get_or rest k no_members))) (next k)))
      ∙ sym (first_front (length rest) (λ k. earliest (faults (i + k) (get_or (ms ∷ rest) k no_members))))
    where
      next : (k : ℕ) → i + 1 + k ≡ i + suc k
      next k = omega arith

  pub each_told : (items : Items) → are_tables items ≡ true
      → answered_fault (each_of (in_table part key) 0 items) ≡ earliest (faults_of_tables faults (tables_in items))
  each_told items h =
      let tables = tables_in items in
      each_front 0 items h ∙ front_first 0 tables
      ∙ first_same (length tables) _ _
      (λ k l. ap (λ j. earliest (faults j (get_or tables k no_members))) (start k))
      ∙ sym (earliest-below (length tables) (λ k. faults k (get_or tables k no_members)))
    where
      start : (k : ℕ) → 0 + k ≡ k
      start k = omega arith

-- the items at a key of the top are all tables, and those that are listed
record AreListed (o : Option Items) (items : Items) : Type 0 where
  pub tables : are_tables items ≡ true
  pub listed : tables_in items ≡ tables_or_none o

list_told : (key : Key) (o : Option Data) → Answers (AreListed (option_and_then tables_of o)) (list_at key o)
    (earliest (faults_where ((is_of_another_form tables_of o, Kind spots.Top key) ∷ [])))
list_told key None = (refl, record { tables = refl; listed = refl })
list_told key (Some (array items)) = go (are_tables items) refl
  where
    go : (b : Bool) → are_tables items ≡ b → Answers (AreListed (if b then Some items else None))
        (in_form spots.Top key (if b then Some items else None))
        (earliest (faults_where ((is_none (if b then Some items else None), Kind spots.Top key) ∷ [])))
    go true e = (refl, record { tables = e; listed = refl })
    go false e = refl
list_told key (Some d) = refl

-- the tables at a key of the top, and then each of them
items_told : {A : Type 0} (part : ℕ → Members → Result A ReadError) (key : Key)
    (faults : ℕ → Members → List ReadError) → ((i : ℕ) (ms : Members) → Told (part i ms) (faults i ms))
    → (ms : Members)
    → Finds (λ items. Told (each_of (in_table part key) 0 items) (faults_of_tables faults (tables_listed key ms)))
    (list_at key (get_member (word_of key) ms)) (optional_key_faults tables_of spots.Top key ms)
items_told part key faults told ms = record {
  found = answers_weaker (AreListed (option_and_then tables_of (get_member (word_of key) ms))) _ _ _
      (λ items h. record {
        told = each_told part key faults (λ i ms. (told i ms).told) items h.tables
            ∙ ap (λ tables. earliest (faults_of_tables faults tables)) h.listed;
      })
      (list_told key (get_member (word_of key) ms));
}

parts_told : (ms : Members) → Told (parts_of_document ms) (shape_faults ms)
unfolding parts_of_document
parts_told ms = all_told (step (head_told ms)
    (λ _. step_found (items_told material_part keys.Material material_table_faults material_told ms)
    (λ _ materials. step_found (items_told joint_part keys.Joint joint_table_faults joint_told ms)
    (λ _ joints. step_found (items_told block_part keys.Block block_table_faults block_told ms)
    (λ _ blocks. step_found (items_told load_part keys.Load load_table_faults load_told ms)
    (λ _ loads. step materials (λ _. step joints (λ _. step blocks (λ _. last _ loads)))))))))

pub shape_told : (ms : Members) → answered_fault (parts_of_document ms) ≡ earliest (shape_faults ms)
shape_told ms = (parts_told ms).told
