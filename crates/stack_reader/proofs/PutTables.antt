-- Lists of tables that are put in front of what a table has already.
use Rattle.std.proofs.Common.{◌≡◌, ℕ, ℤ, false, List, [], ◌∷◌, length, Option, Some, None, Result, Ok, Err, refl, sym}
use Rattle.std.proofs.Common.{ap, ◌∙◌, ◌==◌, OnOk}
use Rattle.std.specs.Ordering.{nat_cmp, match_ordering}
use Rattle.std.specs.Cmp.Lexicographic.{slice_cmp}
use Rattle.toml.specs.Data.{Data, integer, array, Items, Members, no_members, member}
use Rattle.toml.specs.declared.value.Value.{Value}
use Rattle.toml.specs.View.{items_view}
use Rattle.stack_model.specs.declared.places.Key.{Key}
use Rattle.stack_model.specs.declared.places.Key.TheVariants as keys
use Rattle.stack_reader.specs.Keys.{word_of}
use Rattle.stack_reader.specs.Writing.{put_member, put_tables, tables_data, with_tables, with_sway}

-- of what holds where all went well, something else holds
pub on_ok : {A E : Type 0} (r : Result A E) (P Q : Type 0) → (P → Q) → OnOk r P → OnOk r Q
on_ok (Ok x) P Q f h = f h
on_ok (Err e) P Q f h = tt

-- a list with an item is put
pub put_full : (word : List ℕ) (vs : List Value) (ms : Members) (n : ℕ) → n ≡ length vs → (n == 0) ≡ false
    → put_member word (array (items_view vs)) ms ≡ put_tables word (items_view vs) ms
put_full word [] ms n e h = let t = sym (ap (λ k. k == 0) e) ∙ h in absurd (cc)
put_full word (v ∷ vs) ms n e h = refl

-- a value at this key comes in front of these members
abbrev pub Front : List ℕ → Members → Type 0
Front word ms = (d : Data) → put_member word d ms ≡ member word d ms

-- the key comes before another
abbrev pub Before : List ℕ → List ℕ → Type 0
Before word other = (a b c : Members) → match_ordering (slice_cmp nat_cmp word other) a b c ≡ a

pub front_head : (word : List ℕ) (v : ℤ) (o : Option (List ℤ)) → Before word (word_of keys.Version)
    → Before word (word_of keys.Sway)
    → Front word (with_sway o (member (word_of keys.Version) (integer v) no_members))
front_head word v None version sway = λ d. version _ _ _
front_head word v (Some zs) version sway = λ d. sway _ _ _

module _ {A : Type 0} (key : Key) (data_of : A → Members) where
  pub front_over : (word : List ℕ) (xs : List A) (rest : Members) → Before word (word_of key) → Front word rest
      → Front word (with_tables key data_of xs rest)
  front_over word [] rest before h = h
  front_over word (x ∷ xs) rest before h = λ d. before _ _ _

  at_front : (xs : List A) (rest : Members) → Front (word_of key) rest
      → put_tables (word_of key) (tables_data data_of xs) rest ≡ with_tables key data_of xs rest
  at_front [] rest front = refl
  at_front (x ∷ xs) rest front = front (array (tables_data data_of (x ∷ xs)))

  -- the tables of one list more
  pub next : (xs : List A) (t s r : Members) (items : Items) → t ≡ put_tables (word_of key) items s
      → items ≡ tables_data data_of xs → s ≡ r → Front (word_of key) r → t ≡ with_tables key data_of xs r
  next xs t s r items e h g front =
      e ∙ (λ i. put_tables (word_of key) (h i) (g i)) ∙ at_front xs r front
