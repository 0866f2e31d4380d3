-- Tables and lists that are filled step by step.
use Rattle.std.proofs.Common.{◌≡◌, ℕ, ◌≤◌, List, [], ◌∷◌, map, take, length, String, Global}
use Rattle.std.proofs.Common.{Ordering, Less, Equal, Greater, string_bytes, refl, sym, ap, ◌∙◌}
use Rattle.std.proofs.lemmas.Simd.{map-map}
use Rattle.std.specs.String.{string_cmp}
use Rattle.std.specs.BTreeMap.{insert_entry}
use Rattle.std.specs.Ordering.{match_ordering}
use Rattle.toml.specs.Data.{Data, member}
use Rattle.toml.specs.declared.value.Value.{Value}
use Rattle.toml.specs.View.{view, items_of, items_view, members_view}
use Rattle.toml.proofs.Views.{Entry}
use Rattle.stack_model.proofs.Filled.{all as filled}
use Rattle.stack_reader.specs.Writing.{put_member}

put_at : (o : Ordering) (k : String Global) (v : Value) (e : Entry) (es : List Entry)
    → members_view (insert_entry string_cmp es k v) ≡ put_member (string_bytes k) (view v) (members_view es)
    → members_view (match_ordering o ((k, v) ∷ e ∷ es) ((e.0, v) ∷ es) (e ∷ insert_entry string_cmp es k v))
    ≡ match_ordering o (member (string_bytes k) (view v) (members_view (e ∷ es)))
    (member (string_bytes e.0) (view v) (members_view es))
    (member (string_bytes e.0) (view e.1) (put_member (string_bytes k) (view v) (members_view es)))
put_at Less k v e es ih = refl
put_at Equal k v e es ih = refl
put_at Greater k v e es ih = ap (λ ms. member (string_bytes e.0) (view e.1) ms) ih

is_put : (k : String Global) (v : Value) (es : List Entry)
    → members_view (insert_entry string_cmp es k v) ≡ put_member (string_bytes k) (view v) (members_view es)
is_put k v [] = refl
is_put k v (e ∷ es) = put_at (string_cmp k e.0) k v e es (is_put k v es)

-- a value that was put at the key with this word
pub was_put : (k : String Global) (v : Value) (word : List ℕ) (es : List Entry) → string_bytes k ≡ word
    → members_view (insert_entry string_cmp es k v) ≡ put_member word (view v) (members_view es)
was_put k v word es same = is_put k v es ∙ ap (λ w. put_member w (view v) (members_view es)) same

-- a list that a loop has filled has all values, each by way of g
pub all : {X Y : Type 0} (f : Y → Data) (g : X → Y) (vs : List Value) (xs : List X) {n : ℕ} (i : ℕ)
    → n ≡ length xs → n ≤ i → map view vs ≡ map (λ x. f (g x)) (take i xs) → items_view vs ≡ items_of (map f (map g xs))
all f g vs xs i same le h = ap items_of (filled view (λ x. f (g x)) vs xs i same le h ∙ sym (map-map f g xs))
