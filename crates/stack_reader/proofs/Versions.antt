-- A document lists joints and a sway in version 2 alone.
use Rattle.std.proofs.Common.{◌≡◌, ◌≢◌, refl, sym, ap, subst, ◌∙◌, ℕ, ℤ, pos, Bool, true, false, List, [], Option}
use Rattle.std.proofs.Common.{Some, None, Result, Ok, Err, Ordering, Less, Equal, Greater}
use Rattle.std.specs.Prelude.{if◌then◌else◌, ⊤}
use Rattle.std.specs.List.{list_any}
use Rattle.std.specs.Str.{bytes_eq}
use Rattle.std.specs.Ordering.{int_eq, nat_cmp, match_ordering}
use Rattle.std.specs.Cmp.{signed_Decides}
use Rattle.std.specs.Cmp.Lexicographic.{slice_cmp}
use Rattle.std.proofs.lemmas.Map.Lookups.{exact_bytes}
use Rattle.toml.specs.Data.{Data, Items, no_items, Members, no_members, member, get_member, as_integer}
use Rattle.stack_algebra.specs.Steps.{◌>>=◌}
use Rattle.stack_model.specs.declared.places.Key.{Key}
use Rattle.stack_model.specs.declared.places.Key.TheVariants as keys
use Rattle.stack_model.specs.declared.places.Spot.TheVariants as spots
use Rattle.stack_model.specs.Parts.{PartLists, JointPart, IsOfVersion}
use Rattle.stack_reader.specs.declared.errors.ReadError.{ReadError}
use Rattle.stack_reader.specs.declared.errors.ReadError.TheVariants.{UnknownKey}
use Rattle.stack_reader.specs.Keys.{word_of, top_keys, first_top_keys}
use Rattle.stack_reader.specs.Forms.{has_only, known_only, in_form}
use Rattle.stack_reader.specs.Shape.{is_two, is_second, known_at_top, version_at, sway_at, head_of_document, list_at}
use Rattle.stack_reader.specs.Shape.{in_table, material_part, joint_part, block_part, load_part, each_of}
use Rattle.stack_reader.specs.Shape.{parts_of_document}

abbrev ok_read : {A : Type 0} → A → Result A ReadError
ok_read x = Ok x

-- a step that went well: its first part did, and so did the rest
went : {A B : Type 0} (r : Result A ReadError) (k : A → Result B ReadError) (y : B) → r >>= k ≡ Ok y
    → (x : A) × ((r ≡ Ok x) × (k x ≡ Ok y))
went (Ok x) k y h = (x, (refl, h))
went (Err e) k y h = absurd (cc)

same_ok : {A : Type 0} (x y : A) → ok_read x ≡ Ok y → x ≡ y
same_ok x y h = cc

-- a key that isn't among the known ones is missing
missing : (word : List ℕ) (known : List Key) → list_any (λ key. bytes_eq (word_of key) word) known ≡ false
    → (ms : Members) → has_only known ms ≡ true → get_member word ms ≡ None
missing word known none no_members h = refl
missing word known none (member l d rest) h =
    go (list_any (λ key. bytes_eq (word_of key) l) known) refl h (missing word known none rest)
  where
    by : (o : Ordering) → slice_cmp nat_cmp word l ≡ o → list_any (λ key. bytes_eq (word_of key) l) known ≡ true
        → get_member word rest ≡ None
        → match_ordering o (get_member word rest) (Some d) (get_member word rest) ≡ None
    by Less e f g = g
    by Greater e f g = g
    by Equal e f g =
        let same : word ≡ l = exact_bytes word l e in
        let t = ap (λ w. list_any (λ key. bytes_eq (word_of key) w) known) same in absurd (cc)

    go : (b : Bool) → list_any (λ key. bytes_eq (word_of key) l) known ≡ b
        → (if b then has_only known rest else false) ≡ true → (has_only known rest ≡ true → get_member word rest ≡ None)
        → match_ordering (slice_cmp nat_cmp word l) (get_member word rest) (Some d) (get_member word rest) ≡ None
    go true e h rest = by (slice_cmp nat_cmp word l) refl e (rest h)
    go false e h rest = absurd (cc)

not_second : (o : Option Data) (v : ℤ) → version_at o ≡ Ok v → v ≢ pos 2 → is_second o ≡ false
not_second None v h ne = refl
not_second (Some d) v h ne = go (as_integer d) h
  where
    test : (z : ℤ) (b : Bool) → int_eq z (pos 2) ≡ b → z ≡ v → int_eq z (pos 2) ≡ false
    test z true e same = absurd (ne (sym same ∙ (signed_Decides z (pos 2)).0 e))
    test z false e same = e

    go : (o : Option ℤ) → in_form spots.Top keys.Version o ≡ Ok v → is_two o ≡ false
    go None h = refl
    go (Some z) h = let same : z ≡ v = cc in test z (int_eq z (pos 2)) refl same

known : (ms : Members) (known : List Key) (x : ⊤) → known_only spots.Top known ms ≡ Ok x → has_only known ms ≡ true
known ms ks x h = go (has_only ks ms) refl h
  where
    ok : Result ⊤ ReadError
    ok = Ok tt

    go : (b : Bool) → has_only ks ms ≡ b → (if b then ok else Err (UnknownKey spots.Top)) ≡ Ok x → has_only ks ms ≡ true
    go true e h = e
    go false e h = absurd (cc)

-- the keys at the top of a file of another version
first_known : (ms : Members) (v : ℤ) (x : ⊤) → known_only spots.Top (known_at_top ms) ms ≡ Ok x
    → version_at (get_member (word_of keys.Version) ms) ≡ Ok v → v ≢ pos 2 → has_only first_top_keys ms ≡ true
first_known ms v x h version ne = known ms first_top_keys x
    (subst (λ b. known_only spots.Top (if b then top_keys else first_top_keys) ms ≡ Ok x)
    (not_second (get_member (word_of keys.Version) ms) v version ne) h)

no_sway : (o : Option Data) (s : Option (List ℤ)) → sway_at o ≡ Ok s → o ≡ None → s ≡ None
no_sway o s h e = let t : sway_at None ≡ Ok s = ap sway_at (sym e) ∙ h in plain t
  where
    plain : sway_at None ≡ Ok s → s ≡ None
    plain t = cc

no_items_at : (o : Option Data) (items : Items) → list_at keys.Joint o ≡ Ok items → o ≡ None → items ≡ no_items
no_items_at o items h e = plain (ap (list_at keys.Joint) (sym e) ∙ h)
  where
    plain : list_at keys.Joint None ≡ Ok items → items ≡ no_items
    plain t = cc

no_joints : (items : Items) (js : List JointPart) → each_of (in_table joint_part keys.Joint) 0 items ≡ Ok js
    → items ≡ no_items → js ≡ []
unfolding each_of
no_joints items js h e = plain (ap (each_of (in_table joint_part keys.Joint) 0) (sym e) ∙ h)
  where
    plain : each_of (in_table joint_part keys.Joint) 0 no_items ≡ Ok js → js ≡ []
    plain t = cc

pub of_version : (ms : Members) (p : PartLists) → parts_of_document ms ≡ Ok p → IsOfVersion p
unfolding parts_of_document head_of_document
of_version ms p e =
    let head = went (head_of_document ms) _ p e in
    let top = went (known_only spots.Top (known_at_top ms) ms) _ head.0 head.1.0 in
    let version = went (version_at (get_member (word_of keys.Version) ms)) _ head.0 top.1.1 in
    let sway = went (sway_at (get_member (word_of keys.Sway) ms)) _ head.0 version.1.1 in
    let materials = went (list_at keys.Material (get_member (word_of keys.Material) ms)) _ p head.1.1 in
    let joints = went (list_at keys.Joint (get_member (word_of keys.Joint) ms)) _ p materials.1.1 in
    let blocks = went (list_at keys.Block (get_member (word_of keys.Block) ms)) _ p joints.1.1 in
    let loads = went (list_at keys.Load (get_member (word_of keys.Load) ms)) _ p blocks.1.1 in
    let material_parts = went (each_of (in_table material_part keys.Material) 0 materials.0) _ p loads.1.1 in
    let joint_parts = went (each_of (in_table joint_part keys.Joint) 0 joints.0) _ p material_parts.1.1 in
    let block_parts = went (each_of (in_table block_part keys.Block) 0 blocks.0) _ p joint_parts.1.1 in
    let load_parts = went (each_of (in_table load_part keys.Load) 0 loads.0) _ p block_parts.1.1 in
    let whole = same_ok _ p load_parts.1.1 in
    let told = same_ok (version.0, sway.0) head.0 sway.1.1 in
    let is_version : version.0 ≡ p.version = (λ z. (told z).0) ∙ (λ z. (whole z).version) in
    let is_sway : sway.0 ≡ p.sway = (λ z. (told z).1) ∙ (λ z. (whole z).sway) in
    let is_joints : joint_parts.0 ≡ p.joints = λ z. (whole z).joints in
    record {
      joints = λ ne. sym is_joints ∙ no_joints joints.0 joint_parts.0 joint_parts.1.0
          (no_items_at _ joints.0 joints.1.0 (missing (word_of keys.Joint) first_top_keys refl ms
          (first_known ms version.0 top.0 top.1.0 version.1.0 (λ e. ne (sym is_version ∙ e)))));
      sway = λ ne. sym is_sway ∙ no_sway _ sway.0 sway.1.0 (missing (word_of keys.Sway) first_top_keys refl ms
          (first_known ms version.0 top.0 top.1.0 version.1.0 (λ e. ne (sym is_version ∙ e))));
    }
