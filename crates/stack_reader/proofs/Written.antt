-- What is written is read back: the tables of items, and of the whole.
use Rattle.std.proofs.Common.{◌≡◌, ◌≢◌, ℕ, ◌+◌, ◌≤◌, ℤ, pos, Bool, true, false, List, [], ◌∷◌, map, Option, Some, None}
use Rattle.std.proofs.Common.{sym, ◌∙◌, Result, Ok, Err, option_map, refl, ap, arith, if◌then◌else◌}
use Rattle.toml.specs.Data.{Data, string, integer, boolean, array, Items, Members, no_members, member, get_member}
use Rattle.toml.specs.Data.{items_depth, members_depth}
use Rattle.toml.specs.View.{items_of}
use Rattle.stack_model.specs.declared.places.Key.{Key}
use Rattle.stack_model.specs.declared.places.Key.TheVariants as keys
use Rattle.stack_model.specs.Parts.{MaterialPart, JointPart, BlockPart, LoadPart, PartLists, IsOfVersion}
use Rattle.stack_model.specs.Limits.{is_version, with_first}
use Rattle.stack_model.proofs.Limited.{between}
use Rattle.std.specs.Ordering.{int_eq, nat_cmp, match_ordering}
use Rattle.std.specs.Cmp.Lexicographic.{slice_cmp}
use Rattle.std.specs.List.{list_any}
use Rattle.std.specs.Str.{bytes_eq}
use Rattle.stack_algebra.specs.Steps.{◌>>=◌}
use Rattle.stack_model.specs.declared.places.Spot.TheVariants as spots
use Rattle.stack_reader.specs.declared.errors.ReadError.TheVariants.{UnknownKey}
use Rattle.std.specs.Cmp.{signed_Decides}
use Rattle.std.proofs.lemmas.Int.{ints}
use Rattle.stack_algebra.specs.IntegerOrder.{◌≼◌}
use Rattle.stack_reader.specs.declared.errors.ReadError.{ReadError}
use Rattle.stack_reader.specs.Keys.{word_of, top_keys, first_top_keys}
use Rattle.stack_reader.specs.Forms.{wholes_of_items, lists_of_items, are_tables, has_only, known_only, in_form, field}
use Rattle.stack_reader.specs.Shape.{list_at, is_second, version_at, sway_at, material_part, joint_part, block_part}
use Rattle.stack_reader.specs.Shape.{load_part, in_table, each_of, head_of_document, parts_of_document}
use Rattle.stack_reader.specs.Writing.{with_tables, wholes_data, material_data, joint_data, block_data, first_data}
use Rattle.stack_reader.specs.Writing.{second_data, head_data, with_sway, load_data, tables_data, parts_data}

wholes_back : (zs : List ℤ) → wholes_of_items (items_of (map integer zs)) ≡ Some zs
wholes_back [] = refl
wholes_back (z ∷ zs) = ap (λ o. option_map (λ xs. z ∷ xs) o) (wholes_back zs)

lists_back : (zss : List (List ℤ)) → lists_of_items (items_of (map wholes_data zss)) ≡ Some zss
lists_back [] = refl
lists_back (zs ∷ zss) = λ i. with_first (wholes_back zs i) (lists_back zss i)

material_read : (i : ℕ) (m : MaterialPart) (friction : Items) → wholes_of_items friction ≡ Some m.friction
    → material_part i (member (word_of keys.Friction) (array friction)
    (member (word_of keys.Name) (string m.name)
    (member (word_of keys.Weight) (integer m.weight) no_members))) ≡ Ok m
unfolding material_part field
material_read i m friction h = rw h refl

material_back : (i : ℕ) (m : MaterialPart) → material_part i (material_data m) ≡ Ok m
material_back i m = material_read i m (items_of (map integer m.friction)) (wholes_back m.friction)

joint_read : (i : ℕ) (j : JointPart) (friction : Items) → wholes_of_items friction ≡ Some j.friction
    → joint_part i (member (word_of keys.First) (string j.first)
    (member (word_of keys.Friction) (array friction)
    (member (word_of keys.Second) (string j.second) no_members))) ≡ Ok j
unfolding joint_part field
joint_read i j friction h = rw h refl

joint_back : (i : ℕ) (j : JointPart) → joint_part i (joint_data j) ≡ Ok j
joint_back i j = joint_read i j (items_of (map integer j.friction)) (wholes_back j.friction)

block_read : (i : ℕ) (b : BlockPart) (corners : Items) → lists_of_items corners ≡ Some b.corners
    → block_part i (member (word_of keys.Corners) (array corners) (member (word_of keys.Fixed) (boolean b.fixed)
    (member (word_of keys.Material) (string b.material)
    (member (word_of keys.Name) (string b.name) no_members)))) ≡ Ok b
unfolding block_part field
block_read i b corners h = rw h refl

block_back : (i : ℕ) (b : BlockPart) → block_part i (block_data b) ≡ Ok b
block_back i b = block_read i b (items_of (map wholes_data b.corners)) (lists_back b.corners)

load_read : (i : ℕ) (l : LoadPart) (at force : Items) → wholes_of_items at ≡ Some l.at
    → wholes_of_items force ≡ Some l.force
    → load_part i (member (word_of keys.At) (array at) (member (word_of keys.Block) (string l.block)
    (member (word_of keys.Force) (array force) (member (word_of keys.Kind) (string l.kind) no_members)))) ≡ Ok l
unfolding load_part field
load_read i l at force h k = rw (h, k) refl

load_back : (i : ℕ) (l : LoadPart) → load_part i (load_data l) ≡ Ok l
load_back i l = load_read i l (items_of (map integer l.at)) (items_of (map integer l.force))
    (wholes_back l.at) (wholes_back l.force)

-- a list of tables
module _ {A : Type 0} (data_of : A → Members) where
  all_tables : (xs : List A) → are_tables (tables_data data_of xs) ≡ true
  all_tables [] = refl
  all_tables (x ∷ xs) = all_tables xs

  each_back : (part : ℕ → Members → Result A ReadError) (key : Key)
      → ((i : ℕ) (x : A) → part i (data_of x) ≡ Ok x)
      → (i : ℕ) (xs : List A) → each_of (in_table part key) i (tables_data data_of xs) ≡ Ok xs
  unfolding each_of in_table
  each_back part key back i [] = refl
  each_back part key back i (x ∷ xs) = rw (back i x, each_back part key back (i + 1) xs) refl

  tables_depth : (n : ℕ) → ((x : A) → members_depth (data_of x) ≤ n) → (xs : List A)
      → items_depth (tables_data data_of xs) ≤ n + 1
  tables_depth n h [] = omega arith
  tables_depth n h (x ∷ xs) = let one = h x in let rest = tables_depth n h xs in grind arith

-- a version that is known and isn't 2 is 1
is_first : (v : ℤ) → is_version v ≡ true → v ≢ pos 2 → v ≡ pos 1
is_first v h ne = let t = between (pos 1) (pos 2) v h in one v t.0 t.1 ne
  where
    one : (v : ℤ) → pos 1 ≼ v → v ≼ pos 2 → v ≢ pos 2 → v ≡ pos 1
    one v l m ne = omega (arith, ints, l, m, ne)

-- the tables of a list among other members
module _ {A : Type 0} (key : Key) (data_of : A → Members) where
  passed : (word : List ℕ) → ((r s : Option Data) → match_ordering (slice_cmp nat_cmp word (word_of key)) r s r ≡ r)
      → (xs : List A) (rest : Members) → get_member word (with_tables key data_of xs rest) ≡ get_member word rest
  passed word other [] rest = refl
  passed word other (x ∷ xs) rest =
      other (get_member word rest) (Some (array (tables_data data_of (x ∷ xs))))

  listed : ((r s : Option Data) → match_ordering (slice_cmp nat_cmp (word_of key) (word_of key)) r s r ≡ s)
      → (xs : List A) (rest : Members) → get_member (word_of key) rest ≡ None
      → list_at key (get_member (word_of key) (with_tables key data_of xs rest)) ≡ Ok (tables_data data_of xs)
  listed same [] rest none = ap (list_at key) none
  listed same (x ∷ xs) rest none =
      let items = tables_data data_of (x ∷ xs) in
      ap (list_at key) (same (get_member (word_of key) rest) (Some (array items)))
      ∙ ap (λ b. in_form spots.Top key (if b then Some items else None)) (all_tables data_of (x ∷ xs))

  only : (known : List Key) → list_any (λ k. bytes_eq (word_of k) (word_of key)) known ≡ true
      → (xs : List A) (rest : Members) → has_only known rest ≡ true
      → has_only known (with_tables key data_of xs rest) ≡ true
  only known e [] rest h = h
  only known e (x ∷ xs) rest h = ap (λ b. if b then has_only known rest else false) e ∙ h

  with_depth : ((x : A) → members_depth (data_of x) ≤ 2) → (xs : List A) (rest : Members) → members_depth rest ≤ 4
      → members_depth (with_tables key data_of xs rest) ≤ 4
  with_depth h [] rest k = k
  with_depth h (x ∷ xs) rest k = let ts = tables_depth data_of 2 h (x ∷ xs) in grind arith

head_runs : (ms : Members) (version sway : Option Data) (v : ℤ) (o : Option (List ℤ))
    → get_member (word_of keys.Version) ms ≡ version → get_member (word_of keys.Sway) ms ≡ sway
    → has_only (if is_second version then top_keys else first_top_keys) ms ≡ true
    → version_at version ≡ Ok v → sway_at sway ≡ Ok o → head_of_document ms ≡ Ok (v, o)
unfolding head_of_document
head_runs ms version sway v o hv hs known ev es =
    (λ i. known_only spots.Top (if is_second (hv i) then top_keys else first_top_keys) ms
    >>= λ _. version_at (hv i) >>= λ v. sway_at (hs i) >>= λ o. Ok (v, o))
    ∙ (λ i. (if known i then Ok tt else Err (UnknownKey spots.Top)) >>= λ _. ev i >>= λ v. es i >>= λ o. Ok (v, o))

-- what a document lists, step by step
module _ (ms : Members) (p : PartLists) where
  abbrev made : ℤ × Option (List ℤ) → List MaterialPart → List JointPart → List BlockPart → List LoadPart
      → Result PartLists ReadError
  made head materials joints blocks loads = Ok (record {
    version = head.0;
    sway = head.1;
    materials = materials;
    joints = joints;
    blocks = blocks;
    loads = loads;
  })

  document_runs : head_of_document ms ≡ Ok (p.version, p.sway)
      → list_at keys.Material (get_member (word_of keys.Material) ms) ≡ Ok (tables_data material_data p.materials)
      → list_at keys.Joint (get_member (word_of keys.Joint) ms) ≡ Ok (tables_data joint_data p.joints)
      → list_at keys.Block (get_member (word_of keys.Block) ms) ≡ Ok (tables_data block_data p.blocks)
      → list_at keys.Load (get_member (word_of keys.Load) ms) ≡ Ok (tables_data load_data p.loads)
      → parts_of_document ms ≡ Ok p
  unfolding parts_of_document
  document_runs head materials joints blocks loads =
      (λ i. head i >>= λ head. materials i >>= λ materials. joints i >>= λ joints. blocks i >>= λ blocks. loads i
      >>= λ loads. each_of (in_table material_part keys.Material) 0 materials
      >>= λ ms. each_of (in_table joint_part keys.Joint) 0 joints
      >>= λ js. each_of (in_table block_part keys.Block) 0 blocks
      >>= λ bs. each_of (in_table load_part keys.Load) 0 loads >>= λ ls. made head ms js bs ls)
      ∙ (λ i. each_back material_data material_part keys.Material material_back 0 p.materials i
      >>= λ ms. each_back joint_data joint_part keys.Joint joint_back 0 p.joints i
      >>= λ js. each_back block_data block_part keys.Block block_back 0 p.blocks i
      >>= λ bs. each_back load_data load_part keys.Load load_back 0 p.loads i
      >>= λ ls. made (p.version, p.sway) ms js bs ls)

-- a file of version 1
first_back : (p : PartLists) → p.version ≡ pos 1 → p.sway ≡ None → p.joints ≡ []
    → parts_of_document (first_data p) ≡ Ok p
first_back p version sway joints =
    let ms = with_tables keys.Material material_data p.materials no_members in
    let ls = with_tables keys.Load load_data p.loads ms in
    let under = λ (word : List ℕ)
    (b : (r s : Option Data) → match_ordering (slice_cmp nat_cmp word (word_of keys.Block)) r s r ≡ r)
    (l : (r s : Option Data) → match_ordering (slice_cmp nat_cmp word (word_of keys.Load)) r s r ≡ r)
    (m : (r s : Option Data) → match_ordering (slice_cmp nat_cmp word (word_of keys.Material)) r s r ≡ r).
    passed keys.Block block_data word b p.blocks ls ∙ passed keys.Load load_data word l p.loads ms
    ∙ passed keys.Material material_data word m p.materials no_members in
    document_runs (first_data p) p
    (head_runs (first_data p) None None p.version p.sway
    (under (word_of keys.Version) (λ r s. refl) (λ r s. refl) (λ r s. refl))
    (under (word_of keys.Sway) (λ r s. refl) (λ r s. refl) (λ r s. refl))
    (only keys.Block block_data first_top_keys refl p.blocks ls (only keys.Load load_data first_top_keys refl p.loads ms
    (only keys.Material material_data first_top_keys refl p.materials no_members refl)))
    (ap (λ (z : ℤ). Ok z) (sym version)) (ap (λ (o : Option (List ℤ)). Ok o) (sym sway)))
    (ap (list_at keys.Material) (passed keys.Block block_data (word_of keys.Material) (λ r s. refl) p.blocks ls
    ∙ passed keys.Load load_data (word_of keys.Material) (λ r s. refl) p.loads ms)
    ∙ listed keys.Material material_data (λ r s. refl) p.materials no_members refl)
    (ap (list_at keys.Joint) (under (word_of keys.Joint) (λ r s. refl) (λ r s. refl) (λ r s. refl))
    ∙ ap (λ js. Ok (tables_data joint_data js)) (sym joints))
    (listed keys.Block block_data (λ r s. refl) p.blocks ls
    (passed keys.Load load_data (word_of keys.Block) (λ r s. refl) p.loads ms
    ∙ passed keys.Material material_data (word_of keys.Block) (λ r s. refl) p.materials no_members))
    (ap (list_at keys.Load) (passed keys.Block block_data (word_of keys.Load) (λ r s. refl) p.blocks ls)
    ∙ listed keys.Load load_data (λ r s. refl) p.loads ms
    (passed keys.Material material_data (word_of keys.Load) (λ r s. refl) p.materials no_members))

-- the version and the sway at their keys, and none of the lists
record IsHeadData (v : ℤ) (o : Option (List ℤ)) (hs : Members) : Type 0 where
  pub version : get_member (word_of keys.Version) hs ≡ Some (integer v)
  pub sway_value : Option Data
  pub sway : get_member (word_of keys.Sway) hs ≡ sway_value
  pub sway_read : sway_at sway_value ≡ Ok o
  pub known : has_only top_keys hs ≡ true
  pub no_material : get_member (word_of keys.Material) hs ≡ None
  pub no_joint : get_member (word_of keys.Joint) hs ≡ None
  pub no_block : get_member (word_of keys.Block) hs ≡ None
  pub no_load : get_member (word_of keys.Load) hs ≡ None

is_head : (v : ℤ) (o : Option (List ℤ))
    → IsHeadData v o (with_sway o (member (word_of keys.Version) (integer v) no_members))
is_head v None = record {
  version = refl;
  sway_value = None;
  sway = refl;
  sway_read = refl;
  known = refl;
  no_material = refl;
  no_joint = refl;
  no_block = refl;
  no_load = refl;
}
is_head v (Some zs) = record {
  version = refl;
  sway_value = Some (wholes_data zs);
  sway = refl;
  sway_read = ap (λ o. in_form spots.Top keys.Sway (option_map (λ zs. Some zs) o)) (wholes_back zs);
  known = refl;
  no_material = refl;
  no_joint = refl;
  no_block = refl;
  no_load = refl;
}

-- a file of version 2
second_back : (p : PartLists) → int_eq p.version (pos 2) ≡ true → parts_of_document (second_data p) ≡ Ok p
second_back p e =
    let hs = head_data p in
    let h = is_head p.version p.sway in
    let ms = with_tables keys.Material material_data p.materials hs in
    let ls = with_tables keys.Load load_data p.loads ms in
    let js = with_tables keys.Joint joint_data p.joints ls in
    let under = λ (word : List ℕ)
    (b : (r s : Option Data) → match_ordering (slice_cmp nat_cmp word (word_of keys.Block)) r s r ≡ r)
    (j : (r s : Option Data) → match_ordering (slice_cmp nat_cmp word (word_of keys.Joint)) r s r ≡ r)
    (l : (r s : Option Data) → match_ordering (slice_cmp nat_cmp word (word_of keys.Load)) r s r ≡ r)
    (m : (r s : Option Data) → match_ordering (slice_cmp nat_cmp word (word_of keys.Material)) r s r ≡ r).
    passed keys.Block block_data word b p.blocks js ∙ passed keys.Joint joint_data word j p.joints ls
    ∙ passed keys.Load load_data word l p.loads ms ∙ passed keys.Material material_data word m p.materials hs in
    document_runs (second_data p) p
    (head_runs (second_data p) (Some (integer p.version)) h.sway_value p.version p.sway
    (under (word_of keys.Version) (λ r s. refl) (λ r s. refl) (λ r s. refl) (λ r s. refl) ∙ h.version)
    (under (word_of keys.Sway) (λ r s. refl) (λ r s. refl) (λ r s. refl) (λ r s. refl) ∙ h.sway)
    (ap (λ b. has_only (if b then top_keys else first_top_keys) (second_data p)) e
    ∙ only keys.Block block_data top_keys refl p.blocks js (only keys.Joint joint_data top_keys refl p.joints ls
    (only keys.Load load_data top_keys refl p.loads ms
    (only keys.Material material_data top_keys refl p.materials hs h.known)))) refl h.sway_read)
    (ap (list_at keys.Material) (passed keys.Block block_data (word_of keys.Material) (λ r s. refl) p.blocks js
    ∙ passed keys.Joint joint_data (word_of keys.Material) (λ r s. refl) p.joints ls
    ∙ passed keys.Load load_data (word_of keys.Material) (λ r s. refl) p.loads ms)
    ∙ listed keys.Material material_data (λ r s. refl) p.materials hs h.no_material)
    (ap (list_at keys.Joint) (passed keys.Block block_data (word_of keys.Joint) (λ r s. refl) p.blocks js)
    ∙ listed keys.Joint joint_data (λ r s. refl) p.joints ls
    (passed keys.Load load_data (word_of keys.Joint) (λ r s. refl) p.loads ms
    ∙ passed keys.Material material_data (word_of keys.Joint) (λ r s. refl) p.materials hs ∙ h.no_joint))
    (listed keys.Block block_data (λ r s. refl) p.blocks js
    (passed keys.Joint joint_data (word_of keys.Block) (λ r s. refl) p.joints ls
    ∙ passed keys.Load load_data (word_of keys.Block) (λ r s. refl) p.loads ms
    ∙ passed keys.Material material_data (word_of keys.Block) (λ r s. refl) p.materials hs ∙ h.no_block))
    (ap (list_at keys.Load) (passed keys.Block block_data (word_of keys.Load) (λ r s. refl) p.blocks js
    ∙ passed keys.Joint joint_data (word_of keys.Load) (λ r s. refl) p.joints ls)
    ∙ listed keys.Load load_data (λ r s. refl) p.loads ms
    (passed keys.Material material_data (word_of keys.Load) (λ r s. refl) p.materials hs ∙ h.no_load))

pub parts_back : (p : PartLists) → is_version p.version ≡ true → IsOfVersion p → parts_of_document (parts_data p) ≡ Ok p
parts_back p known h = go (int_eq p.version (pos 2)) refl
  where
    go : (b : Bool) → int_eq p.version (pos 2) ≡ b
        → parts_of_document (if b then second_data p else first_data p) ≡ Ok p
    go true e = second_back p e
    go false e =
        let ne : p.version ≢ pos 2 = λ s.
        let t : int_eq p.version (pos 2) ≡ true = (signed_Decides p.version (pos 2)).1 s in
        absurd (cc) in
        first_back p (is_first p.version known ne) (h.sway ne) (h.joints ne)

wholes_depth : (zs : List ℤ) → items_depth (items_of (map integer zs)) ≤ 0
wholes_depth [] = omega arith
wholes_depth (z ∷ zs) = let rest = wholes_depth zs in grind arith

lists_depth : (zss : List (List ℤ)) → items_depth (items_of (map wholes_data zss)) ≤ 1
lists_depth [] = omega arith
lists_depth (zs ∷ zss) = let one = wholes_depth zs in let rest = lists_depth zss in grind arith

material_depth : (m : MaterialPart) → members_depth (material_data m) ≤ 2
material_depth m = let one = wholes_depth m.friction in grind arith

joint_depth : (j : JointPart) → members_depth (joint_data j) ≤ 2
joint_depth j = let one = wholes_depth j.friction in grind arith

block_depth : (b : BlockPart) → members_depth (block_data b) ≤ 2
block_depth b = let one = lists_depth b.corners in grind arith

load_depth : (l : LoadPart) → members_depth (load_data l) ≤ 2
load_depth l = let one = wholes_depth l.at in let two = wholes_depth l.force in grind arith

first_depth : (p : PartLists) → members_depth (first_data p) ≤ 4
first_depth p =
    with_depth keys.Block block_data block_depth p.blocks _ (with_depth keys.Load load_data load_depth p.loads _
    (with_depth keys.Material material_data material_depth p.materials no_members (omega arith)))

head_depth : (v : ℤ) (o : Option (List ℤ)) →
    members_depth (with_sway o (member (word_of keys.Version) (integer v) no_members)) ≤ 1
head_depth v None = omega arith
head_depth v (Some zs) = let one = wholes_depth zs in grind arith

second_depth : (p : PartLists) → members_depth (second_data p) ≤ 4
second_depth p =
    let h = head_depth p.version p.sway in
    with_depth keys.Block block_data block_depth p.blocks _ (with_depth keys.Joint joint_data joint_depth p.joints _
    (with_depth keys.Load load_data load_depth p.loads _
    (with_depth keys.Material material_data material_depth p.materials (head_data p) (omega (arith, h)))))

pub parts_depth : (p : PartLists) → members_depth (parts_data p) ≤ 4
parts_depth p = go (int_eq p.version (pos 2))
  where
    go : (b : Bool) → members_depth (if b then second_data p else first_data p) ≤ 4
    go true = second_depth p
    go false = first_depth p
