-- The table of what a file lists: its keys in their order, every key of an item written, and every list with an item.
use Rattle.std.specs.Prelude.{ℕ, ℤ, pos, List, [], ◌∷◌, map, Option, Some, None, if◌then◌else◌}
use Rattle.std.specs.Ordering.{int_eq}
use Rattle.std.specs.Cmp.Lexicographic.{slice_cmp}
use Rattle.std.specs.Ordering.{nat_cmp, match_ordering}
use Rattle.toml.specs.Data.{Data, string, integer, boolean, array, table, Items, no_items, item, Members}
use Rattle.toml.specs.Data.{no_members, member}
use Rattle.toml.specs.View.{items_of}
use Rattle.stack_model.specs.declared.places.Key.{Key}
use Rattle.stack_model.specs.declared.places.Key.TheVariants as keys
use Rattle.stack_model.specs.Parts.{MaterialPart, JointPart, BlockPart, LoadPart, PartLists}
use Rattle.stack_reader.specs.Keys.{word_of}

-- the members with this value at this key
abbrev pub put_member : List ℕ → Data → Members → Members
put_member k d no_members = member k d no_members
put_member k d (member l e rest) =
    match_ordering (slice_cmp nat_cmp k l) (member k d (member l e rest)) (member l d rest)
    (member l e (put_member k d rest))

-- an array of whole numbers
abbrev pub wholes_data : List ℤ → Data
wholes_data zs = array (items_of (map integer zs))

-- an array of such arrays
abbrev pub lists_data : List (List ℤ) → Data
lists_data zss = array (items_of (map wholes_data zss))

-- the table of a material
abbrev pub material_data : MaterialPart → Members
material_data m =
    member (word_of keys.Friction) (wholes_data m.friction)
    (member (word_of keys.Name) (string m.name) (member (word_of keys.Weight) (integer m.weight) no_members))

-- the table of a joint
abbrev pub joint_data : JointPart → Members
joint_data j =
    member (word_of keys.First) (string j.first)
    (member (word_of keys.Friction) (wholes_data j.friction)
    (member (word_of keys.Second) (string j.second) no_members))

-- the table of a block
abbrev pub block_data : BlockPart → Members
block_data b =
    member (word_of keys.Corners) (lists_data b.corners)
    (member (word_of keys.Fixed) (boolean b.fixed)
    (member (word_of keys.Material) (string b.material)
    (member (word_of keys.Name) (string b.name) no_members)))

-- the table of a load
abbrev pub load_data : LoadPart → Members
load_data l =
    member (word_of keys.At) (wholes_data l.at)
    (member (word_of keys.Block) (string l.block)
    (member (word_of keys.Force) (wholes_data l.force) (member (word_of keys.Kind) (string l.kind) no_members)))

-- a list of tables
abbrev pub tables_data : {A : Type 0} → (A → Members) → List A → Items
tables_data members xs = items_of (map (λ x. table (members x)) xs)

-- the tables of a list at its key, in front of what follows; an empty list has no key, so that a table may be added
-- to the text
abbrev pub with_tables : {A : Type 0} → Key → (A → Members) → List A → Members → Members
with_tables key data_of [] rest = rest
with_tables key data_of (x ∷ xs) rest = member (word_of key) (array (tables_data data_of (x ∷ xs))) rest

-- the members with these tables at a key, unless there are none
abbrev pub put_tables : List ℕ → Items → Members → Members
put_tables word no_items ms = ms
put_tables word (item d rest) ms = put_member word (array (item d rest)) ms

-- the table of a whole file of version 1, which has no key `version`
abbrev pub first_data : PartLists → Members
first_data p =
    with_tables keys.Block block_data p.blocks
    (with_tables keys.Load load_data p.loads (with_tables keys.Material material_data p.materials no_members))

-- the sway, where one is listed, in front of what follows
abbrev pub with_sway : Option (List ℤ) → Members → Members
with_sway None rest = rest
with_sway (Some zs) rest = member (word_of keys.Sway) (wholes_data zs) rest

-- the version, and the sway where one is listed
abbrev pub head_data : PartLists → Members
head_data p = with_sway p.sway (member (word_of keys.Version) (integer p.version) no_members)

-- the table of a whole file of version 2
abbrev pub second_data : PartLists → Members
second_data p =
    with_tables keys.Block block_data p.blocks
    (with_tables keys.Joint joint_data p.joints
    (with_tables keys.Load load_data p.loads
    (with_tables keys.Material material_data p.materials (head_data p))))

-- the table of the whole file
abbrev pub parts_data : PartLists → Members
parts_data p = if int_eq p.version (pos 2) then second_data p else first_data p
