-- The shape of a document: what its table lists, or the first fault of shape in one order. An unknown key at
-- the top comes first, then the forms of the version, the sway and the lists, then each material, each joint, each
-- block and each load in the order of the file; in an item an unknown key comes first, and then the keys one by one.
use Rattle.std.specs.Prelude.{ℕ, ◌+◌, ℤ, pos, Bool, false, List, [], ◌∷◌, Option, Some, None, option_map, Result, Ok}
use Rattle.std.specs.Prelude.{Err, if◌then◌else◌}
use Rattle.std.specs.Ordering.{int_eq}
use Rattle.toml.specs.Data.{Data, table, Items, no_items, item, Members, get_member, as_str, as_integer}
use Rattle.stack_algebra.specs.Steps.{◌>>=◌}
use Rattle.stack_model.specs.declared.places.Spot.TheVariants as spots
use Rattle.stack_model.specs.declared.places.Key.{Key}
use Rattle.stack_model.specs.declared.places.Key.TheVariants as keys
use Rattle.stack_reader.specs.declared.errors.ReadError.{ReadError}
use Rattle.stack_reader.specs.declared.errors.ReadError.TheVariants.{Kind}
use Rattle.stack_reader.specs.Keys.{word_of, top_keys, first_top_keys, material_keys, joint_keys, block_keys}
use Rattle.stack_reader.specs.Keys.{load_keys}
use Rattle.stack_model.specs.Parts.{MaterialPart, JointPart, BlockPart, LoadPart, PartLists}
use Rattle.stack_reader.specs.Forms.{wholes_of, lists_of, tables_of, known_only, in_form, field, truth_at}

-- a whole number that is 2
abbrev pub is_two : Option ℤ → Bool
is_two None = false
is_two (Some z) = int_eq z (pos 2)

-- the version is the whole number 2
abbrev pub is_second : Option Data → Bool
is_second None = false
is_second (Some d) = is_two (as_integer d)

-- the keys that the top may have
abbrev pub known_at_top : Members → List Key
known_at_top ms = if is_second (get_member (word_of keys.Version) ms) then top_keys else first_top_keys

-- the version at its key, 1 where the key is missing
abbrev pub version_at : Option Data → Result ℤ ReadError
version_at None = Ok (pos 1)
version_at (Some d) = in_form spots.Top keys.Version (as_integer d)

-- the numbers of the sway at its key
abbrev pub sway_at : Option Data → Result (Option (List ℤ)) ReadError
sway_at None = Ok None
sway_at (Some d) = in_form spots.Top keys.Sway (option_map (λ zs. Some zs) (wholes_of d))

-- the version and the sway, where the top has no unknown key
unfoldable pub head_of_document : Members → Result (ℤ × Option (List ℤ)) ReadError
head_of_document ms = do
  known ← known_only spots.Top (known_at_top ms) ms
  version ← version_at (get_member (word_of keys.Version) ms)
  sway ← sway_at (get_member (word_of keys.Sway) ms)
  Ok (version, sway)

-- the tables at a key of the top; a missing key stands for none
abbrev pub list_at : Key → Option Data → Result Items ReadError
list_at key None = Ok no_items
list_at key (Some d) = in_form spots.Top key (tables_of d)

-- what the table of material i says, or its first fault of shape
unfoldable pub material_part : ℕ → Members → Result MaterialPart ReadError
material_part i ms = do
  known ← known_only (spots.Material i) material_keys ms
  name ← field as_str (spots.Material i) keys.Name ms
  weight ← field as_integer (spots.Material i) keys.Weight ms
  friction ← field wholes_of (spots.Material i) keys.Friction ms
  Ok (record { name = name; weight = weight; friction = friction })

-- what the table of joint i says, or its first fault of shape
unfoldable pub joint_part : ℕ → Members → Result JointPart ReadError
joint_part i ms = do
  known ← known_only (spots.Joint i) joint_keys ms
  first ← field as_str (spots.Joint i) keys.First ms
  second ← field as_str (spots.Joint i) keys.Second ms
  friction ← field wholes_of (spots.Joint i) keys.Friction ms
  Ok (record { first = first; second = second; friction = friction })

-- what the table of block i says, or its first fault of shape; without the key `fixed` it isn't fixed
unfoldable pub block_part : ℕ → Members → Result BlockPart ReadError
block_part i ms = do
  known ← known_only (spots.Block i) block_keys ms
  name ← field as_str (spots.Block i) keys.Name ms
  material ← field as_str (spots.Block i) keys.Material ms
  fixed ← truth_at (spots.Block i) keys.Fixed (get_member (word_of keys.Fixed) ms)
  corners ← field lists_of (spots.Block i) keys.Corners ms
  Ok (record { name = name; material = material; fixed = fixed; corners = corners })

-- what the table of load i says, or its first fault of shape
unfoldable pub load_part : ℕ → Members → Result LoadPart ReadError
load_part i ms = do
  known ← known_only (spots.Load i) load_keys ms
  block ← field as_str (spots.Load i) keys.Block ms
  kind ← field as_str (spots.Load i) keys.Kind ms
  at ← field wholes_of (spots.Load i) keys.At ms
  force ← field wholes_of (spots.Load i) keys.Force ms
  Ok (record { block = block; kind = kind; at = at; force = force })

-- the table of an item; a list with another item has been refused before
unfoldable pub in_table : {A : Type 0} → (ℕ → Members → Result A ReadError) → Key → ℕ → Data
    → Result A ReadError
in_table part key i (table ms) = part i ms
in_table part key i _ = Err (Kind spots.Top key)

-- one item after the other, the first of which has this number
unfoldable pub each_of : {A : Type 0} → (ℕ → Data → Result A ReadError) → ℕ → Items → Result (List A) ReadError
each_of part i no_items = Ok []
each_of part i (item d rest) = do
  first ← part i d
  others ← each_of part (i + 1) rest
  Ok (first ∷ others)

-- what the whole table lists, or its first fault of shape
unfoldable pub parts_of_document : Members → Result PartLists ReadError
parts_of_document ms = do
  head ← head_of_document ms
  materials ← list_at keys.Material (get_member (word_of keys.Material) ms)
  joints ← list_at keys.Joint (get_member (word_of keys.Joint) ms)
  blocks ← list_at keys.Block (get_member (word_of keys.Block) ms)
  loads ← list_at keys.Load (get_member (word_of keys.Load) ms)
  material_parts ← each_of (in_table material_part keys.Material) 0 materials
  joint_parts ← each_of (in_table joint_part keys.Joint) 0 joints
  block_parts ← each_of (in_table block_part keys.Block) 0 blocks
  load_parts ← each_of (in_table load_part keys.Load) 0 loads
  Ok (record {
    version = head.0;
    sway = head.1;
    materials = material_parts;
    joints = joint_parts;
    blocks = block_parts;
    loads = load_parts;
  })
