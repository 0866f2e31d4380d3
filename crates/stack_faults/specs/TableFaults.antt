-- All faults of a document's table: those of its shape, each by a property of the table as it stands, and where
-- it has none those of the content that it lists. The top comes first, and then the tables of materials, of joints, of
-- blocks and of loads, one after the other in the order of the file; in a table an unknown key, and then its keys as
-- here.
use Rattle.std.specs.Prelude.{ℕ, Bool, false, not, List, [], ◌∷◌, ◌++◌, map, length, get_or, Option, Some}
use Rattle.std.specs.Prelude.{None, is_none}
use Rattle.std.specs.Prelude.{Result, Ok, Err, option_and_then}
use Rattle.toml.specs.Data.{Data, table, Items, no_items, item, Members, no_members, get_member, as_str}
use Rattle.toml.specs.Data.{as_integer}
use Rattle.toml.specs.Data.{as_bool}
use Rattle.stack_model.specs.declared.places.Spot.{Spot}
use Rattle.stack_model.specs.declared.places.Spot.TheVariants as spots
use Rattle.stack_model.specs.declared.places.Key.{Key}
use Rattle.stack_model.specs.declared.places.Key.TheVariants as keys
use Rattle.stack_model.specs.Parts.{PartLists}
use Rattle.stack_reader.specs.declared.errors.ReadError.{ReadError}
use Rattle.stack_reader.specs.declared.errors.ReadError.TheVariants.{NotToml, UnknownKey, Missing, Kind}
use Rattle.stack_reader.specs.declared.errors.ReadError.TheVariants.{Model}
use Rattle.stack_reader.specs.Keys.{word_of, material_keys, joint_keys, block_keys, load_keys}
use Rattle.stack_reader.specs.Forms.{wholes_of, lists_of, tables_of, has_only}
use Rattle.stack_reader.specs.Shape.{known_at_top, parts_of_document}
use Rattle.stack_reader.specs.Reading.{document_table}
use Rattle.stack_faults.specs.FaultLists.{faults_where, faults_below}
use Rattle.stack_faults.specs.ContentFaults.{content_faults}

-- a value stands here, and has another form
abbrev pub is_of_another_form : {A : Type 0} → (Data → Option A) → Option Data → Bool
is_of_another_form form None = false
is_of_another_form form (Some d) = is_none (form d)

-- a key stands here that isn't one of these
abbrev pub unknown_key_faults : Spot → List Key → Members → List ReadError
unknown_key_faults spot known ms = faults_where ((not (has_only known ms), UnknownKey spot) ∷ [])

-- a key that must stand is missing, or its value has another form
abbrev pub key_faults : {A : Type 0} → (Data → Option A) → Spot → Key → Members → List ReadError
key_faults form spot key ms = faults_where (
    (is_none (get_member (word_of key) ms), Missing spot key)
    ∷ (is_of_another_form form (get_member (word_of key) ms), Kind spot key) ∷ [])

-- the value of a key that may be missing has another form
abbrev pub optional_key_faults : {A : Type 0} → (Data → Option A) → Spot → Key → Members → List ReadError
optional_key_faults form spot key ms = faults_where (
    (is_of_another_form form (get_member (word_of key) ms), Kind spot key) ∷ [])

-- the top: an unknown key; the version isn't a whole number; the sway isn't an array of them; a list isn't one of
-- tables
abbrev pub top_faults : Members → List ReadError
top_faults ms =
    unknown_key_faults spots.Top (known_at_top ms) ms
    ++ optional_key_faults as_integer spots.Top keys.Version ms
    ++ optional_key_faults wholes_of spots.Top keys.Sway ms
    ++ optional_key_faults tables_of spots.Top keys.Material ms
    ++ optional_key_faults tables_of spots.Top keys.Joint ms
    ++ optional_key_faults tables_of spots.Top keys.Block ms
    ++ optional_key_faults tables_of spots.Top keys.Load ms

-- material i: an unknown key, its name, its weight, its friction
abbrev pub material_table_faults : ℕ → Members → List ReadError
material_table_faults i ms =
    unknown_key_faults (spots.Material i) material_keys ms
    ++ key_faults as_str (spots.Material i) keys.Name ms
    ++ key_faults as_integer (spots.Material i) keys.Weight ms
    ++ key_faults wholes_of (spots.Material i) keys.Friction ms

-- joint i: an unknown key, the names of its two materials, its friction
abbrev pub joint_table_faults : ℕ → Members → List ReadError
joint_table_faults i ms =
    unknown_key_faults (spots.Joint i) joint_keys ms
    ++ key_faults as_str (spots.Joint i) keys.First ms
    ++ key_faults as_str (spots.Joint i) keys.Second ms
    ++ key_faults wholes_of (spots.Joint i) keys.Friction ms

-- block i: an unknown key, its name, its material's name, whether it is fixed, its corners
abbrev pub block_table_faults : ℕ → Members → List ReadError
block_table_faults i ms =
    unknown_key_faults (spots.Block i) block_keys ms
    ++ key_faults as_str (spots.Block i) keys.Name ms
    ++ key_faults as_str (spots.Block i) keys.Material ms
    ++ optional_key_faults as_bool (spots.Block i) keys.Fixed ms
    ++ key_faults lists_of (spots.Block i) keys.Corners ms

-- load i: an unknown key, its block's name, its kind, its point, its force
abbrev pub load_table_faults : ℕ → Members → List ReadError
load_table_faults i ms =
    unknown_key_faults (spots.Load i) load_keys ms
    ++ key_faults as_str (spots.Load i) keys.Block ms
    ++ key_faults as_str (spots.Load i) keys.Kind ms
    ++ key_faults wholes_of (spots.Load i) keys.At ms
    ++ key_faults wholes_of (spots.Load i) keys.Force ms

-- the tables among some items, in their order
abbrev pub tables_in : Items → List Members
tables_in no_items = []
tables_in (item (table ms) rest) = ms ∷ tables_in rest
tables_in (item d rest) = tables_in rest

-- the tables among the items, and none where there is no list
abbrev pub tables_or_none : Option Items → List Members
tables_or_none None = []
tables_or_none (Some items) = tables_in items

-- the tables that a key of the top lists; none where it is missing, or where its value isn't an array of tables
abbrev pub tables_listed : Key → Members → List Members
tables_listed key ms = tables_or_none (option_and_then tables_of (get_member (word_of key) ms))

-- the faults of these tables, one after the other
abbrev pub faults_of_tables : (ℕ → Members → List ReadError) → List Members → List ReadError
faults_of_tables faults tables = faults_below (length tables) (λ i. faults i (get_or tables i no_members))

-- all faults of shape
abbrev pub shape_faults : Members → List ReadError
shape_faults ms =
    top_faults ms
    ++ faults_of_tables material_table_faults (tables_listed keys.Material ms)
    ++ faults_of_tables joint_table_faults (tables_listed keys.Joint ms)
    ++ faults_of_tables block_table_faults (tables_listed keys.Block ms)
    ++ faults_of_tables load_table_faults (tables_listed keys.Load ms)

-- the faults of content of what a table lists; a table with a fault of shape lists nothing
abbrev pub faults_of_listed : Result PartLists ReadError → List ReadError
faults_of_listed (Err e) = []
faults_of_listed (Ok parts) = map (λ e. Model e) (content_faults parts)

-- all faults of a table
abbrev pub table_faults : Members → List ReadError
table_faults ms = shape_faults ms ++ faults_of_listed (parts_of_document ms)

-- all faults of a document, if there is one
abbrev pub faults_of_document : Result Members ReadError → List ReadError
faults_of_document (Err e) = NotToml ∷ []
faults_of_document (Ok ms) = table_faults ms

-- all faults of a file's bytes
abbrev pub file_faults : List ℕ → List ReadError
file_faults bytes = faults_of_document (document_table bytes)
