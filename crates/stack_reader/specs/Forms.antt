-- The forms of values: which data stand for a text, a whole number, a truth value, or lists of whole numbers.
-- A float is no whole number, and neither is a truth value.
use Rattle.std.specs.Prelude.{ℤ, Bool, true, false, List, [], ◌∷◌, Option, Some, None, Result, Ok, Err}
use Rattle.std.specs.Prelude.{if◌then◌else◌, option_map, ⊤}
use Rattle.std.specs.Str.{bytes_eq}
use Rattle.std.specs.List.{list_any}
use Rattle.toml.specs.Data.{Data, integer, array, table, Items, no_items, item, Members, no_members, member}
use Rattle.toml.specs.Data.{get_member, as_bool}
use Rattle.stack_algebra.specs.Steps.{◌>>=◌}
use Rattle.stack_model.specs.declared.places.Spot.{Spot}
use Rattle.stack_model.specs.declared.places.Key.{Key}
use Rattle.stack_reader.specs.declared.errors.ReadError.{ReadError}
use Rattle.stack_reader.specs.declared.errors.ReadError.TheVariants.{UnknownKey, Missing, Kind}
use Rattle.stack_model.specs.Limits.{with_first}
use Rattle.stack_reader.specs.Keys.{word_of}

-- an array of whole numbers, of any length
abbrev pub wholes_of_items : Items → Option (List ℤ)
wholes_of_items no_items = Some []
wholes_of_items (item (integer z) rest) = option_map (λ zs. z ∷ zs) (wholes_of_items rest)
wholes_of_items (item _ rest) = None

-- the numbers of a value that is such an array
abbrev pub wholes_of : Data → Option (List ℤ)
wholes_of (array items) = wholes_of_items items
wholes_of _ = None

-- the lists of an array of arrays of whole numbers
abbrev pub lists_of_items : Items → Option (List (List ℤ))
lists_of_items no_items = Some []
lists_of_items (item d rest) = with_first (wholes_of d) (lists_of_items rest)

-- the lists of a value that is such an array
abbrev pub lists_of : Data → Option (List (List ℤ))
lists_of (array items) = lists_of_items items
lists_of _ = None

-- an array whose items are all tables
abbrev pub are_tables : Items → Bool
are_tables no_items = true
are_tables (item (table ms) rest) = are_tables rest
are_tables (item _ rest) = false

-- the items of a value that is such an array
abbrev pub tables_of : Data → Option Items
tables_of (array items) = if are_tables items then Some items else None
tables_of _ = None

-- no key stands but these
abbrev pub has_only : List Key → Members → Bool
has_only known no_members = true
has_only known (member word d rest) =
    if list_any (λ key. bytes_eq (word_of key) word) known then has_only known rest else false

-- no other key stands, or else that is the fault
abbrev pub known_only : Spot → List Key → Members → Result ⊤ ReadError
known_only spot known ms = if has_only known ms then Ok tt else Err (UnknownKey spot)

-- the value at a key that must stand
abbrev pub required : Spot → Key → Option Data → Result Data ReadError
required spot key None = Err (Missing spot key)
required spot key (Some d) = Ok d

-- the value, where it has the form
abbrev pub in_form : {A : Type 0} → Spot → Key → Option A → Result A ReadError
in_form spot key None = Err (Kind spot key)
in_form spot key (Some x) = Ok x

-- the value at a key that must stand, in its form, or the fault that it's missing or has another form
unfoldable pub field : {A : Type 0} → (Data → Option A) → Spot → Key → Members → Result A ReadError
field form spot key ms = do
  d ← required spot key (get_member (word_of key) ms)
  in_form spot key (form d)

-- a truth value, false where the key is missing
abbrev pub truth_at : Spot → Key → Option Data → Result Bool ReadError
truth_at spot key None = Ok false
truth_at spot key (Some d) = in_form spot key (as_bool d)
