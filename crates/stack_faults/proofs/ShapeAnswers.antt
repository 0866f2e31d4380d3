-- What the tables of items answer.
use Rattle.std.proofs.Common.{refl, ℕ, ℤ, Bool, true, false, not, List, [], ◌∷◌, ◌++◌, Option, Some}
use Rattle.std.proofs.Common.{None}
use Rattle.std.proofs.Common.{Ok, Err, option_map, is_none, if◌then◌else◌}
use Rattle.toml.specs.Data.{Data, Members, get_member, as_str, as_integer, as_bool}
use Rattle.stack_algebra.specs.Steps.{◌>>=◌}
use Rattle.stack_model.specs.declared.places.Spot.{Spot}
use Rattle.stack_model.specs.declared.places.Spot.TheVariants as spots
use Rattle.stack_model.specs.declared.places.Key.{Key}
use Rattle.stack_model.specs.declared.places.Key.TheVariants as keys
use Rattle.stack_reader.specs.declared.errors.ReadError.TheVariants.{UnknownKey, Missing, Kind}
use Rattle.stack_reader.specs.Keys.{word_of, material_keys, joint_keys, block_keys, load_keys}
use Rattle.stack_reader.specs.Forms.{wholes_of, lists_of, has_only, known_only, required, in_form, field, truth_at}
use Rattle.stack_reader.specs.Shape.{material_part, joint_part, block_part, load_part, known_at_top, version_at}
use Rattle.stack_reader.specs.Shape.{sway_at, head_of_document}
use Rattle.stack_faults.specs.FaultLists.{faults_where}
use Rattle.stack_faults.specs.TableFaults.{is_of_another_form, unknown_key_faults, key_faults, optional_key_faults}
use Rattle.stack_faults.specs.TableFaults.{joint_table_faults, material_table_faults, block_table_faults}
use Rattle.stack_faults.specs.TableFaults.{load_table_faults}
use Rattle.stack_faults.proofs.Firsts.{Told, all_told, step, last}

tested_told : {A E : Type 0} (b : Bool) (x : A) (e : E)
    → Told (if b then Ok x else Err e) (faults_where ((not b, e) ∷ []))
tested_told true x e = record { told = refl }
tested_told false x e = record { told = refl }

known_told : (spot : Spot) (known : List Key) (ms : Members)
    → Told (known_only spot known ms) (unknown_key_faults spot known ms)
known_told spot known ms = tested_told (has_only known ms) tt (UnknownKey spot)

-- a value in a form
form_told : {A : Type 0} (spot : Spot) (key : Key) (o : Option A)
    → Told (in_form spot key o) (faults_where ((is_none o, Kind spot key) ∷ []))
form_told spot key None = record { told = refl }
form_told spot key (Some x) = record { told = refl }

key_told : {A : Type 0} (form : Data → Option A) (spot : Spot) (key : Key) (ms : Members)
    → Told (field form spot key ms) (key_faults form spot key ms)
unfolding field
key_told form spot key ms = go (get_member (word_of key) ms)
  where
    go : (o : Option Data) → Told (required spot key o >>= λ d. in_form spot key (form d))
        (faults_where ((is_none o, Missing spot key) ∷ (is_of_another_form form o, Kind spot key) ∷ []))
    go None = record { told = refl }
    go (Some d) = form_told spot key (form d)

truth_told : (spot : Spot) (key : Key) (o : Option Data)
    → Told (truth_at spot key o) (faults_where ((is_of_another_form as_bool o, Kind spot key) ∷ []))
truth_told spot key None = record { told = refl }
truth_told spot key (Some d) = form_told spot key (as_bool d)

pub material_told : (i : ℕ) (ms : Members) → Told (material_part i ms) (material_table_faults i ms)
unfolding material_part
material_told i ms = let spot = spots.Material i in
    all_told (step (known_told spot material_keys ms)
    (λ _. step (key_told as_str spot keys.Name ms)
    (λ _. step (key_told as_integer spot keys.Weight ms)
    (λ _. last _ (key_told wholes_of spot keys.Friction ms)))))

pub joint_told : (i : ℕ) (ms : Members) → Told (joint_part i ms) (joint_table_faults i ms)
unfolding joint_part
joint_told i ms = let spot = spots.Joint i in
    all_told (step (known_told spot joint_keys ms)
    (λ _. step (key_told as_str spot keys.First ms)
    (λ _. step (key_told as_str spot keys.Second ms)
    (λ _. last _ (key_told wholes_of spot keys.Friction ms)))))

pub block_told : (i : ℕ) (ms : Members) → Told (block_part i ms) (block_table_faults i ms)
unfolding block_part
block_told i ms = let spot = spots.Block i in
    all_told (step (known_told spot block_keys ms)
    (λ _. step (key_told as_str spot keys.Name ms)
    (λ _. step (key_told as_str spot keys.Material ms)
    (λ _. step (truth_told spot keys.Fixed (get_member (word_of keys.Fixed) ms))
    (λ _. last _ (key_told lists_of spot keys.Corners ms))))))

pub load_told : (i : ℕ) (ms : Members) → Told (load_part i ms) (load_table_faults i ms)
unfolding load_part
load_told i ms = let spot = spots.Load i in
    all_told (step (known_told spot load_keys ms)
    (λ _. step (key_told as_str spot keys.Block ms)
    (λ _. step (key_told as_str spot keys.Kind ms)
    (λ _. step (key_told wholes_of spot keys.At ms)
    (λ _. last _ (key_told wholes_of spot keys.Force ms))))))

version_told : (o : Option Data) → Told (version_at o)
    (faults_where ((is_of_another_form as_integer o, Kind spots.Top keys.Version) ∷ []))
version_told None = record { told = refl }
version_told (Some d) = form_told spots.Top keys.Version (as_integer d)

sway_told : (o : Option Data) → Told (sway_at o)
    (faults_where ((is_of_another_form wholes_of o, Kind spots.Top keys.Sway) ∷ []))
sway_told None = record { told = refl }
sway_told (Some d) = go (wholes_of d)
  where
    go : (o : Option (List ℤ)) → Told (in_form spots.Top keys.Sway (option_map (λ zs. Some zs) o))
        (faults_where ((is_none o, Kind spots.Top keys.Sway) ∷ []))
    go None = record { told = refl }
    go (Some zs) = record { told = refl }

-- the version and the sway, after the keys
pub head_told : (ms : Members) → Told (head_of_document ms)
    (unknown_key_faults spots.Top (known_at_top ms) ms
    ++ optional_key_faults as_integer spots.Top keys.Version ms
    ++ optional_key_faults wholes_of spots.Top keys.Sway ms)
unfolding head_of_document
head_told ms = all_told (step (known_told spots.Top (known_at_top ms) ms)
    (λ _. step (version_told (get_member (word_of keys.Version) ms))
    (λ _. last _ (sway_told (get_member (word_of keys.Sway) ms)))))
