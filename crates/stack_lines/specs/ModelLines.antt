-- What the line of a model that isn't read says: the fault, its place and its key. Items go by their numbers from 1.
use Rattle.std.specs.Prelude.{ℕ, ◌+◌, List, ◌++◌, codes, decimal}
use Rattle.stack_model.specs.declared.places.Spot.{Spot}
use Rattle.stack_model.specs.declared.places.Spot.TheVariants.{Top, Material, Joint, Block, Load}
use Rattle.stack_model.specs.declared.places.What.{What}
use Rattle.stack_model.specs.declared.places.What.TheVariants as whats
use Rattle.stack_model.specs.declared.errors.ModelError.{ModelError}
use Rattle.stack_model.specs.declared.errors.ModelError.TheVariants as contents
use Rattle.stack_reader.specs.Keys.{word_of}
use Rattle.stack_reader.specs.declared.errors.ReadError.{ReadError}
use Rattle.stack_reader.specs.declared.errors.ReadError.TheVariants as reads

-- An item of the file, or its top.
unfoldable pub spot_text : Spot → List ℕ
spot_text Top = codes "top"
spot_text (Material i) = codes "material " ++ decimal (i + 1)
spot_text (Joint i) = codes "joint " ++ decimal (i + 1)
spot_text (Block i) = codes "block " ++ decimal (i + 1)
spot_text (Load i) = codes "load " ++ decimal (i + 1)

-- What a model has too many of: materials, joints, blocks, free or fixed ones, loads.
abbrev pub what_word : What → List ℕ
what_word whats.Materials = codes "materials"
what_word whats.Joints = codes "joints"
what_word whats.Blocks = codes "blocks"
what_word whats.Free = codes "free"
what_word whats.Fixed = codes "fixed"
what_word whats.Loads = codes "loads"

-- A fault of the content. That memory ran out has no line of a model.
unfoldable pub content_text : ModelError → List ℕ
content_text (contents.Range spot key) = codes "range " ++ spot_text spot ++ codes " " ++ word_of key
content_text (contents.SameName spot) = codes "same name " ++ spot_text spot
content_text (contents.NoMaterial block) = codes "no material block " ++ decimal (block + 1)
content_text (contents.NoBlock load) = codes "no block load " ++ decimal (load + 1)
content_text (contents.NotConvex block edge) =
    codes "not convex block " ++ decimal (block + 1) ++ codes " edge " ++ decimal (edge + 1)
content_text (contents.LoadOnFixed load) = codes "load on fixed load " ++ decimal (load + 1)
content_text (contents.TooMany what) = codes "too many " ++ what_word what
content_text contents.Memory = codes "memory"
content_text (contents.NoJointMaterial joint) = codes "no material joint " ++ decimal (joint + 1)
content_text (contents.SameJoint joint) = codes "same joint " ++ decimal (joint + 1)

-- A fault of the file, with its place and its key.
unfoldable pub fault_text : ReadError → List ℕ
fault_text reads.NotToml = codes "not toml"
fault_text (reads.UnknownKey spot) = codes "unknown key " ++ spot_text spot
fault_text (reads.Missing spot key) = codes "missing " ++ spot_text spot ++ codes " " ++ word_of key
fault_text (reads.Kind spot key) = codes "kind " ++ spot_text spot ++ codes " " ++ word_of key
fault_text (reads.Model fault) = content_text fault
fault_text reads.Memory = codes "memory"
