-- The words of the keys, and the keys of each item, in the order in which they are looked at.
use Rattle.std.specs.Prelude.{ℕ, List, [], ◌∷◌, codes}
use Rattle.stack_model.specs.declared.places.Key.{Key}
use Rattle.stack_model.specs.declared.places.Key.TheVariants.{Version, Sway, Name, Weight, Friction, Material, Fixed}
use Rattle.stack_model.specs.declared.places.Key.TheVariants.{Joint, First, Second, Corners, Block, Kind, At, Force}
use Rattle.stack_model.specs.declared.places.Key.TheVariants.{Load}

-- the word of a key
abbrev pub word_of : Key → List ℕ
word_of Version = codes "version"
word_of Sway = codes "sway"
word_of Name = codes "name"
word_of Weight = codes "weight"
word_of Friction = codes "friction"
word_of Material = codes "material"
word_of Joint = codes "joint"
word_of First = codes "first"
word_of Second = codes "second"
word_of Fixed = codes "fixed"
word_of Corners = codes "corners"
word_of Block = codes "block"
word_of Kind = codes "kind"
word_of At = codes "at"
word_of Force = codes "force"
word_of Load = codes "load"

-- the keys at the top of a file of version 2
abbrev pub top_keys : List Key
top_keys = Version ∷ Sway ∷ Material ∷ Joint ∷ Block ∷ Load ∷ []

-- the keys at the top of any other file: `sway` and `joint` are of version 2 alone
abbrev pub first_top_keys : List Key
first_top_keys = Version ∷ Material ∷ Block ∷ Load ∷ []

-- the keys of a material, which must all stand
abbrev pub material_keys : List Key
material_keys = Name ∷ Weight ∷ Friction ∷ []

-- the keys of a joint, which must all stand
abbrev pub joint_keys : List Key
joint_keys = First ∷ Second ∷ Friction ∷ []

-- the keys of a block, of which `fixed` alone may be missing
abbrev pub block_keys : List Key
block_keys = Name ∷ Material ∷ Fixed ∷ Corners ∷ []

-- the keys of a load, which must all stand
abbrev pub load_keys : List Key
load_keys = Block ∷ Kind ∷ At ∷ Force ∷ []
