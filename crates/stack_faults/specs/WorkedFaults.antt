-- Small files with several faults at once, and all their faults in order. They show that the lists of faults
-- aren't empty, and what their items and their order are.
use Rattle.std.specs.Prelude.{◌≡◌, ℕ, ◌+◌, ◌/◌, ◌%◌, ℤ, pos, negsuc, Bool, true, false, List, [], ◌∷◌}
use Rattle.std.specs.Prelude.{◌++◌, codes}
use Rattle.std.specs.Prelude.{zero, suc, replicate, Some}
use Rattle.toml.specs.Data.{string, integer, array, table, no_items, item, Members, no_members, member}
use Rattle.stack_model.specs.declared.places.Spot.TheVariants as spots
use Rattle.stack_model.specs.declared.places.Key.TheVariants as keys
use Rattle.stack_model.specs.declared.places.What.TheVariants as whats
use Rattle.stack_model.specs.declared.errors.ModelError.TheVariants.{Range, SameName, NoMaterial, NoBlock}
use Rattle.stack_model.specs.declared.errors.ModelError.TheVariants.{NotConvex, LoadOnFixed, TooMany}
use Rattle.stack_model.specs.declared.errors.ModelError.TheVariants.{NoJointMaterial, SameJoint}
use Rattle.stack_model.specs.Parts.{MaterialPart, JointPart, BlockPart, LoadPart, PartLists, first_parts}
use Rattle.stack_reader.specs.declared.errors.ReadError.TheVariants.{UnknownKey, Missing, Kind, Model}
use Rattle.stack_faults.specs.FaultLists.{earliest}
use Rattle.stack_faults.specs.ContentFaults.{content_faults}
use Rattle.stack_faults.specs.TableFaults.{table_faults}

-- a point as a file lists it, x and then y
abbrev pub drawn_at : ℕ → ℕ → List ℤ
drawn_at x y = pos x ∷ pos y ∷ []

-- a material as a file lists it, with its friction as a list of numbers
abbrev pub material_called : List ℕ → ℤ → List ℤ → MaterialPart
material_called name weight friction = record { name = name; weight = weight; friction = friction }

-- a block as a file lists it, with the name of its material
abbrev pub block_called : List ℕ → List ℕ → Bool → List (List ℤ) → BlockPart
block_called name material fixed corners = record {
  name = name;
  material = material;
  fixed = fixed;
  corners = corners;
}

-- a load as a file lists it, with the name of its block
abbrev pub load_called : List ℕ → List ℕ → List ℤ → List ℤ → LoadPart
load_called block kind at force = record { block = block; kind = kind; at = at; force = force }

-- the lists of a file of version 1
abbrev pub lists_written : List MaterialPart → List BlockPart → List LoadPart → PartLists
lists_written materials blocks loads = first_parts materials blocks loads

-- a material without fault: friction 1 over 2 and a unit weight
abbrev pub plain_stone : MaterialPart
plain_stone = material_called (codes "stone") (pos 1) (pos 1 ∷ pos 2 ∷ [])

-- a square whose corners are listed clockwise, which is no fault
abbrev pub clockwise_square : List (List ℤ)
clockwise_square = drawn_at 0 0 ∷ drawn_at 0 2 ∷ drawn_at 2 2 ∷ drawn_at 2 0 ∷ []

-- the third corner lies inside the triangle of the others, so that edge 1, which ends there, has the fourth on
-- its right
abbrev pub dart : List (List ℤ)
dart = drawn_at 0 0 ∷ drawn_at 4 0 ∷ drawn_at 1 1 ∷ drawn_at 0 4 ∷ []

-- a fixed body of that stone, without fault
abbrev pub fixed_square : BlockPart
fixed_square = block_called (codes "base") (codes "stone") true clockwise_square

-- material 0 has a weight below 0; material 1 has one number of friction, and the name of material 0
abbrev pub two_materials : PartLists
two_materials = lists_written (
    material_called (codes "stone") (negsuc 0) (pos 1 ∷ pos 2 ∷ [])
    ∷ material_called (codes "stone") (pos 1) (pos 1 ∷ []) ∷ []) [] []

-- block 0 has no name, two corners and an unknown material; block 1 is without fault; block 2 has the name of
-- block 1, and crooked corners
abbrev pub three_blocks : PartLists
three_blocks = lists_written (plain_stone ∷ []) (
    block_called [] (codes "sand") false (drawn_at 0 0 ∷ drawn_at 1 0 ∷ [])
    ∷ block_called (codes "a") (codes "stone") false clockwise_square
    ∷ block_called (codes "a") (codes "stone") false dart ∷ []) []

-- load 0 is of an unknown kind, lacks a part of its force, and is on an unknown block; load 1 is on a fixed block
abbrev pub two_loads : PartLists
two_loads = lists_written (plain_stone ∷ []) (fixed_square ∷ []) (
    load_called (codes "post") (codes "alive") (drawn_at 0 0) (pos 1 ∷ [])
    ∷ load_called (codes "base") (codes "live") (drawn_at 0 2) (pos 0 ∷ negsuc 0 ∷ []) ∷ [])

-- a fault of a material, of a block and of a load
abbrev pub one_of_each : PartLists
one_of_each = lists_written (plain_stone ∷ material_called (codes "a b") (pos 1) (pos 1 ∷ pos 2 ∷ []) ∷ [])
    (fixed_square ∷ block_called (codes "b") (codes "sand") false clockwise_square ∷ [])
    (load_called (codes "b") (codes "dead") (drawn_at 1000001 0) (drawn_at 0 0) ∷ [])

-- a joint as a file lists it, between materials of these names
abbrev pub joint_called : List ℕ → List ℕ → List ℤ → JointPart
joint_called first second friction = record { first = first; second = second; friction = friction }

-- lists of version 3, with one number of sway; joint 0 is without fault, and joins stones; joint 1 has one number of
-- friction, and an unknown material; joint 2 joins stones again
abbrev pub three_joints : PartLists
three_joints = record {
  version = pos 3;
  sway = Some (pos 1 ∷ []);
  materials = plain_stone ∷ [];
  joints =
      joint_called (codes "stone") (codes "stone") (pos 1 ∷ pos 2 ∷ [])
      ∷ joint_called (codes "stone") (codes "sand") (pos 1 ∷ [])
      ∷ joint_called (codes "stone") (codes "stone") (pos 3 ∷ pos 4 ∷ []) ∷ [];
  blocks = [];
  loads = [];
}

-- two digits: a name for each number below 100
abbrev pub two_digits : ℕ → List ℕ
two_digits n = (48 + n / 10) ∷ (48 + n % 10) ∷ []

-- the fixed squares with a number below n
abbrev pub fixed_squares : ℕ → List BlockPart
fixed_squares zero = []
fixed_squares (suc n) = fixed_squares n ++ block_called (two_digits n) (codes "stone") true clockwise_square ∷ []

-- a table with a key `beam` and a `block` that is a number; its material 0 has a name that is a number, and no friction
abbrev pub ill_table : Members
ill_table =
    member (codes "beam") (integer (pos 1)) (member (codes "block") (integer (pos 0)) (member (codes "material")
    (array (item (table (member (codes "name") (integer (pos 1))
    (member (codes "weight") (integer (pos 1)) no_members))) no_items)) no_members))

-- a table without a fault of shape; its material 0 has a weight below 0, and one number of friction
abbrev pub heavy_table : Members
heavy_table =
    member (codes "material") (array (item (table
    (member (codes "friction") (array (item (integer (pos 1)) no_items))
    (member (codes "name") (string (codes "stone"))
    (member (codes "weight") (integer (negsuc 0)) no_members)))) no_items)) no_members

-- the faults of these lists and tables, in order
pub record WorkedFaults : Type 0 where
  pub none : content_faults (lists_written (plain_stone ∷ []) (fixed_square ∷ []) []) ≡ []
  pub materials : content_faults two_materials
      ≡ Range (spots.Material 0) keys.Weight ∷ Range (spots.Material 1) keys.Friction
      ∷ SameName (spots.Material 1) ∷ []
  pub joints : content_faults three_joints
      ≡ Range spots.Top keys.Version ∷ Range spots.Top keys.Sway ∷ Range (spots.Joint 1) keys.Friction
      ∷ NoJointMaterial 1 ∷ SameJoint 2 ∷ []
  pub blocks : content_faults three_blocks
      ≡ Range (spots.Block 0) keys.Name ∷ Range (spots.Block 0) keys.Corners ∷ NoMaterial 0
      ∷ SameName (spots.Block 2) ∷ NotConvex 2 1 ∷ []
  pub loads : content_faults two_loads
      ≡ Range (spots.Load 0) keys.Kind ∷ Range (spots.Load 0) keys.Force ∷ NoBlock 0 ∷ LoadOnFixed 1 ∷ []
  pub each : content_faults one_of_each
      ≡ Range (spots.Material 1) keys.Name ∷ NoMaterial 1 ∷ Range (spots.Load 0) keys.At ∷ []
  pub shape : table_faults ill_table
      ≡ UnknownKey spots.Top ∷ Kind spots.Top keys.Block ∷ Kind (spots.Material 0) keys.Name
      ∷ Missing (spots.Material 0) keys.Friction ∷ []
  pub content : table_faults heavy_table
      ≡ Model (Range (spots.Material 0) keys.Weight) ∷ Model (Range (spots.Material 0) keys.Friction) ∷ []
  -- 65 materials, here all of one name, are too many before anything else
  pub numbers : earliest (content_faults (lists_written (replicate 65 plain_stone) [] []))
      ≡ Some (TooMany whats.Materials)
  -- 64 fixed blocks have room; of 66 the 65th alone is told
  pub room : content_faults (lists_written (plain_stone ∷ []) (fixed_squares 64) []) ≡ []
  pub no_room : content_faults (lists_written (plain_stone ∷ []) (fixed_squares 66) []) ≡ TooMany whats.Fixed ∷ []
