-- What a file lists, before its content is looked at: names, numbers and lists of numbers as they are written.
use Rattle.std.specs.Prelude.{◌≡◌, ◌≢◌, ℕ, ℤ, pos, Bool, List, [], Option, None}

-- a material: its name, its unit weight, and its coefficient of friction as an array
pub record MaterialPart : Type 0 where
  pub name : List ℕ
  pub weight : ℤ
  pub friction : List ℤ

-- a joint: the names of its two materials, and their coefficient of friction as an array
pub record JointPart : Type 0 where
  pub first : List ℕ
  pub second : List ℕ
  pub friction : List ℤ

-- a block: its name, that of its material, whether it is fixed, and its corners as arrays
pub record BlockPart : Type 0 where
  pub name : List ℕ
  pub material : List ℕ
  pub fixed : Bool
  pub corners : List (List ℤ)

-- a load: the name of its block, its kind, its point and its force as arrays
pub record LoadPart : Type 0 where
  pub block : List ℕ
  pub kind : List ℕ
  pub at : List ℤ
  pub force : List ℤ

-- the version of a file, its sway as an array where one is listed, and its lists, in its order
pub record PartLists : Type 0 where
  pub version : ℤ
  pub sway : Option (List ℤ)
  pub materials : List MaterialPart
  pub joints : List JointPart
  pub blocks : List BlockPart
  pub loads : List LoadPart

-- the lists of a file of version 1
abbrev pub first_parts : List MaterialPart → List BlockPart → List LoadPart → PartLists
first_parts ms bs ls = record {
  version = pos 1;
  sway = None;
  materials = ms;
  joints = [];
  blocks = bs;
  loads = ls;
}

-- joints and a sway are of version 2 alone
pub record IsOfVersion (p : PartLists) : Type 0 where
  pub joints : p.version ≢ pos 2 → p.joints ≡ []
  pub sway : p.version ≢ pos 2 → p.sway ≡ None
