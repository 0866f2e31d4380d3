-- The content of what a file lists: the structure, or the first fault of content in one order. The
-- version and the sway come first, then materials, joints, blocks and loads, each in the order of the file.
use Rattle.std.specs.Prelude.{ℕ, ℤ, is_none, pos, Bool, true, false, not, List, [], ◌∷◌, ◌++◌, length, map, Option}
use Rattle.std.specs.Prelude.{Some, None, Result, Ok, Err, nat_le, nat_lt, position, count_by}
use Rattle.std.specs.Prelude.{⊤}
use Rattle.std.specs.Str.{bytes_eq}
use Rattle.std.specs.List.{list_any}
use Rattle.stack_algebra.specs.Steps.{◌>>=◌, steps}
use Rattle.stack_polygon.specs.declared.point.Point.{Point}
use Rattle.stack_model.specs.declared.types.Joint.{Joint}
use Rattle.stack_model.specs.declared.types.Load.{Load}
use Rattle.stack_model.specs.declared.places.Spot.{Spot}
use Rattle.stack_model.specs.declared.places.Spot.TheVariants as spots
use Rattle.stack_model.specs.declared.places.Key.{Key}
use Rattle.stack_model.specs.declared.places.Key.TheVariants as keys
use Rattle.stack_model.specs.declared.places.What.{What}
use Rattle.stack_model.specs.declared.places.What.TheVariants as whats
use Rattle.stack_model.specs.declared.errors.ModelError.{ModelError}
use Rattle.stack_model.specs.declared.errors.ModelError.TheVariants.{Range, SameName, NoMaterial, NoBlock}
use Rattle.stack_model.specs.declared.errors.ModelError.TheVariants.{LoadOnFixed, TooMany, NoJointMaterial, SameJoint}
use Rattle.stack_model.specs.Structure.{NamedMaterial, NamedBody, Structure, structure_with, body_at, joint_terms}
use Rattle.stack_model.specs.Parts.{MaterialPart, JointPart, BlockPart, LoadPart, PartLists}
use Rattle.stack_whole.specs.Limits.{most_free, greatest_weight}
use Rattle.stack_whole.specs.Demands.{unless}
use Rattle.stack_model.specs.Limits.{most_materials, most_joints, most_bodies, most_fixed, most_loads}
use Rattle.stack_model.specs.Limits.{is_version, sway_of, is_name, is_between, friction_of, point_of}
use Rattle.stack_model.specs.Limits.{corner_list_of, live_of, force_of}
use Rattle.stack_model.specs.Convex.{convex}

-- what a value means, where it is within its limits
abbrev pub ranged : {A : Type 0} → Spot → Key → Option A → Result A ModelError
ranged spot key None = Err (Range spot key)
ranged spot key (Some x) = Ok x

-- no more are listed than the limit, or else there are too many of this kind
abbrev pub at_most : ℕ → ℕ → What → Result ⊤ ModelError
at_most limit count what = unless (nat_le count limit) (TooMany what)

-- the sway that is listed; (0, 0) where none is
abbrev pub sway_listed : Option (List ℤ) → Result (ℤ × ℤ) ModelError
sway_listed None = Ok (pos 0, pos 0)
sway_listed (Some zs) = ranged spots.Top keys.Sway (sway_of zs)

-- the sway of a file of a known version
unfoldable pub head_of : PartLists → Result (ℤ × ℤ) ModelError
head_of parts = do
  known ← unless (is_version parts.version) (Range spots.Top keys.Version)
  sway_listed parts.sway

-- the names of materials, in their order
abbrev pub material_names : List NamedMaterial → List (List ℕ)
material_names ms = map (λ m. m.name) ms

-- the names of bodies, in their order
abbrev pub body_names : List NamedBody → List (List ℕ)
body_names bs = map (λ b. b.name) bs

-- the number of the item with a name
abbrev pub number_of : List ℕ → List (List ℕ) → Option ℕ
number_of name names = position (bytes_eq name) names

-- no item before has the name
abbrev pub is_new : List ℕ → List (List ℕ) → Bool
is_new name names = not (list_any (bytes_eq name) names)

-- the number found, or this fault
abbrev pub found : Option ℕ → ModelError → Result ℕ ModelError
found None fault = Err fault
found (Some n) fault = Ok n

-- one more material, with a name of its own
unfoldable pub with_material : Spot → NamedMaterial → List NamedMaterial
    → Result (List NamedMaterial) ModelError
with_material spot m ms = do
  new ← unless (is_new m.name (material_names ms)) (SameName spot)
  Ok (ms ++ m ∷ [])

-- material i, after those before it
unfoldable pub add_material : ℕ → List NamedMaterial → MaterialPart → Result (List NamedMaterial) ModelError
add_material i ms m = do
  named ← unless (is_name m.name) (Range (spots.Material i) keys.Name)
  weighed ← unless (is_between (pos 0) greatest_weight m.weight) (Range (spots.Material i) keys.Weight)
  friction ← ranged (spots.Material i) keys.Friction (friction_of m.friction)
  with_material (spots.Material i) (record {
    name = m.name;
    weight = m.weight;
    p = friction.0;
    q = friction.1;
  }) ms

-- joint i, after those before it: its materials are known, and no earlier joint is between them
unfoldable pub add_joint : List NamedMaterial → ℕ → List Joint → JointPart → Result (List Joint) ModelError
add_joint ms i js j = do
  friction ← ranged (spots.Joint i) keys.Friction (friction_of j.friction)
  first ← found (number_of j.first (material_names ms)) (NoJointMaterial i)
  second ← found (number_of j.second (material_names ms)) (NoJointMaterial i)
  new ← unless (is_none (joint_terms js first second)) (SameJoint i)
  Ok (js ++ record { first = first; second = second; p = friction.0; q = friction.1 } ∷ [])

-- there is room for one more free body, or one more fixed
abbrev pub has_room : Bool → List NamedBody → Result ⊤ ModelError
has_room true bs = unless (nat_lt (count_by (λ b. b.fixed) bs) most_fixed) (TooMany whats.Fixed)
has_room false bs = unless (nat_lt (count_by (λ b. not b.fixed) bs) most_free) (TooMany whats.Free)

-- one more body, as block i, whose name is new: its material is known, its corner list has an outline, there is
-- room for it
abbrev pub with_new_body : ℕ → List ℕ → Option ℕ → Bool → List Point → List NamedBody
    → Result (List NamedBody) ModelError
with_new_body i name material fixed corners bs = do
  number ← found material (NoMaterial i)
  outline ← convex i corners
  room ← has_room fixed bs
  Ok (bs ++ record { name = name; material = number; fixed = fixed; corners = outline } ∷ [])

-- one more body, as block i: its name is new, and all else that is asked of it holds
unfoldable pub with_body : ℕ → List ℕ → Option ℕ → Bool → List Point → List NamedBody
    → Result (List NamedBody) ModelError
with_body i name material fixed corners bs = do
  new ← unless (is_new name (body_names bs)) (SameName (spots.Block i))
  with_new_body i name material fixed corners bs

-- block i, after those before it
unfoldable pub add_block : List NamedMaterial → ℕ → List NamedBody → BlockPart
    → Result (List NamedBody) ModelError
add_block ms i bs b = do
  named ← unless (is_name b.name) (Range (spots.Block i) keys.Name)
  corners ← ranged (spots.Block i) keys.Corners (corner_list_of b.corners)
  with_body i b.name (number_of b.material (material_names ms)) b.fixed corners bs

-- the body with a number isn't fixed
abbrev pub is_free : ℕ → List NamedBody → Bool
is_free n bs = not (body_at bs n).fixed

-- load i, after those before it
unfoldable pub add_load : List NamedBody → ℕ → List Load → LoadPart → Result (List Load) ModelError
add_load bs i ls l = do
  live ← ranged (spots.Load i) keys.Kind (live_of l.kind)
  point ← ranged (spots.Load i) keys.At (point_of l.at)
  force ← ranged (spots.Load i) keys.Force (force_of l.force)
  body ← found (number_of l.block (body_names bs)) (NoBlock i)
  free ← unless (is_free body bs) (LoadOnFixed i)
  Ok (ls ++ record { body = body; live = live; at = point; fx = force.0; fy = force.1 } ∷ [])

-- the materials and the joints between them
unfoldable pub joints_of : PartLists → Result (List NamedMaterial × List Joint) ModelError
joints_of parts = do
  few_materials ← at_most most_materials (length parts.materials) whats.Materials
  materials ← steps add_material 0 [] parts.materials
  few_joints ← at_most most_joints (length parts.joints) whats.Joints
  joints ← steps (add_joint materials) 0 [] parts.joints
  Ok (materials, joints)

-- the bodies, of these materials
unfoldable pub bodies_of : List NamedMaterial → PartLists → Result (List NamedBody) ModelError
bodies_of materials parts = do
  few_blocks ← at_most most_bodies (length parts.blocks) whats.Blocks
  steps (add_block materials) 0 [] parts.blocks

-- the loads, on these bodies
unfoldable pub loads_of : List NamedBody → PartLists → Result (List Load) ModelError
loads_of bodies parts = do
  few_loads ← at_most most_loads (length parts.loads) whats.Loads
  steps (add_load bodies) 0 [] parts.loads

-- the structure of what is listed, or its first fault; each list is counted before its items are read
unfoldable pub content_of : PartLists → Result Structure ModelError
content_of parts = do
  sway ← head_of parts
  both ← joints_of parts
  bodies ← bodies_of both.0 parts
  loads ← loads_of bodies parts
  Ok (structure_with parts.version sway both.0 both.1 bodies loads)
