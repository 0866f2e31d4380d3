-- All faults of the content of what a file lists, each by a property of the lists as they are written. Nothing
-- here follows a run: whether one fault is listed depends on no other. The version and the sway come first, then the
-- materials, the joints, the blocks and the loads: of each the number, and then one item after the other in the order
-- of the file.
use Rattle.std.specs.Prelude.{ℕ, ℤ, pos, Bool, false, not, ◌&&◌, ◌||◌, ◌==◌, nat_lt, List, [], ◌∷◌, ◌++◌, length}
use Rattle.std.specs.Prelude.{get_or}
use Rattle.std.specs.Prelude.{take, find, count_by, Option, Some, None, is_none}
use Rattle.std.specs.Str.{bytes_eq}
use Rattle.std.specs.List.{list_any}
use Rattle.stack_whole.specs.Limits.{most_free, greatest_weight}
use Rattle.stack_polygon.specs.declared.point.Point.{Point}
use Rattle.stack_polygon.specs.Corners.{reversed}
use Rattle.stack_polygon.specs.Outlines.{is_clear, is_convex, first_failing}
use Rattle.stack_model.specs.declared.places.Spot.TheVariants as spots
use Rattle.stack_model.specs.declared.places.Key.TheVariants as keys
use Rattle.stack_model.specs.declared.places.What.{What}
use Rattle.stack_model.specs.declared.places.What.TheVariants as whats
use Rattle.stack_model.specs.declared.errors.ModelError.{ModelError}
use Rattle.stack_model.specs.declared.errors.ModelError.TheVariants.{Range, SameName, NoMaterial, NoBlock}
use Rattle.stack_model.specs.declared.errors.ModelError.TheVariants.{NotConvex, LoadOnFixed, TooMany}
use Rattle.stack_model.specs.declared.errors.ModelError.TheVariants.{NoJointMaterial, SameJoint}
use Rattle.stack_model.specs.Parts.{MaterialPart, JointPart, BlockPart, LoadPart, PartLists}
use Rattle.stack_model.specs.Limits.{most_materials, most_joints, most_bodies, most_fixed, most_loads}
use Rattle.stack_model.specs.Limits.{is_name, is_between, friction_of, point_of, corner_list_of, live_of}
use Rattle.stack_model.specs.Limits.{force_of, is_version, sway_of}
use Rattle.stack_faults.specs.FaultLists.{faults_where, faults_below}

-- material i as it is written; past the end stands one that means nothing
abbrev pub material_written : PartLists → ℕ → MaterialPart
material_written parts i = get_or parts.materials i (record { name = []; weight = pos 0; friction = [] })

-- joint i as it is written
abbrev pub joint_written : PartLists → ℕ → JointPart
joint_written parts i = get_or parts.joints i (record { first = []; second = []; friction = [] })

-- block i as it is written
abbrev pub block_written : PartLists → ℕ → BlockPart
block_written parts i = get_or parts.blocks i (record { name = []; material = []; fixed = false; corners = [] })

-- load i as it is written
abbrev pub load_written : PartLists → ℕ → LoadPart
load_written parts i = get_or parts.loads i (record { block = []; kind = []; at = []; force = [] })

-- one of these materials has the name
abbrev pub lists_material : List ℕ → List MaterialPart → Bool
lists_material name ms = list_any (λ (m : MaterialPart). bytes_eq name m.name) ms

-- two joints name the same two materials, in either order
abbrev pub names_the_same : JointPart → JointPart → Bool
names_the_same j k =
    (bytes_eq j.first k.first && bytes_eq j.second k.second)
    || (bytes_eq j.first k.second && bytes_eq j.second k.first)

-- one of these joints names the same two materials
abbrev pub lists_joint : JointPart → List JointPart → Bool
lists_joint j js = list_any (λ k. names_the_same k j) js

-- one of these blocks has the name
abbrev pub lists_block : List ℕ → List BlockPart → Bool
lists_block name bs = list_any (λ (b : BlockPart). bytes_eq name b.name) bs

-- the block, if there is one, is fixed
abbrev pub is_fixed_block : Option BlockPart → Bool
is_fixed_block None = false
is_fixed_block (Some b) = b.fixed

-- the first of these blocks that has the name is fixed; not so where none has it
abbrev pub names_fixed : List ℕ → List BlockPart → Bool
names_fixed name bs = is_fixed_block (find (λ (b : BlockPart). bytes_eq name b.name) bs)

-- how many of these blocks are fixed
abbrev pub fixed_written : List BlockPart → ℕ
fixed_written bs = count_by (λ (b : BlockPart). b.fixed) bs

-- how many of these blocks are free
abbrev pub free_written : List BlockPart → ℕ
free_written bs = count_by (λ (b : BlockPart). not b.fixed) bs

-- of corners within their limits: neither they nor their reversal are strictly convex. Corners that aren't within
-- their limits are no points, and have the fault of a range instead
abbrev pub is_crooked : Option (List Point) → Bool
is_crooked None = false
is_crooked (Some ps) = not (is_convex ps) && not (is_convex (reversed ps))

-- the first edge of such corners, as they are written, that doesn't have every other corner strictly left of it
abbrev pub unclear_edge : Option (List Point) → ℕ
unclear_edge None = 0
unclear_edge (Some ps) = first_failing (is_clear ps) (length ps)

-- material i: its name, its weight and its friction are outside their limits; an earlier material has its name
abbrev pub causes_of_material : PartLists → ℕ → List (Bool × ModelError)
causes_of_material parts i =
    let m = material_written parts i in
    (not (is_name m.name), Range (spots.Material i) keys.Name)
    ∷ (not (is_between (pos 0) greatest_weight m.weight), Range (spots.Material i) keys.Weight)
    ∷ (is_none (friction_of m.friction), Range (spots.Material i) keys.Friction)
    ∷ (lists_material m.name (take i parts.materials), SameName (spots.Material i))
    ∷ []

-- joint i: its friction is outside its limits; no material has a name that it gives; an earlier joint names the same
-- two
abbrev pub causes_of_joint : PartLists → ℕ → List (Bool × ModelError)
causes_of_joint parts i =
    let j = joint_written parts i in
    (is_none (friction_of j.friction), Range (spots.Joint i) keys.Friction)
    ∷ (not (lists_material j.first parts.materials && lists_material j.second parts.materials), NoJointMaterial i)
    ∷ (lists_joint j (take i parts.joints), SameJoint i)
    ∷ []

-- block i: its name and its corners are outside their limits; an earlier block has its name; no material has the
-- name that it gives; its corners are crooked; it is the 65th fixed one; it is the 129th free one
abbrev pub causes_of_block : PartLists → ℕ → List (Bool × ModelError)
causes_of_block parts i =
    let b = block_written parts i in
    (not (is_name b.name), Range (spots.Block i) keys.Name)
    ∷ (is_none (corner_list_of b.corners), Range (spots.Block i) keys.Corners)
    ∷ (lists_block b.name (take i parts.blocks), SameName (spots.Block i))
    ∷ (not (lists_material b.material parts.materials), NoMaterial i)
    ∷ (is_crooked (corner_list_of b.corners), NotConvex i (unclear_edge (corner_list_of b.corners)))
    ∷ (b.fixed && fixed_written (take i parts.blocks) == most_fixed, TooMany whats.Fixed)
    ∷ (not b.fixed && free_written (take i parts.blocks) == most_free, TooMany whats.Free)
    ∷ []

-- load i: its kind, its point and its force are outside their limits; no block has the name that it gives; the
-- block that has it is fixed
abbrev pub causes_of_load : PartLists → ℕ → List (Bool × ModelError)
causes_of_load parts i =
    let l = load_written parts i in
    (is_none (live_of l.kind), Range (spots.Load i) keys.Kind)
    ∷ (is_none (point_of l.at), Range (spots.Load i) keys.At)
    ∷ (is_none (force_of l.force), Range (spots.Load i) keys.Force)
    ∷ (not (lists_block l.block parts.blocks), NoBlock i)
    ∷ (names_fixed l.block parts.blocks, LoadOnFixed i)
    ∷ []

-- there are more of one kind than the limit
abbrev pub number_faults : ℕ → ℕ → What → List ModelError
number_faults limit count what = faults_where ((nat_lt limit count, TooMany what) ∷ [])

-- the faults of so many items by their causes, one item after the other
abbrev pub faults_by : ℕ → (ℕ → List (Bool × ModelError)) → List ModelError
faults_by count causes = faults_below count (λ i. faults_where (causes i))

-- a sway is listed, and it isn't two numbers within the limits
abbrev pub is_bad_sway : Option (List ℤ) → Bool
is_bad_sway None = false
is_bad_sway (Some zs) = is_none (sway_of zs)

-- the faults of the version and of the sway
abbrev pub head_faults : PartLists → List ModelError
head_faults parts = faults_where (
    (not (is_version parts.version), Range spots.Top keys.Version)
    ∷ (is_bad_sway parts.sway, Range spots.Top keys.Sway) ∷ [])

-- the faults of the joints: too many of them, and then those of each one
abbrev pub joint_faults : PartLists → List ModelError
joint_faults parts =
    number_faults most_joints (length parts.joints) whats.Joints
    ++ faults_by (length parts.joints) (causes_of_joint parts)

-- the faults of the materials: too many of them, and then those of each one
abbrev pub material_faults : PartLists → List ModelError
material_faults parts =
    number_faults most_materials (length parts.materials) whats.Materials
    ++ faults_by (length parts.materials) (causes_of_material parts)

-- the faults of the blocks: too many of them, and then those of each one
abbrev pub block_faults : PartLists → List ModelError
block_faults parts =
    number_faults most_bodies (length parts.blocks) whats.Blocks
    ++ faults_by (length parts.blocks) (causes_of_block parts)

-- the faults of the loads: too many of them, and then those of each one
abbrev pub load_faults : PartLists → List ModelError
load_faults parts =
    number_faults most_loads (length parts.loads) whats.Loads
    ++ faults_by (length parts.loads) (causes_of_load parts)

-- all faults of content
abbrev pub content_faults : PartLists → List ModelError
content_faults parts =
    head_faults parts ++ material_faults parts ++ joint_faults parts ++ block_faults parts ++ load_faults parts
