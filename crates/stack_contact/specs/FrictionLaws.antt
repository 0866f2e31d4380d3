-- Laws of the friction between two bodies.
use Rattle.std.specs.Prelude.{◌≡◌, ℕ, [], Some, ℤ}
use Rattle.stack_frame.specs.Cones.{coefficient, lesser_of, lowest}
use Rattle.stack_model.specs.Structure.{Structure, body_of, joint_terms}
use Rattle.stack_contact.specs.ContactLists.{material_friction, friction_between}

-- in a structure without joints, as each of version 1 is, the friction between two bodies is the lesser coefficient of
-- their materials
abbrev pub LesserWithoutJoints : Type 0
LesserWithoutJoints = (s : Structure) (i j : ℕ) → s.joints ≡ [] →
    friction_between s i j ≡ lesser_of (material_friction s (body_of s i).material)
    (material_friction s (body_of s j).material)

-- where a joint of their materials is listed, the friction between two bodies is that joint's coefficient, whatever the
-- materials' own are
abbrev pub JointDecides : Type 0
JointDecides = (s : Structure) (i j : ℕ) (t : ℤ × ℤ) →
    joint_terms s.joints (body_of s i).material (body_of s j).material ≡ Some t →
    friction_between s i j ≡ lowest (coefficient t.0 t.1)
