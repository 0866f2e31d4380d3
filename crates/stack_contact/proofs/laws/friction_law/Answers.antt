use Rattle.std.proofs.Common.{ap}
use Rattle.stack_model.specs.Structure.{body_of, joint_terms}
use Rattle.stack_contact.specs.ContactLists.{joint_or_lesser, material_friction}
use Rattle.stack_contact.proofs.laws.friction_law.Goals as goal

pub returns-clause-lesser : goal.returns-clause-lesser
returns-clause-lesser c = λ s i j none. let m = (body_of s i).material in let n = (body_of s j).material in
    ap (λ js. joint_or_lesser (joint_terms js m n) (material_friction s m) (material_friction s n)) none

pub returns-clause-joint : goal.returns-clause-joint
returns-clause-joint c = λ s i j t is. let m = (body_of s i).material in let n = (body_of s j).material in
    ap (λ o. joint_or_lesser o (material_friction s m) (material_friction s n)) is
