use Rattle.std.proofs.Common.{◌≡◌, map, take}
use Rattle.stack_model.specs.Raw.{raw_joint}
use Rattle.stack_model.specs.Relisted.{joint_listed}
use Rattle.stack_model.proofs.listing.joints.Given as goal

abbrev pub invariant-loop-i : goal.invariant-loop-i
invariant-loop-i l = map raw_joint l.list.items ≡ map (joint_listed l.model.materials) (take l.i l.model.joints)
