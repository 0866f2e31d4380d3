-- Laws of the friction between two materials.
use Rattle.std.specs.Prelude.{◌≡◌, ℕ, ◌<◌, true, List, length, Some}
use Rattle.stack_model.specs.declared.types.Joint.{Joint}
use Rattle.stack_model.specs.Structure.{joins, joint_at, joint_terms}
use Rattle.stack_model.specs.Sound.{AreOfDifferentPairs}

-- the terms between two materials are the same in either order
abbrev pub TermsInEitherOrder : Type 0
TermsInEitherOrder = (js : List Joint) (a b : ℕ) → joint_terms js a b ≡ joint_terms js b a

-- each joint has the terms of its two materials, where joints are between different pairs
abbrev pub JointsHaveTheirTerms : Type 0
JointsHaveTheirTerms = (js : List Joint) (a b i : ℕ) → AreOfDifferentPairs js → i < length js →
    joins (joint_at js i) a b ≡ true → joint_terms js a b ≡ Some ((joint_at js i).p, (joint_at js i).q)
