-- The numbers of the work of loads on a motion, in the order in which they are made, each as an exact whole
-- number: of each free block three products, and after each of them the work so far.
use Rattle.std.specs.Prelude.{ℕ, suc, ℤ, pos, ◌+ℤ◌, ◌*ℤ◌, List, [], ◌∷◌, length, get_or}
use Rattle.stack_algebra.specs.Sums.{sum_to}
use Rattle.stack_contact.specs.Surveyed.{Surveyed}
use Rattle.stack_contact.specs.FreeBlocks.{frees_of, free_of}
use Rattle.stack_certificate.specs.Certificate.{MotionValue}
use Rattle.stack_statics.specs.declared.wrench.Wrench.{Wrench}
use Rattle.stack_equilibrium.specs.declared.types.Question.{Question}
use Rattle.stack_statics.specs.Scene.{Move}
use Rattle.stack_statics.specs.Motions as motions
use Rattle.stack_equilibrium.specs.SurveyScene.{scene_of, loads_on}
use Rattle.stack_equilibrium.specs.Held.{move_of_triple, move_at}
use Rattle.stack_equilibrium.specs.WrittenPowers.{written_power}
use Rattle.stack_equilibrium.specs.Answers.{asked_power_of}
use Rattle.stack_sum_numbers.specs.InTurn.{lists_in_turn, IsMadeOf}

-- the loads on free block number b
abbrev pub loads_of_free : Question → Surveyed → ℕ → Wrench
loads_of_free q s b = loads_on q s.structure (free_of s.structure.bodies b)

-- the move of free block number b
abbrev pub move_of_free : MotionValue → ℕ → Move
move_of_free y b = move_of_triple (get_or y b (pos 0, pos 0, pos 0))

module _ (q : Question) (s : Surveyed) (y : MotionValue) where
  -- the work on the first n free blocks
  abbrev pub work_on_first : ℕ → ℤ
  work_on_first n = sum_to n (λ b. motions.power_of (loads_of_free q s b) (move_of_free y b))

  -- the numbers of free block number b, with these loads and this move: u*fx, v*fy and r*m, each with the work so
  -- far
  abbrev pub work_numbers : Wrench → Move → ℕ → List ℤ
  work_numbers w m b =
      (m.u *ℤ w.fx) ∷ (work_on_first b +ℤ m.u *ℤ w.fx)
      ∷ (m.v *ℤ w.fy) ∷ (work_on_first b +ℤ m.u *ℤ w.fx +ℤ m.v *ℤ w.fy)
      ∷ (m.r *ℤ w.m) ∷ work_on_first (suc b)
      ∷ []

  -- all numbers of the work on the free blocks
  abbrev pub power_numbers : List ℤ
  power_numbers = lists_in_turn (length (frees_of s.structure.bodies))
      (λ b. work_numbers (loads_of_free q s b) (move_of_free y b) b)

-- The written power is that of the scene's loads exactly if all its numbers fit, and is refused exactly if one of them
-- is too wide
abbrev pub PowerIsMadeOfItsNumbers : Type 0
PowerIsMadeOfItsNumbers = (q : Question) (s : Surveyed) (y : MotionValue) →
    IsMadeOf (power_numbers q s y) (asked_power_of q (scene_of s) (move_at s y)) (written_power q s y)

-- the power of the scene's loads is the work on all free blocks, added up in their order
abbrev pub PowerIsTheWorkOnFreeBlocks : Type 0
PowerIsTheWorkOnFreeBlocks = (q : Question) (s : Surveyed) (y : MotionValue) →
    IsMadeOf (power_numbers q s y) (work_on_first q s y (length (frees_of s.structure.bodies)))
    (written_power q s y)
