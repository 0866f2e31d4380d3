-- The work of the dead or the live loads on a motion: each product and each partial sum in the written order,
-- up to the first that is too wide.
use Rattle.std.specs.Prelude.{ℕ, ℤ, pos, ◌+ℤ◌, ◌*ℤ◌, Result, Ok, Err}
use Rattle.stack_algebra.specs.Steps.{◌>>=◌, steps}
use Rattle.stack_contact.specs.Surveyed.{Surveyed}
use Rattle.stack_contact.specs.FreeBlocks.{frees_of}
use Rattle.stack_certificate.specs.Certificate.{MotionValue}
use Rattle.stack_statics.specs.declared.wrench.Wrench.{Wrench}
use Rattle.stack_equilibrium.specs.declared.types.Question.{Question}
use Rattle.stack_equilibrium.specs.declared.types.PowerWide.{PowerWide}
use Rattle.stack_whole.specs.declared.whole.Wide.{Wide}
use Rattle.stack_whole.specs.declared.whole.Whole.{Whole}
use Rattle.stack_equilibrium.specs.declared.velocity.BlockMove.{BlockMove}
use Rattle.stack_whole.specs.Whole.{made, whole}
use Rattle.stack_equilibrium.specs.SurveyScene.{loads_on}
use Rattle.stack_equilibrium.specs.WrittenVelocities.{block_move_at}

-- a product is made, and then added
unfoldable pub with_product : Whole → Whole → ℤ → Result Whole Wide
with_product so_far rate force = do
  work ← made (rate.value *ℤ force)
  made (so_far.value +ℤ work.value)

-- the work of a block's loads is added: u*fx, then v*fy, then r*m
unfoldable pub with_work : Whole → BlockMove → Wrench → Result Whole Wide
with_work so_far y w = do
  along_x ← with_product so_far y.u w.fx
  along_y ← with_product along_x y.v w.fy
  with_product along_y y.r w.m

-- the work of the loads on free block number b, which is body i, is added
abbrev pub with_block : Question → Surveyed → MotionValue → ℕ → Whole → ℕ → Result Whole Wide
with_block q s y b so_far i = with_work so_far (block_move_at y b) (loads_on q s.structure i)

-- the work on all free blocks in order, from 0
abbrev pub summed_power : Question → Surveyed → MotionValue → Result Whole Wide
summed_power q s y = steps (with_block q s y) 0 (whole (pos 0)) (frees_of s.structure.bodies)

-- the sum as a power, or that a number on the way to it is too wide
abbrev pub told_power : Result Whole Wide → Result ℤ PowerWide
told_power (Ok x) = Ok x.value
told_power (Err e) = Err (record {})

-- the work of the dead or the live loads on a motion, unless one of its numbers is too wide
abbrev pub written_power : Question → Surveyed → MotionValue → Result ℤ PowerWide
written_power q s y = told_power (summed_power q s y)
