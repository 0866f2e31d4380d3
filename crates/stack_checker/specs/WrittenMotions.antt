-- The written check of a motion: the count of its moves, then each bearing, then the powers and what they are
-- tested for.
use Rattle.std.specs.Prelude.{ℕ, nat_eq, pos, nat_abs, ◌+ℤ◌, ◌*ℤ◌, int_le, length, Result, Ok, ⊤}
use Rattle.stack_algebra.specs.Steps.{◌>>=◌, steps}
use Rattle.stack_contact.specs.declared.types.Bearing.{Bearing}
use Rattle.stack_contact.specs.Surveyed.{Surveyed}
use Rattle.stack_contact.specs.FreeBlocks.{frees_of}
use Rattle.stack_certificate.specs.Certificate.{ForcesValue, MotionValue}
use Rattle.stack_equilibrium.specs.declared.types.Question.TheVariants.{Dead, Live}
use Rattle.stack_whole.specs.declared.whole.Whole.{Whole}
use Rattle.stack_whole.specs.Whole.{made, whole}
use Rattle.stack_equilibrium.specs.WrittenVelocities.{written_opening}
use Rattle.stack_equilibrium.specs.WrittenPowers.{written_power}
use Rattle.stack_checker.specs.declared.types.Reason.TheVariants as reasons
use Rattle.stack_checker.specs.declared.types.CheckAt.TheVariants as places
use Rattle.stack_checker.specs.declared.sign.WantedSign.TheVariants.{Zero, Positive}
use Rattle.stack_checker.specs.declared.stop.Stop.{Stop}
use Rattle.stack_equilibrium.specs.declared.velocity.Gap.{Gap}
use Rattle.stack_checker.specs.declared.powers.Powers.{Powers}
use Rattle.stack_checker.specs.Signs.{has_sign}
use Rattle.stack_checker.specs.WrittenTests.{demand, made_at, stopped_gap, power_or_stop}

-- bearing k, whose coefficient is p over q: q times the opening, the size of the slide and p times that size
-- are made; then the first is at least the last
unfoldable pub written_resistance : ℕ → Whole → Whole → Gap → Result ⊤ Stop
written_resistance k p q r = do
  opens ← made_at (made (q.value *ℤ r.opening.value)) (places.Resisted k)
  size ← made_at (made (pos (nat_abs r.slide.value))) (places.Resisted k)
  slides ← made_at (made (p.value *ℤ size.value)) (places.Resisted k)
  demand (int_le slides.value opens.value) (reasons.Resisted k)

-- a bearing of the survey: its velocities are made before that
unfoldable pub resistance_at : Surveyed → MotionValue → ℕ → ⊤ → Bearing → Result ⊤ Stop
resistance_at s y k done z = do
  gap ← stopped_gap k (written_opening s y k)
  written_resistance k (whole z.cone.p) (whole z.cone.q) gap

-- as many moves as free blocks, and no bearing resists
unfoldable pub written_motion : Surveyed → MotionValue → Result ⊤ Stop
written_motion s y = do
  counted ← demand (nat_eq (length y) (length (frees_of s.structure.bodies))) reasons.Count
  steps (resistance_at s y) 0 tt s.bearings

-- a motion on which the dead loads gain power
unfoldable pub written_collapse : Surveyed → MotionValue → Result ⊤ Stop
written_collapse s y = do
  unresisted ← written_motion s y
  dead ← power_or_stop (written_power Dead s y)
  demand (has_sign Positive dead.value) reasons.NoWork

-- the live power is made, and then the dead one
unfoldable pub written_powers : Surveyed → MotionValue → Result Powers Stop
written_powers s y = do
  live ← power_or_stop (written_power Live s y)
  dead ← power_or_stop (written_power Dead s y)
  Ok (record { live = live; dead = dead })

-- factor times the live power, scale times the dead power and their sum are made, and then it is 0
unfoldable pub written_meeting : Whole → Whole → Powers → Result ⊤ Stop
written_meeting scale factor powers = do
  driven ← made_at (made (factor.value *ℤ powers.live.value)) places.Apart
  standing ← made_at (made (scale.value *ℤ powers.dead.value)) places.Apart
  total ← made_at (made (driven.value +ℤ standing.value)) places.Apart
  demand (has_sign Zero total.value) reasons.Apart

-- a motion on which the live loads gain power, and which meets the forces at their factor
unfoldable pub written_bound : Surveyed → ForcesValue → MotionValue → Result ⊤ Stop
written_bound s f y = do
  unresisted ← written_motion s y
  powers ← written_powers s y
  gains ← demand (has_sign Positive powers.live.value) reasons.NoWork
  written_meeting (whole f.scale) (whole f.factor) powers
