-- The written check of a list of forces: the count of its parts, its scale, its factor, then each bearing,
-- then each free block.
use Rattle.std.specs.Prelude.{ℕ, nat_eq, ℤ, pos, nat_abs, ◌*ℤ◌, int_le, List, length, Result, ⊤}
use Rattle.stack_algebra.specs.Steps.{◌>>=◌, steps}
use Rattle.stack_contact.specs.declared.types.Bearing.{Bearing}
use Rattle.stack_contact.specs.Surveyed.{Surveyed}
use Rattle.stack_contact.specs.FreeBlocks.{frees_of}
use Rattle.stack_certificate.specs.Certificate.{ForcesValue}
use Rattle.stack_statics.specs.declared.wrench.Wrench.{Wrench}
use Rattle.stack_equilibrium.specs.declared.types.SumWide.{SumWide}
use Rattle.stack_equilibrium.specs.declared.types.Axis.TheVariants.{X, Y, M}
use Rattle.stack_whole.specs.declared.whole.Whole.{Whole}
use Rattle.stack_equilibrium.specs.declared.block.Push.{Push}
use Rattle.stack_whole.specs.Whole.{made, whole}
use Rattle.stack_equilibrium.specs.WrittenSums.{push_at, written_sums_at}
use Rattle.stack_checker.specs.declared.types.Reason.TheVariants as reasons
use Rattle.stack_checker.specs.declared.types.CheckAt.TheVariants as places
use Rattle.stack_checker.specs.declared.sign.WantedSign.TheVariants.{Zero}
use Rattle.stack_checker.specs.declared.sign.Signs.{Signs}
use Rattle.stack_checker.specs.declared.stop.Stop.{Stop}
use Rattle.stack_checker.specs.Signs.{has_sign}
use Rattle.stack_checker.specs.WrittenTests.{demand, made_at, sums_at}

-- bearing k, whose coefficient is p over q, pushes; then p*a, the size of b and q times that size are made;
-- then the part is within the cone of friction
unfoldable pub written_cone : ℕ → Whole → Whole → Push → Result ⊤ Stop
written_cone k p q f = do
  pushes ← demand (int_le (pos 0) f.a.value) (reasons.Push k)
  most ← made_at (made (p.value *ℤ f.a.value)) (places.Cone k)
  tangential ← made_at (made (pos (nat_abs f.b.value))) (places.Cone k)
  least ← made_at (made (q.value *ℤ tangential.value)) (places.Cone k)
  demand (int_le least.value most.value) (reasons.Cone k)

-- the cone test of bearing k of the survey
abbrev pub cone_at : List (ℤ × ℤ) → ℕ → ⊤ → Bearing → Result ⊤ Stop
cone_at parts k done z = written_cone k (whole z.cone.p) (whole z.cone.q) (push_at parts k)

-- free block number b: its three sums are made, and then each is 0
unfoldable pub written_balance : ℕ → Result Wrench SumWide → Result ⊤ Stop
written_balance b sums = do
  w ← sums_at b sums
  along_x ← demand (has_sign Zero w.fx) (reasons.Balance b X)
  along_y ← demand (has_sign Zero w.fy) (reasons.Balance b Y)
  demand (has_sign Zero w.m) (reasons.Balance b M)

-- the balance test of free block number b of the survey, which is body i
abbrev pub balance_at : Surveyed → ForcesValue → ℕ → ⊤ → ℕ → Result ⊤ Stop
balance_at s f b done i = written_balance b (written_sums_at s f i)

-- a list of forces, with what its scale and its factor are tested for
unfoldable pub written_forces : Signs → Surveyed → ForcesValue → Result ⊤ Stop
written_forces signs s f = do
  counted ← demand (nat_eq (length f.parts) (length s.bearings)) reasons.Count
  scaled ← demand (has_sign signs.scale f.scale) reasons.Scale
  driven ← demand (has_sign signs.factor f.factor) reasons.Factor
  held ← steps (cone_at f.parts) 0 tt s.bearings
  steps (balance_at s f) 0 tt (frees_of s.structure.bodies)
