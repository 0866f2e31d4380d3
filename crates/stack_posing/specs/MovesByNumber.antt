-- Motions by a move for each number of a free body, and what their powers are.
use Rattle.std.specs.Prelude.{◌≡◌, ℕ, ◌<◌, ℤ, pos, List, Bool}
use Rattle.stack_algebra.specs.Sums.{sum_to}
use Rattle.stack_algebra.specs.IntegerOrder.{◌≼◌}
use Rattle.stack_algebra.specs.Listed.{listed}
use Rattle.stack_statics.specs.declared.wrench.Wrench.{Wrench}
use Rattle.stack_statics.specs.Scene.{Move, Scene, IsProper}
use Rattle.stack_statics.specs.Motions.{power_of}
use Rattle.stack_statics.specs.Certificates.{move_of, IsFreeMotion}
use Rattle.stack_posing.specs.FreeBodies.{free_at, free_bodies}
use Rattle.stack_posing.specs.Edges.{edge_on}

-- the moves of all free bodies, listed by their numbers
abbrev pub moves_from : Scene → (ℕ → Move) → List Move
moves_from s y = listed (free_bodies s) y

-- the work of a wrench on each free body
abbrev pub power_by : Scene → (ℕ → Move) → (ℕ → Wrench) → ℤ
power_by s y w = sum_to (free_bodies s) (λ b. power_of (w (free_at s b)) (y b))

-- the work on the free bodies is that on all bodies, since fixed ones are still
abbrev pub PowersAreByNumber : Type 0
PowersAreByNumber = (s : Scene) (y : ℕ → Move) (w : ℕ → Wrench) →
    power_by s y w ≡ sum_to s.bodies (λ i. power_of (w i) (move_of s (moves_from s y) i))

-- no edge of a cone does negative work
abbrev pub AreUnopposed : Scene → (ℕ → Move) → Type 0
AreUnopposed s y = (k : ℕ) → k < s.bearings → (plus : Bool) → pos 0 ≼ power_by s y (edge_on s plus k)

-- in a proper scene moves that no edge opposes are a motion that no admissible force resists
abbrev pub UnopposedMovesAreMotions : Type 0
UnopposedMovesAreMotions = (s : Scene) (y : ℕ → Move) → IsProper s → AreUnopposed s y →
    IsFreeMotion s (moves_from s y)
