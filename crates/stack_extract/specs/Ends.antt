-- What is made of the end of a survey's run.
use Rattle.std.specs.Prelude.{◌≡◌, ℕ, Bool, true, ℤ, pos, Option, None, List, [], ⊤}
use Rattle.stack_algebra.specs.Listed.{listed}
use Rattle.stack_algebra.specs.Fraction.{Fraction}
use Rattle.stack_rational.specs.declared.exact.Exact.{Ghosts}
use Rattle.stack_rational.specs.CommonScale.{scale_of}
use Rattle.stack_contact.specs.declared.types.Bearing.{Bearing}
use Rattle.stack_contact.specs.Surveyed.{Surveyed}
use Rattle.stack_certificate.specs.Certificate.{ForcesValue, MotionValue}
use Rattle.stack_equilibrium.specs.declared.types.Question.{Question}
use Rattle.stack_equilibrium.specs.SurveyScene.{scene_of}
use Rattle.stack_table.specs.Problem.{flipped, turned}
use Rattle.stack_table.specs.Seen.{shape_of_table, flips_of}
use Rattle.stack_table.specs.Table.{Shape, Tabled}
use Rattle.stack_run.specs.WrittenRun.{End, infeasible, feasible, optimal, ray, wide, over, never}
use Rattle.stack_tableau.specs.declared.end_kind.EndKind.{EndKind}
use Rattle.stack_tableau.specs.declared.end_kind.EndKind.TheVariants as kinds
use Rattle.stack_posing.specs.Posed.{posed, posed_shape}
use Rattle.stack_tableau.specs.declared.ended.Ended.{Ended}
use Rattle.stack_tableau.specs.declared.ended.Ended.TheVariants.{Infeasible, Feasible, Optimal, Ray}
use Rattle.stack_tableau.specs.LastTables.{ended_as, last_of}
use Rattle.stack_extract.specs.WholeLists.{whole_list, amount}
use Rattle.stack_extract.specs.Certified.{forces_value, triple_at, end_forces, end_ray, end_collapse}
use Rattle.stack_extract.specs.Certified.{end_bound}
use Rattle.stack_extract.specs.EndLaws.{IsEndOfRun}
use Rattle.stack_extract.specs.declared.types.Numbers.{Numbers}
use Rattle.stack_extract.specs.declared.types.ExtractPlace.{ExtractPlace}
use Rattle.stack_extract.specs.Places.{push_place, forces_place, ray_place, collapse_place, bound_place}

-- the value of the written run of the survey's problem, under some rule of what is too wide and with some budget
pub record IsEndOfSurvey {V : Type 0} {number : Ghosts V} (q : Question) (v : Surveyed) (e : Ended V number)
    : Type 0 where
  pub run : IsEndOfRun q v (ended_as e)
  pub shape : shape_of_table (last_of e) ≡ posed_shape q (scene_of v)
  pub flips : flips_of (last_of e) ≡ flipped (posed q (scene_of v))

-- the end is that of the survey's run for one of the two questions
abbrev pub IsEndOfSome : {V : Type 0} {number : Ghosts V} → Surveyed → Ended V number → Type 0
IsEndOfSome v e = (q : Question) × IsEndOfSurvey q v e

-- an end of the survey's run that is given by its value, with the shape and the flips of its last table, whatever
-- stores it
pub record IsLastOf (q : Question) (v : Surveyed) (S : Shape) (flips : ℕ → Bool) (x : End Fraction) : Type 0 where
  pub run : IsEndOfRun q v x
  pub shape : S ≡ posed_shape q (scene_of v)
  pub flips_are : flips ≡ flipped (posed q (scene_of v))

-- the last table is that of the survey's run for one of the two questions
abbrev pub IsLastOfSome : Surveyed → Shape → (ℕ → Bool) → End Fraction → Type 0
IsLastOfSome v S flips x = (q : Question) × IsLastOf q v S flips x

-- the kind of an end, without its table
abbrev pub kind_of : {V : Type 0} {number : Ghosts V} → Ended V number → EndKind
kind_of (Infeasible t) = kinds.Infeasible
kind_of (Feasible t) = kinds.Feasible
kind_of (Optimal t) = kinds.Optimal
kind_of (Ray t c) = kinds.Ray c

-- the column of a ray can be read
abbrev pub ReadsRay : EndKind → (ℕ → Bool) → Type 0
ReadsRay kinds.Infeasible reads = ⊤
ReadsRay kinds.Feasible reads = ⊤
ReadsRay kinds.Optimal reads = ⊤
ReadsRay (kinds.Ray c) reads = reads c ≡ true

-- an end with forces: those at which amounts balance
abbrev pub HasForces : End Fraction → Type 0
HasForces (infeasible T) = ⊥
HasForces (feasible T) = ⊤
HasForces (optimal T) = ⊤
HasForces (ray T c) = ⊤
HasForces (wide p k s) = ⊥
HasForces over = ⊥
HasForces never = ⊥

-- an end with a motion: that of a collapse, or the one that bounds the factor
abbrev pub HasMotion : End Fraction → Type 0
HasMotion (infeasible T) = ⊤
HasMotion (feasible T) = ⊥
HasMotion (optimal T) = ⊤
HasMotion (ray T c) = ⊥
HasMotion (wide p k s) = ⊥
HasMotion over = ⊥
HasMotion never = ⊥

-- an end with a ray: only the one at which the factor rises without limit
abbrev pub HasRay : End Fraction → Type 0
HasRay (infeasible T) = ⊥
HasRay (feasible T) = ⊥
HasRay (optimal T) = ⊥
HasRay (ray T c) = ⊤
HasRay (wide p k s) = ⊥
HasRay over = ⊥
HasRay never = ⊥

-- the column that rises without limit
abbrev pub entering_of : End Fraction → ℕ
entering_of (infeasible T) = 0
entering_of (feasible T) = 0
entering_of (optimal T) = 0
entering_of (ray T c) = c
entering_of (wide p k s) = 0
entering_of over = 0
entering_of never = 0

-- forces of a list of which no number is too wide
pub record AreForcesFrom (l : Numbers) (bs : List Bearing) (xs : List Fraction) (f : ForcesValue) : Type 0 where
  pub fits : push_place l bs xs ≡ None
  pub forces : f ≡ forces_value bs (pos (scale_of xs)) (whole_list xs)

-- the moves of n free blocks, by the multipliers of their rows with the signs of a table
abbrev pub moves_by : ℕ → (ℕ → Bool) → List ℤ → MotionValue
moves_by n flips zs = listed n (triple_at (λ k. turned (flips k) (amount zs k)))

-- a motion of a list, with none at the place
pub record IsMotionFrom (n : ℕ) (flips : ℕ → Bool) (xs : List Fraction) (place : Option ExtractPlace)
    (y : MotionValue) : Type 0 where
  pub fits : place ≡ None
  pub moves : y ≡ moves_by n flips (whole_list xs)

module _ (q : Question) (v : Surveyed) where
  -- exactly the forces of a last table, of which no number is too wide
  pub record AreForcesOf (T : Tabled Fraction) (f : ForcesValue) : Type 0 where
    pub fits : forces_place q v T ≡ None
    pub forces : f ≡ end_forces q v T

  -- exactly the ray of its column c
  pub record IsRayOf (T : Tabled Fraction) (c : ℕ) (f : ForcesValue) : Type 0 where
    pub fits : ray_place q v T c ≡ None
    pub forces : f ≡ end_ray q v T c

  -- the first place of an end's motion, and its motion
  abbrev pub motion_place : End Fraction → Option ExtractPlace
  motion_place (infeasible T) = collapse_place q v T
  motion_place (feasible T) = None
  motion_place (optimal T) = bound_place q v T
  motion_place (ray T c) = None
  motion_place (wide p k s) = None
  motion_place over = None
  motion_place never = None

  -- the motion of a collapse, or the one that bounds the factor; other ends have no moves
  abbrev pub end_motion : End Fraction → MotionValue
  end_motion (infeasible T) = end_collapse q v T
  end_motion (feasible T) = []
  end_motion (optimal T) = end_bound q v T
  end_motion (ray T c) = []
  end_motion (wide p k s) = []
  end_motion over = []
  end_motion never = []

  -- exactly the motion of an end, of which no number is too wide
  pub record IsMotionOf (x : End Fraction) (y : MotionValue) : Type 0 where
    pub fits : motion_place x ≡ None
    pub motion : y ≡ end_motion x
