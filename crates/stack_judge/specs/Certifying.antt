-- What is made of the end of a survey's run, on the way to its judgement.
use Rattle.std.specs.Prelude.{◌≡◌, ℕ, Option, Some, None, Result, Ok, Err, ⊤}
use Rattle.stack_algebra.specs.Fraction.{Fraction}
use Rattle.stack_rational.specs.declared.exact.Exact.{Ghosts}
use Rattle.stack_contact.specs.Surveyed.{Surveyed}
use Rattle.stack_certificate.specs.declared.types.Certificate.{Certificate}
use Rattle.stack_certificate.specs.Certificate.{certificate_view}
use Rattle.stack_equilibrium.specs.declared.types.Question.{Question}
use Rattle.stack_equilibrium.specs.SurveyScene.{scene_of}
use Rattle.stack_checker.specs.declared.types.Check.TheVariants.{Accepted}
use Rattle.stack_checker.specs.WrittenCheck.{written_check}
use Rattle.stack_table.specs.Problem.{flipped}
use Rattle.stack_table.specs.declared.table.Table.{Table}
use Rattle.stack_table.specs.Seen.{shape_of_table, table_of, flips_of}
use Rattle.stack_run.specs.WrittenRun.{End}
use Rattle.stack_simplex.specs.declared.refusal.RunError.{RunError}
use Rattle.stack_simplex.specs.declared.refusal.RunError.TheVariants as runs
use Rattle.stack_tableau.specs.Written.{IsTableOf, IsWrittenTable}
use Rattle.stack_posing.specs.Posed.{posed}
use Rattle.stack_extract.specs.Certified.{end_certificate}
use Rattle.stack_revised.specs.declared.stops.RevisedStop.{RevisedStop}
use Rattle.stack_revised.specs.declared.stops.RevisedStop.TheVariants as stops
use Rattle.stack_extract.specs.declared.types.ExtractError.{ExtractError}
use Rattle.stack_extract.specs.declared.types.ExtractError.TheVariants as extract
use Rattle.stack_judge.specs.declared.types.JudgeError.{JudgeError}
use Rattle.stack_judge.specs.declared.types.JudgeError.TheVariants as errors
use Rattle.stack_judge.specs.declared.types.JudgePlace.TheVariants as places
use Rattle.stack_judge.specs.EndPlace.{lists_place, end_place}

-- the certificate of an end, or the first place of its lists
abbrev pub MakesCertificate : Result Certificate ExtractError → Question → Surveyed → End Fraction → Type 0
MakesCertificate (Ok c) q v x = (lists_place q v x ≡ None) × (end_certificate q v x ≡ Some (certificate_view c))
MakesCertificate (Err (extract.TooWide p)) q v x = lists_place q v x ≡ Some (places.End p)
MakesCertificate (Err extract.Memory) q v x = ⊤

-- the certificate of an end, which the check accepts, or the first place of its lists or of the check
abbrev pub GivesChecked : Result Certificate JudgeError → Question → Surveyed → End Fraction → Type 0
GivesChecked (Ok c) q v x = (end_place q v x ≡ None) × (end_certificate q v x ≡ Some (certificate_view c))
    × (written_check v (certificate_view c) ≡ Accepted)
GivesChecked (Err (errors.TooWide p)) q v x = end_place q v x ≡ Some p
GivesChecked (Err (errors.Spent n)) q v x = ⊥
GivesChecked (Err errors.NoLive) q v x = ⊥
GivesChecked (Err errors.Memory) q v x = ⊤

-- why there is no judgement if a run within a budget has no end
abbrev pub unjudged_as : RunError → (budget : ℕ) → JudgeError
unjudged_as (runs.TooWide p) budget = errors.TooWide (places.Run p)
unjudged_as runs.Spent budget = errors.Spent budget

-- what a revised run that has no end says of the judgement: nothing if it isn't settled
abbrev pub stopped_answer : RevisedStop → (budget : ℕ) → Option (Result Certificate JudgeError)
stopped_answer (stops.TooWide p) budget = Some (Err (errors.TooWide (places.Run p)))
stopped_answer stops.Spent budget = Some (Err (errors.Spent budget))
stopped_answer stops.Unsettled budget = None
stopped_answer stops.Memory budget = Some (Err errors.Memory)

-- a table is that of a survey's problem
pub record IsTableOfSurvey {V : Type 0} {number : Ghosts V} (q : Question) (v : Surveyed) (t : Table V number)
    : Type 0 where
  pub written : IsWrittenTable (shape_of_table t) (table_of t)
  pub posed_table : IsTableOf (posed q (scene_of v)) (shape_of_table t) (table_of t)
  pub flips : flips_of t ≡ flipped (posed q (scene_of v))
