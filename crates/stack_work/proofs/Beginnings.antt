-- The work on a form of words that names files begins with the survey of the first, and no refusal after that has the
-- status of a faulty model.
use Rattle.std.proofs.Common.{◌≡◌, refl, subst, ap, ℕ, ◌+◌, ◌<◌, ℤ, Bool, true, false, List, [], ◌∷◌, Option, Some}
use Rattle.std.proofs.Common.{None, Result, Ok, Err, length, arith, if◌then◌else◌}
use Rattle.std.proofs.Math.Dec.{ltb}
use Rattle.stack_equilibrium.proofs.Common.{CertificateValue, Structure, Surveyed, certificate_of}
use Rattle.stack_equilibrium.specs.declared.types.Question.{Question}
use Rattle.stack_equilibrium.specs.declared.types.Question.TheVariants.{Live}
use Rattle.stack_checker.specs.declared.types.Check.{Check}
use Rattle.stack_checker.specs.declared.types.Check.TheVariants.{Accepted, Rejected, TooWide}
use Rattle.stack_checker.specs.WrittenCheck.{written_check}
use Rattle.stack_judge.specs.declared.types.JudgePlace.{JudgePlace}
use Rattle.stack_judge.specs.declared.types.JudgePlace.TheVariants as places
use Rattle.stack_judge.specs.Judgement.{Judgement, certified, too_wide, spent, unjudged, judgement}
use Rattle.stack_range.specs.RangeJudgement.{RangeJudgement, told, wide_on, spent_on, no_range, range_judgement}
use Rattle.stack_report.specs.ForceNumbers.{wide_index}
use Rattle.stack_stages.specs.Stage.{stage}
use Rattle.stack_orders.specs.OrderRead.{told_order}
use Rattle.stack_stages.specs.Staged.{Staged, all_stand, falls, too_wide_at, spent_at, no_stages, staged}
use Rattle.stack_yield.specs.declared.types.RegionPlace.{RegionPlace}
use Rattle.stack_yield.specs.declared.types.RegionPlace.TheVariants as region_places
use Rattle.stack_directions.specs.declared.naming.LoadPair.{LoadPair}
use Rattle.stack_directions.specs.Directions.{directions_of}
use Rattle.stack_yield.specs.Outcomes.{Outcomes, answered, passes_at, spends_at, no_outcomes, outcomes}
use Rattle.stack_directions.specs.Pairing.{pair_of}
use Rattle.stack_lines.specs.declared.refusal.Input.{Input}
use Rattle.stack_lines.specs.declared.refusal.Input.TheVariants as inputs
use Rattle.stack_lines.specs.declared.refusal.Within.{Within}
use Rattle.stack_lines.specs.declared.refusal.Within.TheVariants.{Stage}
use Rattle.stack_lines.specs.Refusals.{long, no_live}
use Rattle.stack_work.specs.Forms.{Form, check, contacts, judges, tables, stack, sample, ranges, builds, yields}
use Rattle.stack_work.specs.Forms.{files_of, work_of}
use Rattle.stack_work.specs.Answers.{Due}
use Rattle.stack_work.specs.Work.{Work, gives, refuses, ◌>>=◌}
use Rattle.stack_work.specs.Surveying.{greatest_file, read, surveyed_file}
use Rattle.stack_work.specs.Checking.{Accepting, certificate_step, certificate_due, checked, checked_file}
use Rattle.stack_work.specs.Checking.{certificate_work, accepted_due}
use Rattle.stack_work.specs.Listing.{contacts_due, contacts_work}
use Rattle.stack_work.specs.Judging.{lacks_live, wide_within, judged_step, judged, judge_work}
use Rattle.stack_work.specs.Tables.{tabled_by, table_due}
use Rattle.stack_work.specs.Ranging.{range_step, range_told, range_work}
use Rattle.stack_work.specs.Building.{order_step, stages_step, order_work, ordered_file, stages_work}
use Rattle.stack_work.specs.Yielding.{loads_step, directions_step, wide_toward, region_step, directions_work}
use Rattle.stack_work.specs.Yielding.{directed_file, paired_file, yield_work}
use Rattle.stack_work.proofs.RefusedFrom.{Avoids, avoids_then}

-- the work after the survey of the model
abbrev pub Begins : Form → List ℕ → Type 0
Begins form model = (f : Surveyed → Work Due) × (work_of form ≡ surveyed_file model >>= f)
    × ((v : Surveyed) → Avoids 5 (f v))

-- No step after the survey of the model refuses with status 4 or 5.
module _ (n : ℕ) (few : n < 6) where
  pub certificate_avoids : (r : Result CertificateValue ℕ) → Avoids n (certificate_step r)
  certificate_avoids (Ok c) = tt
  certificate_avoids (Err number) = λ e. absurd (omega (arith, e, few))

  pub table_avoids : (v : Surveyed) (c : CertificateValue) (o : Option ℕ) → Avoids n (tabled_by v c o)
  table_avoids v c None = tt
  table_avoids v c (Some index) = λ e. absurd (omega (arith, e, few))

  -- what is done by the check of a certificate refuses so only where what is done with an accepted one does
  pub due_avoids : (due : Accepting) → ((v : Surveyed) (c : CertificateValue) → Avoids n (due v c)) → (v : Surveyed)
      (c : CertificateValue) (k : Check) → Avoids n (certificate_due due v c k)
  due_avoids due h v c Accepted = h v c
  due_avoids due h v c (Rejected part reason) = tt
  due_avoids due h v c (TooWide place) = λ e. absurd (omega (arith, e, few))

  pub wide_avoids : (w : Within) (s : Structure) (p : JudgePlace) → Avoids {A = Due} n (refuses (wide_within w s p))
  wide_avoids w s (places.Run p) = λ e. absurd (omega (arith, e, few))
  wide_avoids w s (places.End p) = λ e. absurd (omega (arith, e, few))
  wide_avoids w s (places.Check p) = λ e. absurd (omega (arith, e, few))

  pub judgement_avoids : (q : Question) (budget : ℕ) (v : Surveyed) (j : Judgement)
      → Avoids n (judged_step q budget v j)
  judgement_avoids q budget v (certified c) = tt
  judgement_avoids q budget v (too_wide p) = wide_avoids _ v.structure p
  judgement_avoids q budget v spent = λ e. absurd (omega (arith, e, few))
  judgement_avoids q budget v unjudged = λ e. absurd (omega (arith, e, few))

  pub judged_avoids : (q : Question) (budget : ℕ) (v : Surveyed) (b : Bool)
      → Avoids n (if b then refuses no_live else judged_step q budget v (judgement q v budget))
  judged_avoids q budget v true = λ e. absurd (omega (arith, e, few))
  judged_avoids q budget v false = judgement_avoids q budget v (judgement q v budget)

  pub side_avoids : (budget : ℕ) (v : Surveyed) (j : RangeJudgement) → Avoids n (range_step budget v j)
  side_avoids budget v (told r) = tt
  side_avoids budget v (wide_on side p) = wide_avoids _ v.structure p
  side_avoids budget v (spent_on side) = λ e. absurd (omega (arith, e, few))
  side_avoids budget v no_range = λ e. absurd (omega (arith, e, few))

  pub range_avoids : (budget : ℕ) (v : Surveyed) (b : Bool)
      → Avoids n (if b then refuses no_live else range_step budget v (range_judgement v budget))
  range_avoids budget v true = λ e. absurd (omega (arith, e, few))
  range_avoids budget v false = side_avoids budget v (range_judgement v budget)

  pub order_avoids : (r : Result (List ℕ) ℕ) → Avoids n (order_step r)
  order_avoids (Ok order) = tt
  order_avoids (Err number) = λ e. absurd (omega (arith, e, few))

  pub stage_avoids : (budget : ℕ) (v : Surveyed) (order : List ℕ) (x : Staged) → Avoids n (stages_step budget v order x)
  stage_avoids budget v order (all_stand fs) = tt
  stage_avoids budget v order (falls fs m) = tt
  stage_avoids budget v order (too_wide_at k p) = wide_avoids (Stage k) (stage v.structure order k) p
  stage_avoids budget v order (spent_at k) = λ e. absurd (omega (arith, e, few))
  stage_avoids budget v order no_stages = λ e. absurd (omega (arith, e, few))

  pub loads_avoid : (r : Result LoadPair ℕ) → Avoids n (loads_step r)
  loads_avoid (Ok loads) = tt
  loads_avoid (Err load) = λ e. absurd (omega (arith, e, few))

  pub directions_avoid : (r : Result (List (ℤ × ℤ)) ℕ) → Avoids n (directions_step r)
  directions_avoid (Ok ds) = tt
  directions_avoid (Err number) = λ e. absurd (omega (arith, e, few))

  pub toward_avoids : (k : ℕ) (s : Structure) (p : RegionPlace) → Avoids {A = Due} n (refuses (wide_toward k s p))
  toward_avoids k s (region_places.Judge p) = wide_avoids _ s p
  toward_avoids k s region_places.First = λ e. absurd (omega (arith, e, few))
  toward_avoids k s region_places.Second = λ e. absurd (omega (arith, e, few))
  toward_avoids k s region_places.Point = λ e. absurd (omega (arith, e, few))

  pub region_avoids : (budget : ℕ) (v : Surveyed) (i j : ℕ) (ds : List (ℤ × ℤ)) (o : Outcomes)
      → Avoids n (region_step budget v i j ds o)
  region_avoids budget v i j ds (answered r) = tt
  region_avoids budget v i j ds (passes_at k p) = toward_avoids (k + 1) v.structure p
  region_avoids budget v i j ds (spends_at k) = λ e. absurd (omega (arith, e, few))
  region_avoids budget v i j ds no_outcomes = λ e. absurd (omega (arith, e, few))

long_avoids : (input : Input) (b : Bool) (bytes : List ℕ)
    → Avoids 5 (if b then refuses (long input) else gives bytes)
long_avoids input true bytes = λ e. absurd (omega (arith, e))
long_avoids input false bytes = tt

read_avoids : (input : Input) (name : List ℕ) → Avoids 5 (read input name)
read_avoids input name = λ bytes. long_avoids input (ltb greatest_file (length bytes)) bytes

five : 5 < 6
five = omega arith

checked_avoids : (due : Accepting) → ((v : Surveyed) (c : CertificateValue) → Avoids 5 (due v c)) → (name : List ℕ)
    (v : Surveyed) → Avoids 5 (checked_file due name v)
unfolding checked_file
checked_avoids due h name v = avoids_then 5 (read inputs.Certificate name) (checked due v)
    (read_avoids inputs.Certificate name)
    (λ text. avoids_then 5 (certificate_step (certificate_of text)) _ (certificate_avoids 5 five (certificate_of text))
    (λ c. due_avoids 5 five due h v c (written_check v c)))

ordered_avoids : (name : List ℕ) (budget : ℕ) (v : Surveyed) → Avoids 5 (ordered_file name budget v)
unfolding ordered_file
ordered_avoids name budget v =
    avoids_then 5 (read inputs.Order name) (order_work budget v) (read_avoids inputs.Order name)
    (λ text. avoids_then 5 (order_step (told_order v.structure text)) _
    (order_avoids 5 five (told_order v.structure text))
    (λ order. stage_avoids 5 five budget v order (staged v order budget)))

directed_avoids : (name : List ℕ) (budget : ℕ) (v : Surveyed) (loads : LoadPair)
    → Avoids 5 (directed_file name budget v loads)
unfolding directed_file
directed_avoids name budget v loads = avoids_then 5 (read inputs.Directions name) (directions_work budget v loads)
    (read_avoids inputs.Directions name)
    (λ text. avoids_then 5 (directions_step (directions_of text)) _ (directions_avoid 5 five (directions_of text))
    (λ ds. region_avoids 5 five budget v loads.i loads.j ds (outcomes v loads.i loads.j budget ds)))

paired_avoids : (i j : ℕ) (name : List ℕ) (budget : ℕ) (v : Surveyed) → Avoids 5 (paired_file i j name budget v)
unfolding paired_file
paired_avoids i j name budget v = avoids_then 5 (loads_step (pair_of v.structure i j)) (directed_file name budget v)
    (loads_avoid 5 five (pair_of v.structure i j)) (directed_avoids name budget v)

abbrev head : List (List ℕ) → List ℕ
head [] = []
head (name ∷ names) = name

-- the work on each form that names a file begins with the survey of the first
pub begins : (form : Form) (model : List ℕ) (more : List (List ℕ)) → files_of (Some form) ≡ model ∷ more
    → Begins form model
unfolding certificate_work contacts_work judge_work range_work stages_work yield_work
begins (check m name) model more is =
    subst (Begins (check m name)) (ap head is)
    (checked_file accepted_due name, refl, checked_avoids accepted_due (λ v c. tt) name)
begins (contacts m) model more is = subst (Begins (contacts m)) (ap head is) (contacts_due, refl, λ v. tt)
begins (judges q m budget) model more is = subst (Begins (judges q m budget)) (ap head is)
    (judged q budget, refl, λ v. judged_avoids 5 five q budget v (lacks_live q v.structure))
begins (tables m name) model more is =
    subst (Begins (tables m name)) (ap head is)
    (checked_file table_due name, refl, checked_avoids table_due (λ v c. table_avoids 5 five v c (wide_index v c)) name)
begins (stack kind n) model more is = absurd cc
begins (sample n) model more is = absurd cc
begins (ranges m budget) model more is = subst (Begins (ranges m budget)) (ap head is)
    (range_told budget, refl, λ v. range_avoids 5 five budget v (lacks_live Live v.structure))
begins (builds m name budget) model more is = subst (Begins (builds m name budget)) (ap head is)
    (ordered_file name budget, refl, ordered_avoids name budget)
begins (yields m i j name budget) model more is = subst (Begins (yields m i j name budget)) (ap head is)
    (paired_file i j name budget, refl, paired_avoids i j name budget)
