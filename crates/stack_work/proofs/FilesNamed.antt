-- The work on a form asks for no files but those that its words name, in their order.
use Rattle.std.proofs.Common.{◌≡◌, ℕ, ℤ, suc, true, false, List, [], ◌∷◌, ◌++◌, take, inl, inr, Option, Some, None}
use Rattle.std.proofs.Common.{Result, Ok, Err, length, subst, sym, refl, ◌∙◌, ap, nat_lt, if◌then◌else◌}
use Rattle.std.specs.Bool.{⊤}
use Rattle.stack_equilibrium.proofs.Common.{CertificateValue, Structure, Surveyed, certificate_of}
use Rattle.stack_equilibrium.specs.declared.types.Question.{Question}
use Rattle.stack_reader.specs.declared.errors.ReadError.{ReadError}
use Rattle.stack_reader.specs.Reading.{structure_of}
use Rattle.stack_checker.specs.declared.types.Check.{Check}
use Rattle.stack_checker.specs.declared.types.Check.TheVariants.{Accepted, Rejected, TooWide}
use Rattle.stack_checker.specs.WrittenCheck.{written_check}
use Rattle.stack_equilibrium.specs.declared.types.Question.TheVariants.{Live}
use Rattle.stack_judge.specs.Judgement.{Judgement, certified, too_wide, spent, unjudged, judgement}
use Rattle.stack_lines.specs.declared.refusal.Input.{Input}
use Rattle.stack_lines.specs.declared.refusal.Input.TheVariants as inputs
use Rattle.stack_work.specs.Forms.{Form, check, contacts, judges, tables, stack, sample, ranges, builds, yields}
use Rattle.stack_work.specs.Forms.{files_of, work_of}
use Rattle.stack_work.specs.Judging.{default_budget, lacks_live, judged_step, judged, judge_work}
use Rattle.stack_lines.specs.Refusals.{Refusal, long, no_live}
use Rattle.stack_work.specs.Answers.{Due}
use Rattle.stack_work.specs.Work.{Work, gives, refuses, reads, surveys, ◌>>=◌, Found, Holds, Ends}
use Rattle.stack_work.specs.Surveying.{greatest_file, read, model_step, survey_step, modelled, surveyed_file}
use Rattle.stack_work.specs.Checking.{Accepting, certificate_step, certificate_due, checked_file, certificate_work}
use Rattle.stack_work.specs.Checking.{accepted_due}
use Rattle.stack_work.specs.Listing.{contacts_work}
use Rattle.stack_work.specs.Tables.{tabled_by, table_due}
use Rattle.stack_work.specs.Stacking.{stack_of, built_step, stack_work}
use Rattle.stack_work.specs.Sampling.{sample_of, sample_step, wall_sampled, sample_work}
use Rattle.stack_report.specs.ForceNumbers.{wide_index}
use Rattle.stack_overhang.specs.declared.error.StackError.{StackError}
use Rattle.stack_work.specs.Ranging.{range_step, range_told, range_work}
use Rattle.stack_range.specs.RangeJudgement.{RangeJudgement, told, wide_on, spent_on, no_range, range_judgement}
use Rattle.stack_orders.specs.OrderRead.{told_order}
use Rattle.stack_stages.specs.Staged.{Staged, all_stand, falls, too_wide_at, spent_at, no_stages, staged}
use Rattle.stack_work.specs.Building.{order_step, stages_step, ordered_file, stages_work}
use Rattle.stack_directions.specs.declared.naming.LoadPair.{LoadPair}
use Rattle.stack_directions.specs.Directions.{directions_of}
use Rattle.stack_directions.specs.Pairing.{pair_of}
use Rattle.stack_yield.specs.Outcomes.{Outcomes, answered, passes_at, spends_at, no_outcomes, outcomes}
use Rattle.stack_work.specs.Yielding.{loads_step, directions_step, region_step, directed_file, paired_file, yield_work}
use Rattle.stack_work.specs.Progress.{ToldNames, GrewBy, Way}

-- The work asks for no files but these, in order, and for all of them where it gives a value.
abbrev pub AsksOnly : {A : Type 0} → Work A → List (List ℕ) → Type 0
AsksOnly (gives x) all = all ≡ []
AsksOnly (refuses q) all = ⊤
AsksOnly (reads input name k) [] = ⊥
AsksOnly (reads input name k) (first ∷ rest) = (name ≡ first) × ((bytes : List ℕ) → AsksOnly (k bytes) rest)
AsksOnly (surveys s k) all = (found : Found) → AsksOnly (k found) all

-- A front of them is asked for.
front_of : {A : Type 0} (holds : Holds) (w : Work A) (all names : List (List ℕ)) (end : Result A Refusal)
    → AsksOnly w all → Ends holds w names end → (n : ℕ) × (names ≡ take n all)
front_of holds (gives x) all names end h p = (0, p.0)
front_of holds (refuses q) all names end h p = (0, p.0)
front_of holds (reads input name k) all [] end h p = (0, refl)
front_of holds (reads input name k) [] (n ∷ ns) end h p = absurd h
front_of holds (reads input name k) (first ∷ rest) (n ∷ ns) end h (same, inl p) =
    (1, ap (λ x. x ∷ ns) (same ∙ h.0) ∙ ap (λ xs. first ∷ xs) p.0)
front_of holds (reads input name k) (first ∷ rest) (n ∷ ns) end h (same, inr p) =
    let more = front_of holds (k p.0) rest ns end (h.1 p.0) p.2 in
    (suc more.0, ap (λ x. x ∷ ns) (same ∙ h.0) ∙ ap (λ xs. first ∷ xs) more.1)
front_of holds (surveys s k) all names end h (inl p) = (0, p.0)
front_of holds (surveys s k) all names end h (inr p) = front_of holds (k p.0) all names end (h p.0) p.2

asks_then : {A B : Type 0} (w : Work A) (f : A → Work B) (front rest : List (List ℕ)) → AsksOnly w front
    → ((a : A) → AsksOnly (f a) rest) → AsksOnly (w >>= f) (front ++ rest)
asks_then (gives x) f front rest h g = subst (λ names. AsksOnly (f x) (names ++ rest)) (sym h) (g x)
asks_then (refuses q) f front rest h g = tt
asks_then (reads input name k) f [] rest h g = absurd h
asks_then (reads input name k) f (first ∷ front) rest h g =
    (h.0, λ bytes. asks_then (k bytes) f front rest (h.1 bytes) g)
asks_then (surveys s k) f front rest h g = λ found. asks_then (k found) f front rest (h found) g

read_asks : (input : Input) (name : List ℕ) → AsksOnly (read input name) (name ∷ [])
read_asks input name = (
  refl,
  λ bytes. elim (nat_lt greatest_file (length bytes)) as (λ b. AsksOnly
      (if b then refuses (long input) else gives bytes) [])
      [ true ↦ tt | false ↦ refl ],
)

model_asks : (m : Result Structure ReadError) → AsksOnly (model_step m) []
model_asks (Ok s) = refl
model_asks (Err e) = tt

survey_asks : (s : Structure) (found : Found) → AsksOnly (survey_step s found) []
survey_asks s (Ok v) = refl
survey_asks s (Err e) = tt

certificate_asks : (c : Result CertificateValue ℕ) → AsksOnly (certificate_step c) []
certificate_asks (Ok c) = refl
certificate_asks (Err number) = tt

surveyed_asks : (name : List ℕ) → AsksOnly (surveyed_file name) (name ∷ [])
unfolding surveyed_file modelled
surveyed_asks name =
    asks_then (modelled name) _ (name ∷ []) []
    (asks_then (read inputs.Model name) _ (name ∷ []) [] (read_asks inputs.Model name)
    (λ text. model_asks (structure_of text)))
    (λ s found. survey_asks s found)

-- What is due of an accepted certificate asks for no file.
abbrev AsksNone : Accepting → Type 0
AsksNone due = (v : Surveyed) (c : CertificateValue) → AsksOnly (due v c) []

due_asks : (due : Accepting) → AsksNone due → (v : Surveyed) (c : CertificateValue) (k : Check)
    → AsksOnly (certificate_due due v c k) []
due_asks due none v c Accepted = none v c
due_asks due none v c (Rejected part reason) = refl
due_asks due none v c (TooWide place) = tt

checked_asks : (due : Accepting) → AsksNone due → (name : List ℕ) (v : Surveyed)
    → AsksOnly (checked_file due name v) (name ∷ [])
unfolding checked_file
checked_asks due none name v =
    asks_then (read inputs.Certificate name) _ (name ∷ []) [] (read_asks inputs.Certificate name)
    (λ text. asks_then (certificate_step (certificate_of text)) _ [] [] (certificate_asks (certificate_of text))
    (λ c. due_asks due none v c (written_check v c)))

certificate_work_asks : (due : Accepting) → AsksNone due → (model name : List ℕ)
    → AsksOnly (certificate_work due model name) (model ∷ name ∷ [])
unfolding certificate_work
certificate_work_asks due none model name =
    asks_then (surveyed_file model) _ (model ∷ []) (name ∷ []) (surveyed_asks model) (checked_asks due none name)

judgement_asks : (q : Question) (budget : ℕ) (v : Surveyed) (j : Judgement) → AsksOnly (judged_step q budget v j) []
judgement_asks q budget v (certified c) = refl
judgement_asks q budget v (too_wide p) = tt
judgement_asks q budget v spent = tt
judgement_asks q budget v unjudged = tt

judged_asks : (q : Question) (budget : ℕ) (v : Surveyed) → AsksOnly (judged q budget v) []
judged_asks q budget v = elim (lacks_live q v.structure)
    as (λ b. AsksOnly (if b then refuses no_live else judged_step q budget v (judgement q v budget)) [])
    [ true ↦ tt | false ↦ judgement_asks q budget v (judgement q v budget) ]

tables_asks : (v : Surveyed) (c : CertificateValue) (o : Option ℕ) → AsksOnly (tabled_by v c o) []
tables_asks v c None = refl
tables_asks v c (Some index) = tt

built_asks : (r : Result Structure StackError) → AsksOnly (built_step r) []
built_asks (Ok s) = refl
built_asks (Err e) = tt

sample_asks : (number : ℕ) (v : Surveyed) (j : Judgement) → AsksOnly (sample_step number v j) []
sample_asks number v (certified c) = refl
sample_asks number v (too_wide p) = tt
sample_asks number v spent = tt
sample_asks number v unjudged = tt

wall_asks : (number : ℕ) (s : Structure) → AsksOnly (wall_sampled number s) []
wall_asks number s = asks_then (surveys s (survey_step s)) _ [] [] (λ found. survey_asks s found)
    (λ v. sample_asks number v (judgement Live v default_budget))

range_asks : (budget : ℕ) (v : Surveyed) (j : RangeJudgement) → AsksOnly (range_step budget v j) []
range_asks budget v (told r) = refl
range_asks budget v (wide_on side p) = tt
range_asks budget v (spent_on side) = tt
range_asks budget v no_range = tt

range_told_asks : (budget : ℕ) (v : Surveyed) → AsksOnly (range_told budget v) []
range_told_asks budget v = elim (lacks_live Live v.structure)
    as (λ b. AsksOnly (if b then refuses no_live else range_step budget v (range_judgement v budget)) [])
    [ true ↦ tt | false ↦ range_asks budget v (range_judgement v budget) ]

order_asks : (r : Result (List ℕ) ℕ) → AsksOnly (order_step r) []
order_asks (Ok order) = refl
order_asks (Err number) = tt

stages_asks : (budget : ℕ) (v : Surveyed) (order : List ℕ) (x : Staged) → AsksOnly (stages_step budget v order x) []
stages_asks budget v order (all_stand fs) = refl
stages_asks budget v order (falls fs m) = refl
stages_asks budget v order (too_wide_at k p) = tt
stages_asks budget v order (spent_at k) = tt
stages_asks budget v order no_stages = tt

ordered_asks : (name : List ℕ) (budget : ℕ) (v : Surveyed) → AsksOnly (ordered_file name budget v) (name ∷ [])
unfolding ordered_file
ordered_asks name budget v =
    asks_then (read inputs.Order name) _ (name ∷ []) [] (read_asks inputs.Order name)
    (λ text. asks_then (order_step (told_order v.structure text)) _ [] [] (order_asks (told_order v.structure text))
    (λ order. stages_asks budget v order (staged v order budget)))

loads_asks : (r : Result LoadPair ℕ) → AsksOnly (loads_step r) []
loads_asks (Ok loads) = refl
loads_asks (Err load) = tt

directions_asks : (r : Result (List (ℤ × ℤ)) ℕ) → AsksOnly (directions_step r) []
directions_asks (Ok ds) = refl
directions_asks (Err number) = tt

region_asks : (budget : ℕ) (v : Surveyed) (i j : ℕ) (ds : List (ℤ × ℤ)) (x : Outcomes)
    → AsksOnly (region_step budget v i j ds x) []
region_asks budget v i j ds (answered r) = refl
region_asks budget v i j ds (passes_at k p) = tt
region_asks budget v i j ds (spends_at k) = tt
region_asks budget v i j ds no_outcomes = tt

directed_asks : (name : List ℕ) (budget : ℕ) (v : Surveyed) (loads : LoadPair)
    → AsksOnly (directed_file name budget v loads) (name ∷ [])
unfolding directed_file
directed_asks name budget v loads =
    asks_then (read inputs.Directions name) _ (name ∷ []) [] (read_asks inputs.Directions name)
    (λ text. asks_then (directions_step (directions_of text)) _ [] [] (directions_asks (directions_of text))
    (λ ds. region_asks budget v loads.i loads.j ds (outcomes v loads.i loads.j budget ds)))

paired_asks : (i j : ℕ) (name : List ℕ) (budget : ℕ) (v : Surveyed)
    → AsksOnly (paired_file i j name budget v) (name ∷ [])
unfolding paired_file
paired_asks i j name budget v = asks_then (loads_step (pair_of v.structure i j)) _ [] (name ∷ [])
    (loads_asks (pair_of v.structure i j)) (directed_asks name budget v)

-- The work on each form asks only for the files that the form names.
pub form_asks : (form : Form) → AsksOnly (work_of form) (files_of (Some form))
unfolding contacts_work judge_work stack_work sample_work range_work stages_work yield_work
form_asks (check model certificate) = certificate_work_asks accepted_due (λ v c. refl) model certificate
form_asks (judges question model budget) = asks_then (surveyed_file model) _ (model ∷ []) [] (surveyed_asks model)
    (λ v. judged_asks question budget v)
form_asks (ranges model budget) = asks_then (surveyed_file model) _ (model ∷ []) [] (surveyed_asks model)
    (λ v. range_told_asks budget v)
form_asks (builds model order budget) =
    asks_then (surveyed_file model) _ (model ∷ []) (order ∷ []) (surveyed_asks model) (ordered_asks order budget)
form_asks (yields model i j directions budget) = asks_then (surveyed_file model) _ (model ∷ []) (directions ∷ [])
    (surveyed_asks model) (paired_asks i j directions budget)
form_asks (tables model certificate) =
    certificate_work_asks table_due (λ v c. tables_asks v c (wide_index v c)) model certificate
form_asks (stack kind n) = asks_then (built_step (stack_of kind n)) _ [] [] (built_asks (stack_of kind n)) (λ s. refl)
form_asks (sample n) = asks_then (built_step (sample_of n)) _ [] [] (built_asks (sample_of n)) (wall_asks n)
form_asks (contacts model) = asks_then (surveyed_file model) _ (model ∷ []) [] (surveyed_asks model) (λ v. refl)

pub asked_named : (holds : Holds) (form : Option Form) (names : List (List ℕ)) (end : Result Due Refusal)
    (old new : ToldNames) → Way holds form names end → GrewBy old new names
    → (n : ℕ) × GrewBy old new (take n (files_of form))
asked_named holds None names end old new way grew = (0, subst (GrewBy old new) way.0 grew)
asked_named holds (Some form) names end old new way grew =
    let front = front_of holds (work_of form) (files_of (Some form)) names end (form_asks form) way in
    (front.0, subst (GrewBy old new) front.1 grew)
