-- How a run refuses a file that is too long, out of the theorem on the top call.
use Rattle.std.proofs.Common.{◌≡◌, ◌≢◌, refl, sym, subst, ap, ◌∙◌, ℕ, ◌<◌, Bool, true, false, List, [], ◌∷◌, Some}
use Rattle.std.proofs.Common.{Option, Result, Ok, Err, inl, inr, ◌⊎◌, length, arith}
use Rattle.std.specs.Prelude.{if◌then◌else◌, ⊤}
use Rattle.std.proofs.Math.Dec.{ltb}
use Rattle.std.proofs.lemmas.Bool.{ltb-true}
use Rattle.stack_work.proofs.Common.{Ends, Form, Found, Holds, Input, Judgement, ReadError, Refusal, ShelfSeen}
use Rattle.stack_work.proofs.Common.{StreamSeen, Work, accepted_due, built_step, certificate_step, certified, check}
use Rattle.stack_work.proofs.Common.{checked, default_budget, fault_status, gives, greatest_file, judgement, lacks_live}
use Rattle.stack_work.proofs.Common.{long, memory, outcomes, pair_of, refuses, sample_of, sample_step, sampled, spent}
use Rattle.stack_work.proofs.Common.{stack_of, staged, status_of, structure_of, survey_step, surveys, told_order}
use Rattle.stack_work.proofs.Common.{too_wide, unjudged, wall_sampled, work_of, written_check}
use Rattle.stack_work.specs.Building.{ordered_file, stages_work}
use Rattle.stack_work.specs.Checking.{certificate_work, checked_file}
use Rattle.stack_work.specs.Judging.{judge_work}
use Rattle.stack_work.specs.Listing.{contacts_work}
use Rattle.stack_work.specs.Ranging.{range_work}
use Rattle.stack_work.specs.Sampling.{sample_work}
use Rattle.stack_work.specs.Stacking.{stack_work}
use Rattle.stack_work.specs.Surveying.{modelled, surveyed_file}
use Rattle.stack_work.specs.Yielding.{directed_file, paired_file, yield_work}
use Rattle.stack_equilibrium.proofs.Common.{CertificateValue, Structure, Surveyed, certificate_of}
use Rattle.stack_overhang.specs.declared.error.StackError.{StackError}
use Rattle.stack_overhang.specs.declared.error.StackError.TheVariants as built
use Rattle.stack_contact.specs.declared.types.SurveyError.TheVariants.{Overlap, TooManyBearings, Memory}
use Rattle.stack_equilibrium.specs.declared.types.Question.TheVariants.{Live}
use Rattle.stack_report.specs.ForceNumbers.{wide_index}
use Rattle.stack_directions.specs.declared.naming.LoadPair.{LoadPair}
use Rattle.stack_directions.specs.Directions.{directions_of}
use Rattle.stack_lines.specs.declared.refusal.Input.TheVariants as inputs
use Rattle.stack_lines.specs.Errors.{from_read}
use Rattle.stack_work.specs.Building.{order_step, order_work}
use Rattle.stack_work.specs.Checking.{Accepting}
use Rattle.stack_work.specs.Forms.{files_of, contacts, judges, tables, stack, sample, ranges, builds}
use Rattle.stack_work.specs.Forms.{yields}
use Rattle.stack_work.specs.OneEnd.{AreTold}
use Rattle.stack_work.specs.Surveying.{read, model_step}
use Rattle.stack_work.specs.Tables.{table_due}
use Rattle.stack_work.specs.Work.{reads, ◌>>=◌}
use Rattle.stack_work.specs.Yielding.{loads_step, directions_step, directions_work}
use Rattle.stack_work.proofs.AcceptedFiles.{told_bytes}
use Rattle.stack_work.proofs.Beginnings.{certificate_avoids, table_avoids, due_avoids, wide_avoids, judged_avoids}
use Rattle.stack_work.proofs.Beginnings.{range_avoids, order_avoids, stage_avoids, loads_avoid, directions_avoid}
use Rattle.stack_work.proofs.Beginnings.{region_avoids}
use Rattle.stack_work.proofs.FilesNamed.{AsksOnly, form_asks}
use Rattle.stack_work.proofs.RefusedFrom.{Avoids}
use Rattle.stack_said.specs.LengthSaid.{SomeIsLong, LengthSays}
use Rattle.stack_said.specs.MainTheorem.{RunMeets}
use Rattle.stack_said.proofs.ModelAnswered.{caused_by}
use Rattle.stack_said.proofs.ModelAnswered.{of_memory, read_status}

-- A refusal of this work with status 4 comes of a file with too many bytes.
abbrev OnlyLong : {A : Type 0} → Work A → Type 0
OnlyLong (gives x) = ⊤
OnlyLong (refuses q) = fault_status q ≢ 4
OnlyLong (reads input name k) = (bytes : List ℕ) → (greatest_file < length bytes) ⊎ OnlyLong (k bytes)
OnlyLong (surveys s k) = (found : Found) → OnlyLong (k found)

spared : {A : Type 0} (w : Work A) → Avoids 4 w → OnlyLong w
spared (gives x) h = tt
spared (refuses q) h = h
spared (reads input name k) h = λ bytes. inr (spared (k bytes) (h bytes))
spared (surveys s k) h = λ found. spared (k found) (h found)

only_then : {A B : Type 0} (w : Work A) (f : A → Work B) → OnlyLong w → ((a : A) → OnlyLong (f a)) → OnlyLong (w >>= f)
only_then (gives x) f h g = g x
only_then (refuses q) f h g = h
only_then (reads input name k) f h g = λ bytes. go bytes (λ o. only_then (k bytes) f o g) (h bytes)
  where
    go : (bytes : List ℕ) → (OnlyLong (k bytes) → OnlyLong (k bytes >>= f))
        → (greatest_file < length bytes) ⊎ OnlyLong (k bytes)
        → (greatest_file < length bytes) ⊎ OnlyLong (k bytes >>= f)
    go bytes on (inl more) = inl more
    go bytes on (inr o) = inr (on o)
only_then (surveys s k) f h g = λ found. only_then (k found) f (h found) g

four : 4 < 6
four = omega arith

by_length : (input : Input) (b : Bool) (bytes : List ℕ) → ltb greatest_file (length bytes) ≡ b
    → (greatest_file < length bytes) ⊎ OnlyLong (if b then refuses (long input) else gives bytes)
by_length input true bytes is = inl (ltb-true _ _ is)
by_length input false bytes is = inr tt

read_only : (input : Input) (name : List ℕ) → OnlyLong (read input name)
read_only input name = λ bytes. by_length input (ltb greatest_file (length bytes)) bytes refl

fault_spares : (e : ReadError) → fault_status (from_read e) ≢ 4
fault_spares e is = go (of_memory (from_read e))
  where
    go : (from_read e ≡ memory) ⊎ (from_read e ≢ memory) → ⊥
    go (inl same) = absurd (omega (arith, sym is ∙ ap fault_status same))
    go (inr some) = absurd (omega (arith, sym is ∙ read_status e some))

model_spares : (m : Result Structure ReadError) → Avoids 4 (model_step m)
model_spares (Ok s) = tt
model_spares (Err e) = fault_spares e

survey_spares : (s : Structure) (found : Found) → Avoids 4 (survey_step s found)
survey_spares s (Ok v) = tt
survey_spares s (Err (Overlap i j)) = λ e. absurd (omega (arith, e))
survey_spares s (Err (TooManyBearings count)) = λ e. absurd (omega (arith, e))
survey_spares s (Err Memory) = λ e. absurd (omega (arith, e))

built_spares : (r : Result Structure StackError) → Avoids 4 (built_step r)
built_spares (Ok s) = tt
built_spares (Err built.Size) = λ e. absurd (omega (arith, e))
built_spares (Err built.Memory) = λ e. absurd (omega (arith, e))

sample_spares : (number : ℕ) (v : Surveyed) (j : Judgement) → Avoids 4 (sample_step number v j)
sample_spares number v (certified c) = tt
sample_spares number v (too_wide p) = wide_avoids 4 four _ v.structure p
sample_spares number v spent = λ e. absurd (omega (arith, e))
sample_spares number v unjudged = λ e. absurd (omega (arith, e))

surveyed_only : (name : List ℕ) → OnlyLong (surveyed_file name)
unfolding surveyed_file modelled
surveyed_only name = only_then (modelled name) _
    (only_then (read inputs.Model name) _ (read_only inputs.Model name)
    (λ text. spared (model_step (structure_of text)) (model_spares (structure_of text))))
    (λ s found. spared (survey_step s found) (survey_spares s found))

checked_only : (due : Accepting) → ((v : Surveyed) (c : CertificateValue) → Avoids 4 (due v c)) → (name : List ℕ)
    (v : Surveyed) → OnlyLong (checked_file due name v)
unfolding checked_file
checked_only due h name v = only_then (read inputs.Certificate name) (checked due v)
    (read_only inputs.Certificate name)
    (λ text. only_then (certificate_step (certificate_of text)) _
    (spared (certificate_step (certificate_of text)) (certificate_avoids 4 four (certificate_of text)))
    (λ c. spared _ (due_avoids 4 four due h v c (written_check v c))))

ordered_only : (name : List ℕ) (budget : ℕ) (v : Surveyed) → OnlyLong (ordered_file name budget v)
unfolding ordered_file
ordered_only name budget v = only_then (read inputs.Order name) (order_work budget v) (read_only inputs.Order name)
    (λ text. only_then (order_step (told_order v.structure text)) _
    (spared (order_step (told_order v.structure text)) (order_avoids 4 four (told_order v.structure text)))
    (λ order. spared _ (stage_avoids 4 four budget v order (staged v order budget))))

directed_only : (name : List ℕ) (budget : ℕ) (v : Surveyed) (loads : LoadPair)
    → OnlyLong (directed_file name budget v loads)
unfolding directed_file
directed_only name budget v loads = only_then (read inputs.Directions name) (directions_work budget v loads)
    (read_only inputs.Directions name)
    (λ text. only_then (directions_step (directions_of text)) _
    (spared (directions_step (directions_of text)) (directions_avoid 4 four (directions_of text)))
    (λ ds. spared _ (region_avoids 4 four budget v loads.i loads.j ds (outcomes v loads.i loads.j budget ds))))

paired_only : (i j : ℕ) (name : List ℕ) (budget : ℕ) (v : Surveyed) → OnlyLong (paired_file i j name budget v)
unfolding paired_file
paired_only i j name budget v = only_then (loads_step (pair_of v.structure i j)) (directed_file name budget v)
    (spared (loads_step (pair_of v.structure i j)) (loads_avoid 4 four (pair_of v.structure i j)))
    (directed_only name budget v)

wall_only : (number : ℕ) (s : Structure) → OnlyLong (wall_sampled number s)
wall_only number s = only_then (surveys s (survey_step s)) (sampled number)
    (λ found. spared (survey_step s found) (survey_spares s found))
    (λ v. spared _ (sample_spares number v (judgement Live v default_budget)))

-- The work on each form refuses with status 4 only for a file with too many bytes.
form_only : (form : Form) → OnlyLong (work_of form)
unfolding certificate_work contacts_work judge_work stack_work sample_work range_work stages_work yield_work
form_only (check model name) =
    only_then (surveyed_file model) _ (surveyed_only model) (checked_only accepted_due (λ v c. tt) name)
form_only (contacts model) = only_then (surveyed_file model) _ (surveyed_only model) (λ v. tt)
form_only (judges q model budget) = only_then (surveyed_file model) _ (surveyed_only model)
    (λ v. spared _ (judged_avoids 4 four q budget v (lacks_live q v.structure)))
form_only (tables model name) = only_then (surveyed_file model) _ (surveyed_only model)
    (checked_only table_due (λ v c. table_avoids 4 four v c (wide_index v c)) name)
form_only (stack kind n) = only_then (built_step (stack_of kind n)) _
    (spared (built_step (stack_of kind n)) (built_spares (stack_of kind n))) (λ s. tt)
form_only (sample n) = only_then (built_step (sample_of n)) _
    (spared (built_step (sample_of n)) (built_spares (sample_of n))) (wall_only n)
form_only (ranges model budget) = only_then (surveyed_file model) _ (surveyed_only model)
    (λ v. spared _ (range_avoids 4 four budget v (lacks_live Live v.structure)))
form_only (builds model name budget) =
    only_then (surveyed_file model) _ (surveyed_only model) (ordered_only name budget)
form_only (yields model i j name budget) =
    only_then (surveyed_file model) _ (surveyed_only model) (paired_only i j name budget)

-- So where all files are told, one of them has too many bytes.
long_file : {A : Type 0} (holds : Holds) (w : Work A) (all names : List (List ℕ)) (r : Refusal) → OnlyLong w
    → AsksOnly w all → AreTold holds all → Ends holds w names (Err r) → status_of r ≡ 4 → SomeIsLong holds all
long_file holds (gives x) all names r o a t p at = absurd (omega (arith, sym at ∙ ap status_of p.1))
long_file holds (refuses q) all names r o a t (none, inl same) at = absurd (o (sym (ap status_of same) ∙ at))
long_file holds (refuses q) all names r o a t (none, inr same) at = absurd (omega (arith, sym at ∙ ap status_of same))
long_file holds (reads input name k) all [] r o a t p at = absurd (omega (arith, sym at ∙ ap status_of p))
long_file holds (reads input name k) [] (n ∷ ns) r o a t p at = absurd a
long_file holds (reads input name k) (first ∷ rest) (n ∷ ns) r o a t (same, inl p) at =
    absurd (omega (arith, sym at ∙ ap status_of p.1))
long_file holds (reads input name k) (first ∷ rest) (n ∷ ns) r o a t (same, inr p) at =
    go (λ only. long_file holds (k p.0) rest ns r only (a.1 p.0) t.1 p.2 at) (o p.0)
  where
    go : (OnlyLong (k p.0) → SomeIsLong holds rest) → (greatest_file < length p.0) ⊎ OnlyLong (k p.0)
        → SomeIsLong holds (first ∷ rest)
    go on (inl more) = inl (
      t.0.0,
      t.0.1,
      subst (λ b. greatest_file < length b)
          (told_bytes (holds name) t.0.0 p.0 (ap holds a.0 ∙ t.0.1) p.1) more,
    )
    go on (inr only) = inr (on only)
long_file holds (surveys s k) all names r o a t (inl p) at = absurd (omega (arith, sym at ∙ ap status_of p.1))
long_file holds (surveys s k) all names r o a t (inr p) at =
    long_file holds (k p.0) all names r (o p.0) (a p.0) t p.2 at

says : (status : ℕ) (form : Form) (shelf : ShelfSeen) (out err : StreamSeen) → RunMeets status (Some form) shelf out err
    → LengthSays form status shelf out err
says status form shelf out err m = record {
  only_long = λ told is. let r = m.refused (omega (arith, is)) in
      let at = sym r.is_status ∙ is in
      long_file shelf.holds (work_of form) (files_of (Some form)) m.names r.refusal (form_only form)
      (form_asks form) told
      (caused_by 4 r.refusal form shelf m.names out at (λ e. absurd (omega (arith, e))) (λ e. absurd (omega (arith, e)))
      (λ e. absurd (omega (arith, e))) (λ e. absurd (omega (arith, e))) r.cause) at;
}

pub length_says : {status : ℕ} {form : Option Form} {shelf : ShelfSeen} {out err : StreamSeen}
    → RunMeets status form shelf out err → (f : Form) → form ≡ Some f → LengthSays f status shelf out err
length_says {status} {form} {shelf} {out} {err} m f is =
    says status f shelf out err
    (subst (λ f. RunMeets status f shelf out err) is m)
