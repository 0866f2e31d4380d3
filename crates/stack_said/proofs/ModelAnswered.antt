-- How a run refuses the model that its words name first, out of the theorem on the top call.
use Rattle.std.proofs.Common.{◌≡◌, ◌≢◌, refl, sym, subst, ap, ◌∙◌, ℕ, ◌<◌, ◌≤◌, Bool, true, false, List, [], ◌∷◌}
use Rattle.std.proofs.Common.{Option, Some, Result, Ok, Err, inl, inr, ◌⊎◌, length, arith, if◌then◌else◌}
use Rattle.std.proofs.Math.Dec.{ltb}
use Rattle.std.proofs.lemmas.Bool.{ltb-false, ltb-true, le-ltb, lt-ltb}
use Rattle.stack_work.proofs.Common.{Due, Ends, Fault, Form, Found, Holds, IsDefiniteRefusal, NeitherFailed, ReadError}
use Rattle.stack_work.proofs.Common.{Refusal, ShelfFailed, ShelfSeen, StreamSeen, fault_status, faulty, file, gives}
use Rattle.stack_work.proofs.Common.{greatest_file, long, memory, output, refuses, status_of, structure_of, survey_step}
use Rattle.stack_work.proofs.Common.{surveys, words, work_of}
use Rattle.stack_work.specs.Surveying.{modelled, surveyed_file}
use Rattle.stack_model.specs.Structure.{Structure}
use Rattle.stack_model.specs.declared.errors.ModelError.{ModelError}
use Rattle.stack_model.specs.declared.errors.ModelError.TheVariants as contents
use Rattle.stack_reader.specs.declared.errors.ReadError.TheVariants as reading
use Rattle.stack_contact.specs.declared.types.SurveyError.TheVariants.{Overlap, TooManyBearings, Memory}
use Rattle.stack_lines.specs.declared.refusal.Input.TheVariants as inputs
use Rattle.stack_work.specs.Forms.{files_of}
use Rattle.stack_work.specs.Work.{◌>>=◌, MayFind}
use Rattle.stack_work.specs.Surveying.{model_step}
use Rattle.stack_lines.specs.Errors.{from_read}
use Rattle.stack_said.specs.MainTheorem.{Cause, IsGivenOut, RunMeets}
use Rattle.stack_said.specs.ModelSaid.{IsRefused, ModelFault, in_text, in_pair, in_count, model_fault, ModelSays}
use Rattle.stack_said.specs.ModelSaid.{IsUnaccepted, UnacceptedCase, is_long, has_fault, wants_memory}
use Rattle.stack_work.proofs.Ways.{stops, came_from}
use Rattle.stack_work.proofs.AcceptedFiles.{told_bytes, only_accepted}
use Rattle.stack_work.proofs.RefusedFrom.{CameOf, refused_from, avoids_end}
use Rattle.stack_work.proofs.Beginnings.{Begins, begins}
use Rattle.stack_said.proofs.DefiniteEnds.{kept_at_memory, given_or_memory, refused_or_memory}

-- the ends of the work on a model's file that is told
module _ (holds : Holds) (model bytes : List ℕ) (told : holds model ≡ Some bytes) where
  abbrev Refuses : Fault → Type 0
  Refuses f = Ends holds (surveyed_file model) (model ∷ []) (Err (faulty f))

  long_ends : greatest_file < length bytes → Refuses (long inputs.Model)
  unfolding surveyed_file modelled
  long_ends more = (refl, inr (bytes, rw told refl, rw (lt-ltb greatest_file (length bytes) more) (refl, inl refl)))

  fault_ends : length bytes ≤ greatest_file → (f : ModelFault bytes) → Refuses (model_fault f)
  unfolding surveyed_file modelled
  fault_ends short (in_text e is some) =
      (refl, inr (bytes, rw told refl, rw (le-ltb greatest_file (length bytes) short, is) (refl, inl refl)))
  fault_ends short (in_pair s i j is pair) = (
    refl,
    inr (
      bytes,
      rw told refl,
      rw (le-ltb greatest_file (length bytes) short, is) (inr (Err (Overlap i j), pair, (refl, inl refl))),
    ),
  )
  fault_ends short (in_count s count is many) = (
    refl,
    inr (
      bytes,
      rw told refl,
      rw (le-ltb greatest_file (length bytes) short, is) (inr (Err (TooManyBearings count), many, (refl, inl refl))),
    ),
  )

-- a fault of a model isn't want of memory
some_fault : (bytes : List ℕ) (f : ModelFault bytes) → model_fault f ≢ memory
some_fault bytes (in_text e is some) = some
some_fault bytes (in_pair s i j is pair) = λ same. cc
some_fault bytes (in_count s count is many) = λ same. cc

definite_fault : (f : Fault) → f ≢ memory → IsDefiniteRefusal (faulty f)
definite_fault memory some = absurd (some refl)
definite_fault _ some = tt

-- each fault of a model has status 5
content_status : (e : ModelError) → from_read (reading.Model e) ≢ memory
    → fault_status (from_read (reading.Model e)) ≡ 5
content_status contents.Memory some = absurd (some refl)
content_status _ some = refl

pub read_status : (e : ReadError) → from_read e ≢ memory → fault_status (from_read e) ≡ 5
read_status (reading.Model e) some = content_status e some
read_status reading.Memory some = absurd (some refl)
read_status _ some = refl

pub model_status : (bytes : List ℕ) (f : ModelFault bytes) (n : ℕ) → status_of (faulty (model_fault f)) ≡ n → n ≢ 5 → ⊥
model_status bytes (in_text e is some) n at other = other (sym at ∙ read_status e some)
model_status bytes (in_pair s i j is pair) n at other = other (sym at)
model_status bytes (in_count s count is many) n at other = other (sym at)

-- a fault is want of memory or another one
is_memory : Fault → Bool
is_memory memory = true
is_memory _ = false

pub of_memory : (f : Fault) → (f ≡ memory) ⊎ (f ≢ memory)
of_memory memory = inl refl
of_memory _ = inr (λ same. let t = ap is_memory same in cc)

-- why the work on a model's file that is told refuses so
pub data Why (bytes : List ℕ) (r : Refusal) : Type 0 where
  for_memory : r ≡ faulty memory → Why bytes r
  for_file : r ≡ file inputs.Model → Why bytes r
  for_length : greatest_file < length bytes → r ≡ faulty (long inputs.Model) → Why bytes r
  for_fault : length bytes ≤ greatest_file → (f : ModelFault bytes) → r ≡ faulty (model_fault f) → Why bytes r

module _ (holds : Holds) (r : Refusal) where
  found_why : (bytes : List ℕ) (s : Structure) (found : Found) (names : List (List ℕ))
      → length bytes ≤ greatest_file → structure_of bytes ≡ Ok s → MayFind s found
      → Ends holds (survey_step s found) names (Err r) → Why bytes r
  found_why bytes s (Ok v) names short is may p = for_memory p.1
  found_why bytes s (Err (Overlap i j)) names short is may (none, inl p) = for_fault short (in_pair s i j is may) p
  found_why bytes s (Err (Overlap i j)) names short is may (none, inr p) = for_memory p
  found_why bytes s (Err (TooManyBearings count)) names short is may (none, inl p) =
      for_fault short (in_count s count is may) p
  found_why bytes s (Err (TooManyBearings count)) names short is may (none, inr p) = for_memory p
  found_why bytes s (Err Memory) names short is may p = absurd may

  read_why : (bytes : List ℕ) (e : ReadError) → length bytes ≤ greatest_file → structure_of bytes ≡ Err e
      → r ≡ faulty (from_read e) → (from_read e ≡ memory) ⊎ (from_read e ≢ memory) → Why bytes r
  read_why bytes e short is same (inl none) = for_memory (same ∙ ap (λ f. faulty f) none)
  read_why bytes e short is same (inr some) = for_fault short (in_text e is some) same

  text_why : (bytes : List ℕ) (e : ReadError) → length bytes ≤ greatest_file → structure_of bytes ≡ Err e
      → (r ≡ faulty (from_read e)) ⊎ (r ≡ faulty memory) → Why bytes r
  text_why bytes e short is (inl same) = read_why bytes e short is same (of_memory (from_read e))
  text_why bytes e short is (inr same) = for_memory same

  model_why : (bytes : List ℕ) (t : Result Structure ReadError) (names : List (List ℕ))
      → length bytes ≤ greatest_file → structure_of bytes ≡ t
      → Ends holds (model_step t >>= λ s. surveys s (survey_step s)) names (Err r) → Why bytes r
  model_why bytes (Ok s) names short is (inl p) = for_memory p.1
  model_why bytes (Ok s) names short is (inr p) = found_why bytes s p.0 names short is p.1 p.2
  model_why bytes (Err e) names short is p = text_why bytes e short is p.1

  file_why : (b : Bool) (bytes : List ℕ) (names : List (List ℕ)) → ltb greatest_file (length bytes) ≡ b
      → Ends holds (((if b then refuses (long inputs.Model) else gives bytes)
      >>= λ text. model_step (structure_of text)) >>= λ s. surveys s (survey_step s)) names (Err r)
      → Why bytes r
  file_why true bytes names is (none, inl p) = for_length (ltb-true _ _ is) p
  file_why true bytes names is (none, inr p) = for_memory p
  file_why false bytes names is p = model_why bytes (structure_of bytes) names (ltb-false _ _ is) refl p

  pub surveyed_why : (model bytes : List ℕ) (names : List (List ℕ)) → holds model ≡ Some bytes
      → Ends holds (surveyed_file model) names (Err r) → Why bytes r
  unfolding surveyed_file modelled
  surveyed_why model bytes [] told p = for_memory p
  surveyed_why model bytes (n ∷ ns) told (same, inl p) = for_file p.1
  surveyed_why model bytes (n ∷ ns) told (same, inr p) =
      subst (λ b. Why b r) (told_bytes (holds model) bytes p.0 told p.1)
      (file_why (ltb greatest_file (length p.0)) p.0 ns refl p.2)

-- with status 5 it is a fault of the model
abbrev Because : List ℕ → Type 0
Because bytes = (length bytes ≤ greatest_file) × ModelFault bytes

module _ (holds : Holds) (r : Refusal) (five : status_of r ≡ 5) where
  by_status : (q : Refusal) → status_of q ≢ 5 → r ≡ q → ⊥
  by_status q other same = other (sym (ap status_of same) ∙ five)

  why_because : (bytes : List ℕ) → Why bytes r → Because bytes
  why_because bytes (for_memory same) = absurd (by_status (faulty memory) (λ e. absurd (omega (arith, e))) same)
  why_because bytes (for_file same) = absurd (by_status (file inputs.Model) (λ e. absurd (omega (arith, e))) same)
  why_because bytes (for_length more same) =
      absurd (by_status (faulty (long inputs.Model)) (λ e. absurd (omega (arith, e))) same)
  why_because bytes (for_fault short f same) = (short, f)

  -- of work that begins with that file, and refuses with another status after it
  because : (form : Form) (model bytes : List ℕ) (names : List (List ℕ)) → holds model ≡ Some bytes → Begins form model
      → Ends holds (work_of form) names (Err r) → Because bytes
  because form model bytes names told b p =
      go (refused_from holds (surveyed_file model) b.0 names r (subst (λ w. Ends holds w names (Err r)) b.1 p))
    where
      go : CameOf holds (surveyed_file model) b.0 r → Because bytes
      go (inl c) = why_because bytes (surveyed_why holds r model bytes c.0 told c.1)
      go (inr c) = absurd (avoids_end 5 holds (b.0 c.0) c.2 r (λ e. absurd (omega (arith, e)))
          (λ e. absurd (omega (arith, e))) (b.2 c.0) c.4 five)

-- what refuses with status 5 is a fault of the work
caused_because : (r : Refusal) (form : Form) (shelf : ShelfSeen) (names : List (List ℕ)) (out : StreamSeen)
    → status_of r ≡ 5
    → Cause r (Some form) shelf names out → Ends shelf.holds (work_of form) names (Err r)
caused_because words form shelf names out five cause = absurd (omega (arith, five))
caused_because (file input) form shelf names out five cause = absurd (omega (arith, five))
caused_because output form shelf names out five cause = absurd (omega (arith, five))
caused_because (faulty memory) form shelf names out five cause = absurd (omega (arith, five))
caused_because r form shelf names out five cause = cause

-- a refusal with one of the statuses of the work is one of it
pub caused_by : (n : ℕ) (r : Refusal) (form : Form) (shelf : ShelfSeen) (names : List (List ℕ)) (out : StreamSeen)
    → status_of r ≡ n → n ≢ 2 → n ≢ 3 → n ≢ 10 → n ≢ 11 → Cause r (Some form) shelf names out
    → Ends shelf.holds (work_of form) names (Err r)
caused_by n words form shelf names out at a b c d cause = absurd (a (sym at))
caused_by n (file input) form shelf names out at a b c d cause = absurd (b (sym at))
caused_by n output form shelf names out at a b c d cause = absurd (c (sym at))
caused_by n (faulty memory) form shelf names out at a b c d cause = absurd (d (sym at))
caused_by n r form shelf names out at a b c d cause = cause

module _ (status : ℕ) (form : Form) (shelf : ShelfSeen) (out err : StreamSeen)
    (m : RunMeets status (Some form) shelf out err)
    (model bytes : List ℕ) (told : shelf.holds model ≡ Some bytes) (b : Begins form model) where
  refuses_as : NeitherFailed shelf out → (f : Fault) → f ≢ memory
      → Ends shelf.holds (surveyed_file model) (model ∷ []) (Err (faulty f))
      → IsRefused f status out err
  refuses_as neither f some h = refused_or_memory m f
      (given_or_memory m neither (model ∷ []) ((bytes, told), tt) (Err (faulty f)) (definite_fault f some)
      (subst (λ w. Ends shelf.holds w (model ∷ []) (Err (faulty f))) (sym b.1)
      (stops shelf.holds (surveyed_file model) b.0 (model ∷ []) (faulty f) h)))

  -- nothing but a refusal is left by a model that isn't accepted
  left_so : status ≡ 11 → UnacceptedCase bytes status out err
  left_so eleven = wants_memory (record { is_status = eleven; is_kept = kept_at_memory m eleven })

  given_why : ¬ (ShelfFailed shelf) → (r : Refusal) → Why bytes r → IsGivenOut (Err r) status out err
      → UnacceptedCase bytes status out err
  given_why no_shelf r (for_memory same) g = left_so (g.0 ∙ ap status_of same)
  given_why no_shelf r (for_file same) g = absurd (no_shelf (m.shelf_failed (g.0 ∙ ap status_of same)))
  given_why no_shelf r (for_length more same) g =
      is_long more (subst (λ q. IsGivenOut (Err q) status out err) same g)
  given_why no_shelf r (for_fault short f same) g =
      has_fault short f (subst (λ q. IsGivenOut (Err q) status out err) same g)

  end_why : NeitherFailed shelf out → IsUnaccepted bytes → (end : Result Due Refusal)
      → Ends shelf.holds (surveyed_file model >>= b.0) m.names end → IsGivenOut end status out err
      → UnacceptedCase bytes status out err
  end_why neither not (Ok due) way g =
      let c = came_from shelf.holds (surveyed_file model) b.0 m.names due way in
      absurd (not c.0 (only_accepted shelf.holds model bytes c.0 c.1 told c.3))
  end_why neither not (Err r) way g = go (refused_from shelf.holds (surveyed_file model) b.0 m.names r way)
    where
      go : CameOf shelf.holds (surveyed_file model) b.0 r → UnacceptedCase bytes status out err
      go (inl c) = given_why neither.0 r (surveyed_why shelf.holds r model bytes c.0 told c.1) g
      go (inr c) = absurd (not c.0 (only_accepted shelf.holds model bytes c.0 c.1 told c.3))

  unaccepted_by : NeitherFailed shelf out → IsUnaccepted bytes → (status ≡ 11) ⊎ ((end : Result Due Refusal)
      × Ends shelf.holds (work_of form) m.names end × IsGivenOut end status out err)
      → UnacceptedCase bytes status out err
  unaccepted_by neither not (inl eleven) = left_so eleven
  unaccepted_by neither not (inr d) =
      end_why neither not d.0 (subst (λ w. Ends shelf.holds w m.names d.0) b.1 d.1) d.2

  says : ModelSays bytes status shelf out err
  says = record {
    long_one = λ neither more. refuses_as neither (long inputs.Model) (λ same. cc)
        (long_ends shelf.holds model bytes told more);
    faulty_one = λ neither short f. refuses_as neither (model_fault f) (some_fault bytes f)
        (fault_ends shelf.holds model bytes told short f);
    only_faulty = λ five. let r = m.refused (omega (arith, five)) in
        let same = sym r.is_status ∙ five in
        because shelf.holds r.refusal same form model bytes m.names told b
        (caused_because r.refusal form shelf m.names out same r.cause);
    unaccepted = λ neither not. unaccepted_by neither not (m.decided neither);
  }

pub model_says : {status : ℕ} {form : Option Form} {shelf : ShelfSeen} {out err : StreamSeen}
    → RunMeets status form shelf out err
    → (f : Form) (model : List ℕ) (more : List (List ℕ)) (bytes : List ℕ) → form ≡ Some f
    → files_of (Some f) ≡ model ∷ more → shelf.holds model ≡ Some bytes
    → ModelSays bytes status shelf out err
model_says {status} {form} {shelf} {out} {err} m f model more bytes is named told =
    says status f shelf out err
    (subst (λ f. RunMeets status f shelf out err) is m) model bytes told
    (begins f model more named)
