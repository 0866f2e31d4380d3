-- A run fulfils the promise of its form, out of the theorem on the top call and of the ends of the form's work.
use Rattle.std.proofs.Common.{◌≡◌, refl, sym, subst, ap, ◌∙◌, ℕ, zero, suc, ◌<◌, Bool, true, false, List, [], ◌∷◌, ◌⊎◌}
use Rattle.std.proofs.Common.{inl, inr, Option, Some, Result, Ok, Err, length, arith, if◌then◌else◌}
use Rattle.std.specs.Prelude.{⊤}
use Rattle.std.proofs.Math.Dec.{ltb}
use Rattle.std.proofs.lemmas.Bool.{le-ltb, lt-ltb}
use Rattle.stack_work.proofs.Common.{Due, Ends, Fault, Form, Holds, Input, IsAcceptedModel, IsDefinite}
use Rattle.stack_work.proofs.Common.{IsDefiniteRefusal, NeitherFailed, Refusal, ShelfSeen, StreamSeen, Work}
use Rattle.stack_work.proofs.Common.{fault_status, faulty, file, gives, greatest_file, long, memory, output, refuses}
use Rattle.stack_work.proofs.Common.{status_of, surveyed_file, words, work_of}
use Rattle.stack_contact.specs.Surveyed.{Surveyed}
use Rattle.stack_work.specs.Surveying.{read}
use Rattle.stack_work.specs.Work.{◌>>=◌, MayHold}
use Rattle.stack_work.proofs.AcceptedFiles.{told_bytes, only_accepted, all_accepted}
use Rattle.stack_work.proofs.OneEnd.{one_end}
use Rattle.stack_work.proofs.RefusedFrom.{CameOf, refused_from}
use Rattle.stack_work.proofs.Ways.{came_from}
use Rattle.stack_said.specs.Delivery.{SaysLine}
use Rattle.stack_said.specs.MainTheorem.{Answered, Cause, OutputAfter, IsGivenOut, RunMeets}
use Rattle.stack_said.specs.Promise.{IsShort, Leaves, Promise, told_as, GivesOut, IsOfWork, IsOwn}
use Rattle.stack_said.specs.Promise.{FulfilsOn, Fulfils, FulfilsAtOnce}
use Rattle.stack_said.proofs.ModelAnswered.{Why, for_memory, for_file, for_length, for_fault, model_status}
use Rattle.stack_said.proofs.ModelAnswered.{surveyed_why}
use Rattle.stack_said.proofs.DefiniteEnds.{kept_at_memory}

-- Each definite end of this work is one that is due.
abbrev pub EndsIn : Holds → Work Due → (Result Due Fault → Type 0) → Type 0
EndsIn holds w IsDue = (names : List (List ℕ)) (end : Result Due Refusal) → Ends holds w names end → IsDefinite end
    → (e : Result Due Fault) × IsDue e × (end ≡ told_as e)

-- What a form shows of its promise: some case comes; in it its work ends in one of these ends; and if such an end was
-- given out, then with the case's status, and it is what is due.
pub record WorkGives {On : Type 0} (promise : Promise On) (IsOn : On → Type 0) (holds : Holds) (f : On → Work Due)
    (IsEnd : On → promise.Case → Result Due Fault → Type 0) : Type 0 where
  pub some : (v : On) → IsOn v → (x : promise.Case) × promise.Comes v x
  pub each : (v : On) → IsOn v → (x : promise.Case) → promise.Comes v x → EndsIn holds (f v) (IsEnd v x)
  pub tells : (v : On) (x : promise.Case) (e : Result Due Fault) → IsEnd v x e → (n : ℕ) (out err : StreamSeen)
      → IsGivenOut (told_as e) n out err → promise.IsStatus x n × promise.IsDue v x e

-- Work that ends at once.
abbrev pub once : Result Due Fault → Work Due
once (Ok due) = gives due
once (Err f) = refuses f

once_only : (holds : Holds) (e : Result Due Fault) (names : List (List ℕ)) (end : Result Due Refusal)
    → Ends holds (once e) names end → IsDefinite end → end ≡ told_as e
once_only holds (Ok due) names (Ok other) p definite = ap (λ x. Ok x) (sym p.1)
once_only holds (Ok due) names (Err r) p definite = absurd (subst IsDefiniteRefusal p.1 definite)
once_only holds (Err f) names (Ok other) p definite = absurd p.1
once_only holds (Err f) names (Err r) (none, inl is) definite = ap (λ x. Err x) is
once_only holds (Err f) names (Err r) (none, inr is) definite = absurd (subst IsDefiniteRefusal is definite)

pub at_once : (holds : Holds) (w : Work Due) {IsDue : Result Due Fault → Type 0} (e : Result Due Fault) → IsDue e
    → w ≡ once e → EndsIn holds w IsDue
at_once holds w e due is names end p definite =
    (e, due, once_only holds e names end (subst (λ x. Ends holds x names end) is p) definite)

-- A fault that is due was given out with its own status.
pub fault_is : {f : Fault} {e : Result Due Fault} {n : ℕ} (out err : StreamSeen) → e ≡ Err f
    → IsGivenOut (told_as e) n out err → n ≡ fault_status f
fault_is {f} {e} {n} out err is g = (subst (λ d. IsGivenOut (told_as d) n out err) is g).0

-- Work on a further file, whatever it may hold; where it is told and short; and where it is too long.
module _ (holds : Holds) (input : Input) (name : List ℕ) (k : List ℕ → Work Due) where
  abbrev after_length : Bool → List ℕ → Work Due
  after_length b text = (if b then refuses (long input) else gives text) >>= k

  abbrev Goes : (Result Due Fault → Type 0) → List ℕ → Type 0
  Goes IsDue text = EndsIn holds (after_length (ltb greatest_file (length text)) text) IsDue

  pub read_any : {IsDue : Result Due Fault → Type 0} → ((text : List ℕ) → MayHold (holds name) text → Goes IsDue text)
      → EndsIn holds (read input name >>= k) IsDue
  read_any h [] (Ok due) p definite = absurd p
  read_any h [] (Err r) p definite = absurd (subst IsDefiniteRefusal p definite)
  read_any h (a ∷ ns) (Ok due) (same, inl p) definite = absurd p.1
  read_any h (a ∷ ns) (Err r) (same, inl p) definite = absurd (subst IsDefiniteRefusal p.1 definite)
  read_any h (a ∷ ns) end (same, inr p) definite = h p.0 p.1 ns end p.2 definite

  on_told : {IsDue : Result Due Fault → Type 0} (text : List ℕ) (b : Bool) → holds name ≡ Some text
      → ltb greatest_file (length text) ≡ b → EndsIn holds (after_length b text) IsDue
      → EndsIn holds (read input name >>= k) IsDue
  on_told {IsDue} text b held is h = read_any (λ t may. subst (Goes IsDue)
      (sym (told_bytes (holds name) text t held may))
      (subst (λ c. EndsIn holds (after_length c text) IsDue) (sym is) h))

  pub read_short : {IsDue : Result Due Fault → Type 0} (text : List ℕ) → holds name ≡ Some text → IsShort text
      → EndsIn holds (k text) IsDue → EndsIn holds (read input name >>= k) IsDue
  read_short text held short h = on_told text false held (le-ltb greatest_file (length text) short) h

  pub read_long : (text : List ℕ) → holds name ≡ Some text → greatest_file < length text
      → EndsIn holds (read input name >>= k) (λ e. e ≡ Err (long input))
  read_long text held more =
      on_told text true held (lt-ltb greatest_file (length text) more) (at_once holds _ (Err (long input)) refl refl)

abbrev some_survey : Surveyed → Result Surveyed Refusal
some_survey v = Ok v

same_survey : (v w : Surveyed) → some_survey v ≡ some_survey w → v ≡ w
same_survey v w e = cc

module _ (status : ℕ) (form : Form) (shelf : ShelfSeen) (out err : StreamSeen)
    (m : RunMeets status (Some form) shelf out err) where
  -- what was given out is a definite end of a way
  record IsGiven : Type 0 where
    pub names : List (List ℕ)
    pub end : Result Due Refusal
    pub is_definite : IsDefinite end
    pub way : Ends shelf.holds (work_of form) names end
    pub given : IsGivenOut end status out err

  -- with a status of its own it is such a one,
  refusal_given : IsOfWork status → (r : Refusal) → status ≡ status_of r → Cause r (Some form) shelf m.names out
      → OutputAfter r (Some form) shelf m.names out → SaysLine r err → IsGiven
  refusal_given own words at cause kept line = absurd (own.not_words at)
  refusal_given own (file input) at cause kept line = absurd (own.not_file at)
  refusal_given own output at cause kept line = absurd (own.not_output at)
  refusal_given own (faulty memory) at cause kept line = absurd (own.not_memory at)
  refusal_given own (faulty f) at cause kept line =
      record { names = m.names; end = Err (faulty f); is_definite = tt; way = cause; given = (at, kept, line) }

  answer_given : Answered status (Some form) shelf m.names out err → IsGiven
  answer_given a = record {
    names = m.names;
    end = Ok a.due;
    is_definite = tt;
    way = a.way;
    given = (a.verdict, a.text, a.is_due, a.is_status, a.is_written, a.is_silent);
  }

  own_given : (n : ℕ) → status ≡ n → IsOfWork status → IsGiven
  own_given zero is own = answer_given (m.answered (omega (arith, is)))
  own_given (suc zero) is own = answer_given (m.answered (omega (arith, is)))
  own_given (suc (suc n)) is own =
      let r = m.refused (omega (arith, is)) in refusal_given own r.refusal r.is_status r.cause r.on_output r.line

  -- and where neither the shelf nor the output failed, unless memory runs out
  end_given : NeitherFailed shelf out → (end : Result Due Refusal) → Ends shelf.holds (work_of form) m.names end
      → IsGivenOut end status out err → (status ≡ 11) ⊎ IsGiven
  end_given neither (Err (file input)) way given = absurd (neither.0 (m.shelf_failed given.0))
  end_given neither (Err (faulty memory)) way given = inl given.0
  end_given neither end way given =
      inr (record { names = m.names; end = end; is_definite = tt; way = way; given = given })

  definite_given : NeitherFailed shelf out → (status ≡ 11) ⊎ IsGiven
  definite_given neither = go (m.decided neither)
    where
      go : (status ≡ 11) ⊎ ((end : Result Due Refusal) × Ends shelf.holds (work_of form) m.names end
          × IsGivenOut end status out err) → (status ≡ 11) ⊎ IsGiven
      go (inl eleven) = inl eleven
      go (inr d) = end_given neither d.0 d.1 d.2

  -- what follows on one of those that the promise is on
  record GoesOn {On : Type 0} (IsOn : On → Type 0) (f : On → Work Due) (end : Result Due Refusal) : Type 0 where
    pub on : On
    pub is_on : IsOn on
    pub names : List (List ℕ)
    pub ends : Ends shelf.holds (f on) names end

  module _ {On : Type 0} (IsOn : On → Type 0) (IsOwnStatus : ℕ → Type 0) (f : On → Work Due)
      (of_work : IsOwnStatus status → IsOfWork status)
      (goes_own : IsOwnStatus status → (g : IsGiven) → GoesOn IsOn f g.end)
      (goes_each : (v : On) → IsOn v → (g : IsGiven) → (names : List (List ℕ)) × Ends shelf.holds (f v) names g.end)
      (promise : Promise On) {IsEnd : On → promise.Case → Result Due Fault → Type 0}
      (shows : WorkGives promise IsOn shelf.holds f IsEnd) where
    -- so what was given out is what is due in a case that comes
    due_in : (g : IsGiven) → (v : On) → IsOn v → (names : List (List ℕ)) → Ends shelf.holds (f v) names g.end
        → (x : promise.Case) → promise.Comes v x → GivesOut promise v x status out err
    due_in g v is_on names ends x comes =
        let d = shows.each v is_on x comes names g.end ends g.is_definite in
        let given = subst (λ e. IsGivenOut e status out err) d.2 g.given in
        let t = shows.tells v x d.0 d.1 status out err given in
        record { is_status = t.0; due = d.0; is_due = t.1; is_given = given }

    on_case : (v : On) → IsOn v → (x : promise.Case) → promise.Comes v x → (status ≡ 11) ⊎ IsGiven
        → GivesOut promise v x status out err ⊎ Leaves status 11 out
    on_case v is_on x comes (inl eleven) = inr (record { is_status = eleven; is_kept = kept_at_memory m eleven })
    on_case v is_on x comes (inr g) = let w = goes_each v is_on g in inl (due_in g v is_on w.0 w.1 x comes)

    fulfils_on : FulfilsOn promise IsOn IsOwnStatus status shelf out err
    fulfils_on = record {
      some = shows.some;
      each = λ neither v is_on x comes. on_case v is_on x comes (definite_given neither);
      only = λ own.
          let g = own_given status refl (of_work own) in
          let w = goes_own own g in
          let x = shows.some w.on w.is_on in
          (w.on, w.is_on, x.0, x.1, due_in g w.on w.is_on w.names w.ends x.0 x.1);
    }

  -- of work that begins with a model's file which is told
  module _ (model bytes : List ℕ) (f : Surveyed → Work Due) (begins : work_of form ≡ surveyed_file model >>= f)
      (told : shelf.holds model ≡ Some bytes) where
    abbrev GoesOnModel : Result Due Refusal → Type 0
    GoesOnModel end = GoesOn (IsAcceptedModel bytes) f end

    no_model : (r : Refusal) → IsOwn status → status ≡ status_of r → Why bytes r → ⊥
    no_model r own at (for_memory is) = own.of_work.not_memory (at ∙ ap status_of is)
    no_model r own at (for_file is) = own.of_work.not_file (at ∙ ap status_of is)
    no_model r own at (for_length more is) = own.not_long (at ∙ ap status_of is)
    no_model r own at (for_fault short f is) =
        model_status bytes f status (sym (at ∙ ap status_of is)) own.not_model

    -- the model's file isn't the cause of a refusal
    abbrev IsPast : Result Due Refusal → Type 0
    IsPast end = (r : Refusal) (front : List (List ℕ)) → end ≡ Err r
        → Ends shelf.holds (surveyed_file model) front (Err r) → ⊥

    came : (r : Refusal) → IsPast (Err r) → CameOf shelf.holds (surveyed_file model) f r → GoesOnModel (Err r)
    came r past (inl c) = absurd (past r c.0 refl c.1)
    came r past (inr c) = record {
      on = c.0;
      is_on = only_accepted shelf.holds model bytes c.0 c.1 told c.3;
      names = c.2;
      ends = c.4;
    }

    goes_on : (names : List (List ℕ)) (end : Result Due Refusal) → IsPast end
        → Ends shelf.holds (surveyed_file model >>= f) names end → GoesOnModel end
    goes_on names (Ok due) past way = let c = came_from shelf.holds (surveyed_file model) f names due way in record {
      on = c.0;
      is_on = only_accepted shelf.holds model bytes c.0 c.1 told c.3;
      names = c.2;
      ends = c.4;
    }
    goes_on names (Err r) past way = came r past (refused_from shelf.holds (surveyed_file model) f names r way)

    own_past : IsOwn status → (end : Result Due Refusal) → IsGivenOut end status out err → IsPast end
    own_past own end g r front is p = no_model r own (subst (λ e. IsGivenOut e status out err) is g).0
        (surveyed_why shelf.holds r model bytes front told p)

    -- two definite ends of the work on the model are one
    one_model : (v : Surveyed) (front : List (List ℕ)) (end : Result Surveyed Refusal) → IsAcceptedModel bytes v
        → Ends shelf.holds (surveyed_file model) front end → IsDefinite end → some_survey v ≡ end
    one_model v front end accepted p definite = (one_end shelf.holds (surveyed_file model) (model ∷ []) front
        (Ok v) end ((bytes, told), tt) (all_accepted shelf.holds model bytes v told accepted) p tt definite).1

    accepted_past : (v : Surveyed) → IsAcceptedModel bytes v → (end : Result Due Refusal) → IsDefinite end → IsPast end
    accepted_past v accepted end definite r front is p =
        let e = one_model v front (Err r) accepted p (subst IsDefinite is definite) in cc

    way_of : (g : IsGiven) → Ends shelf.holds (surveyed_file model >>= f) g.names g.end
    way_of g = subst (λ w. Ends shelf.holds w g.names g.end) begins g.way

    on_model : (v : Surveyed) → IsAcceptedModel bytes v → (g : IsGiven)
        → (names : List (List ℕ)) × Ends shelf.holds (f v) names g.end
    on_model v accepted g =
        let w = goes_on g.names g.end (accepted_past v accepted g.end g.is_definite) (way_of g) in
        let same = same_survey w.on v (one_model w.on (model ∷ []) (Ok v) w.is_on
        (all_accepted shelf.holds model bytes v told accepted) tt) in
        (w.names, subst (λ s. Ends shelf.holds (f s) w.names g.end) same w.ends)

    fulfilled : (promise : Promise Surveyed) {IsEnd : Surveyed → promise.Case → Result Due Fault → Type 0}
        → WorkGives promise (IsAcceptedModel bytes) shelf.holds f IsEnd → Fulfils promise bytes status shelf out err
    fulfilled promise = fulfils_on (IsAcceptedModel bytes) IsOwn f (λ own. own.of_work)
        (λ own g. goes_on g.names g.end (own_past own g.end g.given) (way_of g)) on_model promise

pub fulfils : (promise : Promise Surveyed) {status : ℕ} {form : Option Form} {shelf : ShelfSeen}
    {out err : StreamSeen} → RunMeets status form shelf out err → (this : Form) (model bytes : List ℕ)
    (f : Surveyed → Work Due) → form ≡ Some this → work_of this ≡ surveyed_file model >>= f
    → shelf.holds model ≡ Some bytes → {IsEnd : Surveyed → promise.Case → Result Due Fault → Type 0}
    → WorkGives promise (IsAcceptedModel bytes) shelf.holds f IsEnd → Fulfils promise bytes status shelf out err
fulfils promise {status} {form} {shelf} {out} {err} m this model bytes f is begins told shows =
    fulfilled status this shelf out err (subst (λ g. RunMeets status g shelf out err) is m) model bytes f begins told
    promise shows

-- The same of a form that names no model.
pub fulfils_at_once : (promise : Promise ⊤) {status : ℕ} {form : Option Form} {shelf : ShelfSeen}
    {out err : StreamSeen} → RunMeets status form shelf out err → (this : Form) → form ≡ Some this
    → {IsEnd : ⊤ → promise.Case → Result Due Fault → Type 0}
    → WorkGives promise (λ n. ⊤) shelf.holds (λ n. work_of this) IsEnd
    → FulfilsAtOnce promise status shelf out err
fulfils_at_once promise {status} {form} {shelf} {out} {err} m this is shows =
    fulfils_on status this shelf out err (subst (λ g. RunMeets status g shelf out err) is m) (λ n. ⊤) IsOfWork
    (λ n. work_of this) (λ own. own) (λ own g. record { on = tt; is_on = tt; names = g.names; ends = g.way })
    (λ n on g. (g.names, g.way)) promise shows
