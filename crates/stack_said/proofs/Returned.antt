-- What the work returned and what was given out, against the ways through the work.
use Rattle.std.proofs.Common.{◌≡◌, ℕ, ◌<◌, ◌≤◌, ◌⊎◌, inl, inr, List, [], ◌∷◌, Option, Some, None, Result}
use Rattle.std.proofs.Common.{Ok, Err, OnErr, subst, sym, ap, refl, arith, take, length}
use Rattle.std.specs.Bool.{⊤}
use Rattle.std.specs.Io.KnownBytes.{Appends, Keeps}
use Rattle.stack_outside.specs.declared.error.SinkFailed.{SinkFailed}
use Rattle.stack_outside.specs.declared.shelf.Shelf.{Ghosts}
use Rattle.stack_work.proofs.Common.{Answer, AnswersDue, Due, Ends, Fault, Form, Holds, Refusal, ReturnsAnswer}
use Rattle.stack_work.proofs.Common.{ShelfSeen, StreamSeen, TookNothing, Way, Work, Works, faulty, file, gives, memory}
use Rattle.stack_work.proofs.Common.{output, refusal_view, refuses, seen_shelf, status_of, surveys, verdict_status}
use Rattle.stack_work.proofs.Common.{words, work_of}
use Rattle.stack_outside.specs.Sinks.{Puts}
use Rattle.stack_lines.specs.declared.answer.Verdict.{Verdict}
use Rattle.stack_lines.specs.declared.answer.Verdict.TheVariants.{Affirmed, Denied}
use Rattle.stack_lines.specs.declared.refusal.Refusal.{Refusal as CodeRefusal}
use Rattle.stack_lines.specs.declared.refusal.Refusal.TheVariants as code
use Rattle.stack_work.specs.Work.{reads}
use Rattle.stack_work.specs.Progress.{Returns, Does}
use Rattle.stack_work.proofs.Steps.{none_asked}
use Rattle.stack_said.specs.Delivery.{SaysLine, TakesMemory, Delivers, with_line_feed}
use Rattle.stack_lines.specs.Refusals.{refusal_line}
use Rattle.stack_outside.specs.Seen.{StreamFailed}
use Rattle.std.proofs.lemmas.List.{take_all}

-- An error stream that didn't fail took the whole line, and a front of it in any case.
line_whole : (old new : Option (List ℕ)) (piece : List ℕ) (result : Result ⊤ SinkFailed) (P : Type 0)
    → Puts old new piece result → OnErr result P → ¬ P → Appends old new piece
line_whole old new piece (Ok done) P puts cause not = puts
line_whole old new piece (Err e) P puts cause not = absurd (not cause)

line_front : (old new : Option (List ℕ)) (piece : List ℕ) (result : Result ⊤ SinkFailed)
    → Puts old new piece result → (n : ℕ) × Appends old new (take n piece)
line_front old new piece (Ok done) puts =
    (length piece, subst (λ b. Appends old new b) (sym (take_all (length piece) piece (omega arith))) puts)
line_front old new piece (Err e) puts = puts

pub line_put : (r : Refusal) (err : StreamSeen) (piece : List ℕ) (result : Result ⊤ SinkFailed)
    → Puts err.written err.written_after piece result → OnErr result (StreamFailed err)
    → piece ≡ with_line_feed (refusal_line r) → SaysLine r err
line_put r err piece result puts cause is = let f = line_front _ _ piece result puts in record {
  whole = λ not. subst (λ b. Appends err.written err.written_after b) is (line_whole _ _ piece result _ puts cause not);
  kept = f.0;
  front = subst (λ b. Appends err.written err.written_after (take f.0 b)) is f.1;
}

-- A refusal was told, or memory for its line was wanting.
told_as : (r q : CodeRefusal) → (q ≡ r) ⊎ (TakesMemory (refusal_view r) × (q ≡ code.Memory))
    → (refusal_view q ≡ refusal_view r) ⊎ (TakesMemory (refusal_view r) × (refusal_view q ≡ faulty memory))
told_as r q (inl same) = inl (ap refusal_view same)
told_as r q (inr want) = inr (want.0, ap refusal_view want.1)

pub kept_same : (b : Option (List ℕ)) → Keeps b b
kept_same None = tt
kept_same (Some bytes) = refl

pub refusal_told : (worked : Result Answer CodeRefusal) (r q : CodeRefusal) (status : ℕ) (out err : StreamSeen)
    → worked ≡ Err r → (q ≡ r) ⊎ (TakesMemory (refusal_view r) × (q ≡ code.Memory))
    → status ≡ status_of (refusal_view q) → TookNothing out → out.faults_after ≡ out.faults
    → SaysLine (refusal_view q) err
    → Delivers worked status out err
refusal_told worked r q status out err is which status_is keeps stays line =
    subst (λ w. Delivers w status out err) (sym is) (record {
      told = refusal_view q;
      which = told_as r q which;
      is_status = status_is;
      is_kept = keeps;
      stays = stays;
      line = line;
    })

-- Refusals that work can come to.
abbrev IsOfWork : Refusal → Type 0
IsOfWork words = ⊥
IsOfWork output = ⊥
IsOfWork _ = ⊤

of_work : {A : Type 0} (holds : Holds) (w : Work A) (names : List (List ℕ)) (r : Refusal) → Ends holds w names (Err r)
    → IsOfWork r
of_work holds (gives x) names r p = subst IsOfWork (sym p.1) tt
of_work holds (refuses q) names r (none, inl same) = subst IsOfWork (sym same) tt
of_work holds (refuses q) names r (none, inr same) = subst IsOfWork (sym same) tt
of_work holds (reads input name k) [] r p = subst IsOfWork (sym p) tt
of_work holds (reads input name k) (n ∷ ns) r (same, inl h) = subst IsOfWork (sym h.1) tt
of_work holds (reads input name k) (n ∷ ns) r (same, inr h) = of_work holds (k h.0) ns r h.2
of_work holds (surveys s k) names r (inl h) = subst IsOfWork (sym h.1) tt
of_work holds (surveys s k) names r (inr h) = of_work holds (k h.0) names r h.2

abbrev pub refusal_or : Refusal → Result Due Refusal → Refusal
refusal_or r (Ok due) = r
refusal_or r (Err q) = q

abbrev pub IsWords : Result Due Refusal → Type 0
IsWords (Err words) = ⊤
IsWords _ = ⊥

pub not_output : (holds : Holds) (form : Option Form) (names : List (List ℕ)) → Way holds form names (Err output) → ⊥
not_output holds None names way = subst IsWords (sym way.1) tt
not_output holds (Some form) names way = of_work holds (work_of form) names output way

pub only_none : (holds : Holds) (form : Option Form) (names : List (List ℕ)) → Way holds form names (Err words)
    → form ≡ None
only_none holds None names way = refl
only_none holds (Some form) names way = absurd (of_work holds (work_of form) names words way)

pub below_two : (v : Verdict) → verdict_status v < 2
below_two Affirmed = omega arith
below_two Denied = omega arith

pub fault_above : (f : Fault) → 4 ≤ status_of (faulty f)
fault_above memory = omega arith
fault_above _ = omega arith

pub fault_past_output : (f : Fault) → 10 ≡ status_of (faulty f) → ⊥
fault_past_output memory is = omega arith
fault_past_output _ is = omega arith

pub from_two : (r : Refusal) → 2 ≤ status_of r
from_two words = omega arith
from_two (file input) = omega arith
from_two (faulty f) = let h = fault_above f in omega (arith, h)
from_two output = omega arith

-- Work that a form asks for is work on words.
returned : (holds : Holds) (form : Form) (names : List (List ℕ)) (result : Result Answer CodeRefusal)
    → Returns AnswersDue holds (work_of form) names result → ReturnsAnswer holds (Some form) names result
returned holds form names (Ok a) h = h
returned holds form names (Err code.Memory) h = (Err (faulty memory), h)
returned holds form names (Err r) h = h

pub form_works : (form : Form) (shelf : ShelfSeen) (result : Result Answer CodeRefusal)
    → Does AnswersDue (work_of form) shelf result → Works (Some form) shelf result
form_works form shelf result d = record {
  names = d.names;
  asks = d.asks;
  comes = returned shelf.holds form d.names result d.comes;
  cause = d.cause;
  counts = d.counts;
  holds = d.holds;
  later = d.later;
}

-- Words without a form ask for nothing.
module _ {S : Type 0} (shelf : Ghosts S) (old : S) where
  pub none_works : Works None (seen_shelf shelf old old) (Err code.Words)
  none_works = record {
    names = [];
    asks = none_asked (shelf.asked old);
    comes = (refl, refl);
    cause = tt;
    counts = refl;
    holds = refl;
    later = omega arith;
  }

  -- Nor do words for which memory was wanting.
  pub memory_works : Works None (seen_shelf shelf old old) (Err code.Memory)
  memory_works = record {
    names = [];
    asks = none_asked (shelf.asked old);
    comes = (Err words, (refl, refl));
    cause = tt;
    counts = refl;
    holds = refl;
    later = omega arith;
  }
