-- The theorem on the top call, out of what the work leaves and what is given out.
use Rattle.std.proofs.Common.{◌≡◌, ℕ, zero, suc, ◌<◌, ◌≤◌, ◌⊎◌, inl, inr, List, Option, None, Result}
use Rattle.std.proofs.Common.{Ok, Err, subst, sym, ap, ◌∙◌, arith}
use Rattle.stack_work.proofs.Common.{Answer, Due, Form, Holds, NeitherFailed, Refusal, ReturnsAnswer, ShelfFailed}
use Rattle.stack_work.proofs.Common.{ShelfSeen, StreamSeen, TookNothing, Way, Works, faulty, file, memory, output}
use Rattle.stack_work.proofs.Common.{refusal_view, status_of, words}
use Rattle.stack_outside.specs.Seen.{StreamFailed}
use Rattle.stack_lines.specs.declared.refusal.Refusal.{Refusal as CodeRefusal}
use Rattle.stack_lines.specs.declared.refusal.Refusal.TheVariants as code
use Rattle.stack_work.specs.Progress.{IsCausedBy}
use Rattle.stack_said.specs.Delivery.{SaysLine, TakesMemory, TellsRefusal, Delivers}
use Rattle.stack_work.proofs.FilesNamed.{asked_named}
use Rattle.stack_said.specs.MainTheorem.{Answered, OutputAfter, Cause, Refused, IsGivenOut, RunMeets}
use Rattle.stack_said.proofs.Returned.{refusal_or, IsWords, not_output, only_none, below_two, fault_above}
use Rattle.stack_said.proofs.Returned.{fault_past_output, from_two}

-- A run with these words and devices, whose work asked for these names.
module _ (form : Option Form) (shelf : ShelfSeen) (names : List (List ℕ)) (out err : StreamSeen) where
  abbrev Answering : ℕ → Type 0
  Answering status = Answered status form shelf names out err

  abbrev Refusing : ℕ → Type 0
  Refusing status = Refused status form shelf names out err

  abbrev Causes : Refusal → Type 0
  Causes r = Cause r form shelf names out

  abbrev Leaves : Refusal → Type 0
  Leaves r = OutputAfter r form shelf names out

  abbrev Says : Refusal → Type 0
  Says r = SaysLine r err

  abbrev Goes : Result Due Refusal → Type 0
  Goes end = Way shelf.holds form names end

  abbrev Returned : Result Answer CodeRefusal → Type 0
  Returned worked = ReturnsAnswer shelf.holds form names worked

  abbrev Decides : ℕ → Type 0
  Decides status = (end : Result Due Refusal) × Goes end × IsGivenOut end status out err

  answered : (worked : Result Answer CodeRefusal) (status : ℕ) → Returned worked → Delivers worked status out err
      → status < 2 → Answering status
  answered (Ok a) status way (inl w) low = record {
    due = way.0;
    way = way.2;
    verdict = a.verdict;
    text = a.text.items;
    is_due = way.1;
    is_status = w.is_status;
    is_written = w.is_written;
    is_silent = w.is_silent;
  }
  answered (Ok a) status way (inr f) low = let h = f.is_status in absurd (omega (arith, h, low))
  answered (Err r) status way t low =
      let h = t.is_status in let k = from_two t.told in absurd (omega (arith, h, k, low))

  caused : (r : CodeRefusal) → Returned (Err r) → IsCausedBy {X = Answer} (Err r) (ShelfFailed shelf)
      → Causes (refusal_view r)
  caused (code.File input) way fails = (fails, way)
  caused code.Output way fails = absurd (not_output shelf.holds form names way)
  caused code.Memory way fails = tt
  caused _ way fails = way

  kept : (r : CodeRefusal) → Returned (Err r) → TookNothing out → Leaves (refusal_view r)
  kept code.Output way h = absurd (not_output shelf.holds form names way)
  kept _ way h = h

  refusing : (r : CodeRefusal) (status : ℕ) → Returned (Err r)
      → IsCausedBy {X = Answer} (Err r) (ShelfFailed shelf) → TellsRefusal (refusal_view r) status out err
      → Refusing status
  refusing r status way fails t = go t.which
    where
      go : (t.told ≡ refusal_view r) ⊎ (TakesMemory (refusal_view r) × (t.told ≡ faulty memory)) → Refusing status
      go (inl same) = record {
        refusal = refusal_view r;
        is_status = t.is_status ∙ ap status_of same;
        cause = caused r way fails;
        on_output = kept r way t.is_kept;
        line = subst Says same t.line;
      }
      go (inr want) = record {
        refusal = faulty memory;
        is_status = t.is_status ∙ ap status_of want.1;
        cause = tt;
        on_output = t.is_kept;
        line = subst Says want.1 t.line;
      }

  refused : (worked : Result Answer CodeRefusal) (status : ℕ) → Returned worked
      → IsCausedBy worked (ShelfFailed shelf) → Delivers worked status out err → 2 ≤ status → Refusing status
  refused (Ok a) status way fails (inl w) high =
      let h = w.is_status in let k = below_two a.verdict in absurd (omega (arith, h, k, high))
  refused (Ok a) status way fails (inr f) high = record {
    refusal = output;
    is_status = f.is_status;
    cause = f.cause;
    on_output = record {
      due = way.0;
      way = way.2;
      verdict = a.verdict;
      text = a.text.items;
      is_due = way.1;
      kept = f.kept;
      is_written = f.is_written;
    };
    line = f.line;
  }
  refused (Err r) status way fails t high = refusing r status way fails t

  answer_decides : (status : ℕ) → Answering status → Decides status
  answer_decides status a =
      (Ok a.due, a.way, (a.verdict, a.text, a.is_due, a.is_status, a.is_written, a.is_silent))

  refusal_decides : (r : Refusal) (status : ℕ) → status ≡ status_of r → Causes r → Leaves r → Says r
      → NeitherFailed shelf out → (status ≡ 11) ⊎ Decides status
  refusal_decides (file input) status is cause leaves line neither = absurd (neither.0 cause.0)
  refusal_decides output status is cause leaves line neither = absurd (neither.1 cause)
  refusal_decides (faulty memory) status is cause leaves line neither = inl is
  refusal_decides r status is cause leaves line neither = inr (Err r, cause, (is, leaves, line))

  decides : (status : ℕ) → (status < 2 → Answering status) → (2 ≤ status → Refusing status)
      → NeitherFailed shelf out → (status ≡ 11) ⊎ Decides status
  decides zero answers refusals neither = inr (answer_decides 0 (answers (omega arith)))
  decides (suc zero) answers refusals neither = inr (answer_decides 1 (answers (omega arith)))
  decides (suc (suc n)) answers refusals neither =
      let f = refusals (omega arith) in
      refusal_decides f.refusal _ f.is_status f.cause f.on_output f.line neither

  words_of : (r : Refusal) → 2 ≡ status_of r → Causes r → form ≡ None
  words_of words is cause = only_none shelf.holds form names cause
  words_of (faulty f) is cause = let h = fault_above f in absurd (omega (arith, h))
  words_of _ is cause = absurd (omega arith)

  shelf_of : (r : Refusal) → 3 ≡ status_of r → Causes r → ShelfFailed shelf
  shelf_of (file input) is cause = cause.0
  shelf_of (faulty f) is cause = let h = fault_above f in absurd (omega (arith, h))
  shelf_of _ is cause = absurd (omega arith)

  output_of : (r : Refusal) → 10 ≡ status_of r → Causes r → StreamFailed out
  output_of output is cause = cause
  output_of (faulty f) is cause = absurd (fault_past_output f is)
  output_of _ is cause = absurd (omega arith)

  -- The only ends of words without a form.
  none_ends : (end : Result Due Refusal) → form ≡ None → Goes end → end ≡ Err words
  none_ends end none way = (subst (λ f. Way shelf.holds f names end) none way).1

  is_words : (r : Refusal) (status : ℕ) → form ≡ None → status ≡ status_of r → Goes (Err r) → status ≡ 2
  is_words r status none is way = is ∙ ap (λ end. status_of (refusal_or words end)) (none_ends (Err r) none way)

  words_or_memory : (r : Refusal) (status : ℕ) → form ≡ None → status ≡ status_of r → Causes r → Leaves r
      → (status ≡ 2) ⊎ (status ≡ 11)
  words_or_memory (file input) status none is cause leaves = inl (is_words (file input) status none is cause.1)
  words_or_memory output status none is cause leaves =
      absurd (subst IsWords (sym (none_ends (Ok leaves.due) none leaves.way)) tt)
  words_or_memory (faulty memory) status none is cause leaves = inr is
  words_or_memory r status none is cause leaves = inl (is_words r status none is cause)

  without_form : (status : ℕ) → (status < 2 → Answering status) → (2 ≤ status → Refusing status) → form ≡ None
      → (status ≡ 2) ⊎ (status ≡ 11)
  without_form zero answers refusals none =
      let a = answers (omega arith) in absurd (subst IsWords (sym (none_ends (Ok a.due) none a.way)) tt)
  without_form (suc zero) answers refusals none =
      let a = answers (omega arith) in absurd (subst IsWords (sym (none_ends (Ok a.due) none a.way)) tt)
  without_form (suc (suc n)) answers refusals none =
      let f = refusals (omega arith) in words_or_memory f.refusal _ none f.is_status f.cause f.on_output

some_end : (holds : Holds) (form : Option Form) (names : List (List ℕ)) (worked : Result Answer CodeRefusal)
    → ReturnsAnswer holds form names worked → (end : Result Due Refusal) × Way holds form names end
some_end holds form names (Ok a) way = (Ok way.0, way.2)
some_end holds form names (Err code.Memory) way = way
some_end holds form names (Err r) way = (Err (refusal_view r), way)

pub run_meets : (form : Option Form) (shelf : ShelfSeen) (out err : StreamSeen) (worked : Result Answer CodeRefusal)
    (status : ℕ) → Works form shelf worked → Delivers worked status out err → RunMeets status form shelf out err
run_meets form shelf out err worked status w d =
    let answers = answered form shelf w.names out err worked status w.comes d in
    let refusals = refused form shelf w.names out err worked status w.comes w.cause d in
    let wanted = some_end shelf.holds form w.names worked w.comes in
    record {
      names = w.names;
      asks = w.asks;
      asks_named = asked_named shelf.holds form w.names wanted.0 shelf.asked shelf.asked_after wanted.1 w.asks;
      wanted = wanted;
      answered = answers;
      refused = refusals;
      decided = decides form shelf w.names out err status answers refusals;
      without_form = without_form form shelf w.names out err status answers refusals;
      only_without_form = λ two.
          let f = refusals (omega arith) in
          words_of form shelf w.names out err f.refusal (sym two ∙ f.is_status) f.cause;
      shelf_failed = λ three.
          let f = refusals (omega arith) in
          shelf_of form shelf w.names out err f.refusal (sym three ∙ f.is_status) f.cause;
      output_failed = λ ten.
          let f = refusals (omega arith) in
          output_of form shelf w.names out err f.refusal (sym ten ∙ f.is_status) f.cause;
    }

-- The statuses of words of which one can't be read, and of want of memory for them.
told_words : (status : ℕ) (out err : StreamSeen) (t : TellsRefusal words status out err)
    → (t.told ≡ words) ⊎ (TakesMemory words × (t.told ≡ faulty memory)) → status ≡ 2
told_words status out err t (inl same) = t.is_status ∙ ap status_of same
told_words status out err t (inr want) = absurd want.0

told_memory : (status : ℕ) (out err : StreamSeen) (t : TellsRefusal (faulty memory) status out err)
    → (t.told ≡ faulty memory) ⊎ (TakesMemory (faulty memory) × (t.told ≡ faulty memory)) → status ≡ 11
told_memory status out err t (inl same) = t.is_status ∙ ap status_of same
told_memory status out err t (inr want) = absurd want.0

pub words_status : (worked : Result Answer CodeRefusal) (status : ℕ) (out err : StreamSeen) → worked ≡ Err code.Words
    → Delivers worked status out err → status ≡ 2
words_status worked status out err is d =
    let t : TellsRefusal words status out err = subst (λ w. Delivers w status out err) is d in
    told_words status out err t t.which

pub memory_status : (worked : Result Answer CodeRefusal) (status : ℕ) (out err : StreamSeen) → worked ≡ Err code.Memory
    → Delivers worked status out err → status ≡ 11
memory_status worked status out err is d =
    let t : TellsRefusal (faulty memory) status out err = subst (λ w. Delivers w status out err) is d in
    told_memory status out err t t.which
