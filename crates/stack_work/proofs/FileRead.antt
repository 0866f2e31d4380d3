-- A file that was read, or not, as the work of reading it.
use Rattle.std.proofs.Common.{◌≡◌, ℕ, suc, ◌<◌, ◌≤◌, List, [], ◌∷◌, inl, inr, length, replicate, Option, Some, None}
use Rattle.std.proofs.Common.{Result, Ok, Err, Vec, subst, sym, refl, ◌∙◌, append-nil, arith, IfSome}
use Rattle.std.specs.Bool.{⊤}
use Rattle.std.specs.declared.alloc.Global.{Global}
use Rattle.std.proofs.lemmas.Bool.{le-ltb, lt-ltb}
use Rattle.std.proofs.lemmas.List.{length-replicate}
use Rattle.stack_outside.specs.declared.error.ShelfError.{ShelfError}
use Rattle.stack_outside.specs.declared.error.ShelfError.TheVariants as outside
use Rattle.stack_outside.specs.Faults.{counted}
use Rattle.stack_outside.specs.Seen.{ShelfSeen, ShelfFailed}
use Rattle.stack_outside.specs.Shelves.{ReadGives, Records}
use Rattle.stack_lines.specs.declared.refusal.Input.{Input}
use Rattle.stack_lines.specs.declared.refusal.Refusal.TheVariants as code
use Rattle.stack_lines.specs.Refusals.{faulty, long}
use Rattle.stack_work.specs.Work.{Holds, MayHold, Ends}
use Rattle.stack_work.specs.Surveying.{greatest_file, unless_long, read}
use Rattle.stack_work.specs.Progress.{ToldNames, GrewBy, Returns, Does, AreBytes}
use Rattle.stack_work.proofs.Ways.{wanting}

abbrev PastMemory : Result (Vec ℕ Global) ShelfError → Type 0
PastMemory (Err outside.Memory) = ⊥
PastMemory _ = ⊤

-- A read that doesn't end for want of memory has asked for its file.
grew : (old new : ToldNames) (name : List ℕ) (result : Result (Vec ℕ Global) ShelfError) → PastMemory result
    → Records old new name result → GrewBy old new (name ∷ [])
grew None new name result past h = tt
grew (Some a) None name result past h = h
grew (Some a) (Some b) name result past (inl h) = h
grew (Some a) (Some b) name result past (inr h) = absurd (subst PastMemory h.0 past)

short : (holds : Holds) (input : Input) (bytes : List ℕ) → length bytes ≤ greatest_file
    → Ends holds (unless_long input bytes) [] (Ok bytes)
short holds input bytes le = rw (le-ltb greatest_file (length bytes) le) (refl, refl)

too_long : (holds : Holds) (input : Input) (bytes : List ℕ) → greatest_file < length bytes
    → Ends holds (unless_long input bytes) [] (Err (faulty (long input)))
too_long holds input bytes more = rw (lt-ltb greatest_file (length bytes) more) (refl, inl refl)

-- Some bytes are more than any number.
more_than : (n : ℕ) → (bytes : List ℕ) × (n < length bytes)
more_than n = (replicate {A = ℕ} (suc n) 0, let h = length-replicate {A = ℕ} (suc n) 0 in omega (arith, h))

may_hold : (held : Option (List ℕ)) (bytes : List ℕ) → IfSome held (λ told. bytes ≡ told) → MayHold held bytes
may_hold None bytes h = tt
may_hold (Some told) bytes h = h

some_bytes : (held : Option (List ℕ)) → (bytes : List ℕ) × MayHold held bytes
some_bytes None = ([], tt)
some_bytes (Some told) = (told, refl)

long_bytes : (held : Option (List ℕ)) → IfSome held (λ bytes. greatest_file < length bytes)
    → (bytes : List ℕ) × MayHold held bytes × (greatest_file < length bytes)
long_bytes None h = let m = more_than greatest_file in (m.0, tt, m.1)
long_bytes (Some told) h = (told, refl, h)

-- A read, over a shelf that holds the same after it.
module _ (shelf : ShelfSeen) (name : List ℕ) (input : Input) (same : shelf.holds_after ≡ shelf.holds)
    (later : shelf.faults ≤ shelf.faults_after) where
  pub gave : (v : Vec ℕ Global) → ReadGives (shelf.holds name) greatest_file (Ok v)
      → Records shelf.asked shelf.asked_after name (Ok v) → shelf.faults_after ≡ shelf.faults
      → Does AreBytes (read input name) shelf (Ok v)
  gave v h asked counts = record {
    names = name ∷ [];
    asks = grew shelf.asked shelf.asked_after name (Ok v) tt asked;
    comes = (
      v.items,
      refl,
      (refl, inr (v.items, may_hold (shelf.holds name) v.items h.1, short shelf.holds input v.items h.0)),
    );
    cause = tt;
    counts = counts;
    holds = same;
    later = later;
  }

  pub failed : Records shelf.asked shelf.asked_after name (Err outside.Failed) → ShelfFailed shelf
      → shelf.faults_after ≡ counted shelf.faults → Does AreBytes (read input name) shelf (Err (code.File input))
  failed asked rose counts = record {
    names = name ∷ [];
    asks = grew shelf.asked shelf.asked_after name (Err outside.Failed) tt asked;
    comes = (refl, inl (refl, refl));
    cause = rose;
    counts = counts;
    holds = same;
    later = later;
  }

  pub was_long : ReadGives (shelf.holds name) greatest_file (Err outside.TooLong)
      → Records shelf.asked shelf.asked_after name (Err outside.TooLong) → shelf.faults_after ≡ shelf.faults
      → Does AreBytes (read input name) shelf (Err (code.Long input))
  was_long h asked counts =
      let b = long_bytes (shelf.holds name) h in
      record {
        names = name ∷ [];
        asks = grew shelf.asked shelf.asked_after name (Err outside.TooLong) tt asked;
        comes = (refl, inr (b.0, b.1, too_long shelf.holds input b.0 b.2));
        cause = tt;
        counts = counts;
        holds = same;
        later = later;
      }

  -- Where memory was wanting, the file was asked for or not.
  asked_or_not : (old new : ToldNames) → Records old new name (Err outside.Memory)
      → (names : List (List ℕ)) × GrewBy old new names
      × Returns AreBytes shelf.holds (read input name) names (Err code.Memory)
  asked_or_not None new asked = ([], tt, refl)
  asked_or_not (Some a) None asked = absurd asked
  asked_or_not (Some a) (Some b) (inl h) =
      let s = some_bytes (shelf.holds name) in
      (name ∷ [], h, (refl, inr (s.0, s.1, wanting shelf.holds (unless_long input s.0))))
  asked_or_not (Some a) (Some b) (inr h) = ([], h.1 ∙ sym (append-nil a), refl)

  pub wanted : Records shelf.asked shelf.asked_after name (Err outside.Memory) → shelf.faults_after ≡ shelf.faults
      → Does AreBytes (read input name) shelf (Err code.Memory)
  wanted asked counts =
      let a = asked_or_not shelf.asked shelf.asked_after asked in
      record { names = a.0; asks = a.1; comes = a.2; cause = tt; counts = counts; holds = same; later = later }
