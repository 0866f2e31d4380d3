-- One function of the order of work after another.
use Rattle.std.proofs.Common.{◌≡◌, ℕ, ◌≤◌, List, [], ◌++◌, Some, None, Result, Ok, Err, inl, inr, subst, sym, refl, ◌∙◌}
use Rattle.std.proofs.Common.{ap, append_assoc, append-nil, arith, false}
use Rattle.std.specs.Bool.{⊤}
use Rattle.stack_outside.specs.declared.shelf.Shelf.{Ghosts}
use Rattle.stack_outside.specs.Faults.{Rose, count_after}
use Rattle.stack_outside.specs.Seen.{ShelfSeen, ShelfFailed, seen_shelf}
use Rattle.stack_lines.specs.declared.refusal.Refusal.{Refusal as CodeRefusal}
use Rattle.stack_lines.specs.declared.refusal.Refusal.TheVariants as code
use Rattle.stack_lines.specs.Refusals.{Refusal, refusal_view, file}
use Rattle.stack_work.specs.Work.{Work, gives, refuses, reads, surveys, ◌>>=◌, Holds, Ends}
use Rattle.stack_work.specs.Progress.{ToldNames, GrewBy, Returns, IsCausedBy, Does, DoesAlone, refuses_unread}
use Rattle.stack_work.proofs.Ways.{goes_on, stops}

grew_more : (old mid new : ToldNames) (xs ys : List (List ℕ)) → GrewBy old mid xs → GrewBy mid new ys
    → GrewBy old new (xs ++ ys)
grew_more None mid new xs ys h k = tt
grew_more (Some a) None new xs ys h k = absurd h
grew_more (Some a) (Some b) None xs ys h k = k
grew_more (Some a) (Some b) (Some c) xs ys h k = k ∙ (ap (λ zs. zs ++ ys) h ∙ append_assoc a xs ys)

-- A shelf that isn't called was asked for nothing.
pub none_asked : (old : ToldNames) → GrewBy old old []
none_asked None = tt
none_asked (Some names) = sym (append-nil names)

-- Values that the program holds, by what contracts see of them.
abbrev pub IsSeen : {X A : Type 0} → (X → A) → X → A → Type 0
IsSeen view x a = a ≡ view x

comes_on : {A B X Y : Type 0} (R : Y → B → Type 0) (view : X → A) (holds : Holds) (w : Work A) (f : A → Work B)
    (names more : List (List ℕ)) (x : X) (result : Result Y CodeRefusal) → Returns (IsSeen view) holds w names (Ok x)
    → Returns R holds (f (view x)) more result → Returns R holds (w >>= f) (names ++ more) result
comes_on R view holds w f names more x (Ok y) p q =
    (q.0, q.1, goes_on holds w f names more (view x) (Ok q.0) (subst (λ a. Ends holds w names (Ok a)) p.1 p.2) q.2)
comes_on R view holds w f names more x (Err r) p q =
    goes_on holds w f names more (view x) (Err (refusal_view r)) (subst (λ a. Ends holds w names (Ok a)) p.1 p.2) q

-- A cause that lies in a later call lies in both together.
caused_sooner : {X : Type 0} (result : Result X CodeRefusal) (P Q : Type 0) → (P → Q) → IsCausedBy result P
    → IsCausedBy result Q
caused_sooner (Ok x) P Q to h = tt
caused_sooner (Err (code.File input)) P Q to h = to h
caused_sooner (Err _) P Q to h = tt

-- A count that rose from a later number rose.
rose_sooner : (old mid new : ℕ) → old ≤ mid → Rose mid new → Rose old new
rose_sooner old mid new later rose = omega (arith, later, rose)

-- A function refused as another one did, for the same cause.
same_cause : (X Y : Type 0) (r : CodeRefusal) (P : Type 0) → IsCausedBy {X = X} (Err r) P
    → IsCausedBy {X = Y} (Err r) P
same_cause X Y (code.File input) P h = h
same_cause X Y _ P h = tt

-- Work that asks for no file doesn't refuse since one isn't read.
abbrev IsNoFile : Refusal → Type 0
IsNoFile (file input) = ⊥
IsNoFile _ = ⊤

reads_first : {A : Type 0} (holds : Holds) (w : Work A) (r : Refusal) → Ends holds w [] (Err r) → IsNoFile r
reads_first holds (gives x) r p = subst IsNoFile (sym p.1) tt
reads_first holds (refuses q) r (none, inl same) = subst IsNoFile (sym same) tt
reads_first holds (refuses q) r (none, inr same) = subst IsNoFile (sym same) tt
reads_first holds (reads input name k) r p = subst IsNoFile (sym p) tt
reads_first holds (surveys s k) r (inl h) = subst IsNoFile (sym h.1) tt
reads_first holds (surveys s k) r (inr h) = reads_first holds (k h.0) r h.2

no_file : {A X : Type 0} (R : X → A → Type 0) (holds : Holds) (w : Work A) (result : Result X CodeRefusal) (P : Type 0)
    → Returns R holds w [] result → IsCausedBy result P
no_file R holds w (Ok x) P h = tt
no_file R holds w (Err (code.File input)) P h = absurd (reads_first holds w (file input) h)
no_file R holds w (Err _) P h = tt

-- What a function without a shelf returned isn't the refusal of a file that isn't read.
never_unread : {A X : Type 0} (R : X → A → Type 0) (holds : Holds) (w : Work A) (result : Result X CodeRefusal)
    → Returns R holds w [] result → refuses_unread result ≡ false
never_unread R holds w (Ok x) h = refl
never_unread R holds w (Err (code.File input)) h = absurd (reads_first holds w (file input) h)
never_unread R holds w (Err _) h = refl

-- A shelf of any type, by what its trait tells of it.
module _ {S : Type 0} (shelf : Ghosts S) where
  -- A function went on with a value, and one for the work after it followed.
  pub then : {A B X Y : Type 0} (R : Y → B → Type 0) (view : X → A) (w : Work A) (f : A → Work B) (old mid new : S)
      (x : X) (result : Result Y CodeRefusal) → Does (IsSeen view) w (seen_shelf shelf old mid) (Ok x)
      → Does R (f (view x)) (seen_shelf shelf mid new) result
      → Does R (w >>= f) (seen_shelf shelf old new) result
  then R view w f old mid new x result p q = record {
    names = p.names ++ q.names;
    asks = grew_more (shelf.asked old) (shelf.asked mid) (shelf.asked new) p.names q.names p.asks q.asks;
    comes = comes_on R view (shelf.holds old) w f p.names q.names x result p.comes
        (subst (λ h. Returns R h (f (view x)) q.names result) p.holds q.comes);
    cause = let sooner = rose_sooner (shelf.faults old) (shelf.faults mid) (shelf.faults new) p.later in
        caused_sooner result (Rose (shelf.faults mid) (shelf.faults new))
        (Rose (shelf.faults old) (shelf.faults new)) sooner q.cause;
    counts = q.counts ∙ ap (count_after (refuses_unread result)) p.counts;
    holds = q.holds ∙ p.holds;
    later = let a = p.later in let b = q.later in omega (arith, a, b);
  }

  -- A function without a shelf, as one with it.
  pub alone : {A X : Type 0} (R : X → A → Type 0) (w : Work A) (old : S) (result : Result X CodeRefusal)
      → DoesAlone R w result → Does R w (seen_shelf shelf old old) result
  alone R w old result p = record {
    names = [];
    asks = none_asked (shelf.asked old);
    comes = p (shelf.holds old);
    cause = no_file R (shelf.holds old) w result (Rose (shelf.faults old) (shelf.faults old)) (p (shelf.holds old));
    counts = ap (λ failed. count_after failed (shelf.faults old))
        (sym (never_unread R (shelf.holds old) w result (p (shelf.holds old))));
    holds = refl;
    later = omega arith;
  }

  -- One without a shelf followed.
  pub then_alone : {A B X Y : Type 0} (R : Y → B → Type 0) (view : X → A) (w : Work A) (f : A → Work B) (old new : S)
      (x : X) (result : Result Y CodeRefusal) → Does (IsSeen view) w (seen_shelf shelf old new) (Ok x)
      → DoesAlone R (f (view x)) result → Does R (w >>= f) (seen_shelf shelf old new) result
  then_alone R view w f old new x result p q =
      then R view w f old new new x result p (alone R (f (view x)) new result q)

-- A function refused, so nothing followed.
pub refused : {A B X Y : Type 0} (S : X → A → Type 0) (R : Y → B → Type 0) (w : Work A) (f : A → Work B)
    (shelf : ShelfSeen) (r : CodeRefusal) → Does S w shelf (Err r) → Does R (w >>= f) shelf (Err r)
refused {A} {B} {X} {Y} S R w f shelf r p = record {
  names = p.names;
  asks = p.asks;
  comes = stops shelf.holds w f p.names (refusal_view r) p.comes;
  cause = same_cause X Y r (ShelfFailed shelf) p.cause;
  counts = p.counts;
  holds = p.holds;
  later = p.later;
}

-- Two functions without a shelf, one after the other, and where the first refused.
pub alone_then : {A B X Y : Type 0} (R : Y → B → Type 0) (view : X → A) (w : Work A) (f : A → Work B) (x : X)
    (result : Result Y CodeRefusal) → DoesAlone (IsSeen view) w (Ok x) → DoesAlone R (f (view x)) result
    → DoesAlone R (w >>= f) result
alone_then R view w f x result p q = λ holds. comes_on R view holds w f [] [] x result (p holds) (q holds)

pub alone_refused : {A B X Y : Type 0} (S : X → A → Type 0) (R : Y → B → Type 0) (w : Work A) (f : A → Work B)
    (r : CodeRefusal) → DoesAlone S w (Err r) → DoesAlone R (w >>= f) (Err r)
alone_refused S R w f r p = λ holds. stops holds w f [] (refusal_view r) (p holds)
