-- A phase has fewer pivots than there are sets of columns, so none is over a budget of 2^columns.
use Rattle.std.proofs.Common.{◌≡◌, ◌≢◌, refl, sym, ap, subst, ℕ, zero, suc, ◌<◌, ◌≤◌, ◌+◌, ◌-◌, ◌^◌, Bool, arith}
use Rattle.std.proofs.Common.{Option, Some, None}
use Rattle.stack_rational.proofs.Common.{ℕ_discrete, dec_le, Ordered, Tableau}
use Rattle.stack_rational.specs.declared.exact.Op.{Op}
use Rattle.stack_table.specs.declared.types.PivotWide.{PivotWide}
use Rattle.stack_table.specs.Table.{Shape, Tabled, plain, columns, pivoted_at}
use Rattle.stack_table.specs.Spots.{pivot_spot}
use Rattle.stack_run.specs.WrittenRun.{Choice, stays, rises, due, refused, choose, complete, spent, on_spot}
use Rattle.stack_run.specs.WrittenRun.{on_choice, turns}
use Rattle.stack_run.proofs.TurnsKeep.{Due, Chosen, chosen}
use Rattle.stack_run.proofs.ThreePhases.{due_tableau}
use Rattle.stack_run.proofs.Pigeonhole.{pigeonhole}
use Rattle.stack_run.proofs.SetNumbers.{code, code-below, has, same_set}
use Rattle.stack_run.proofs.NoBasisRecurs.{Turns, cannot_recur}
use Rattle.stack_run.specs.BasicSets.{SameSet}

-- whether a pivot is due, and where
abbrev pub IsDue : Choice → Type 0
IsDue stays = ⊥
IsDue (rises c) = ⊥
IsDue (due r c) = Unit {0}
IsDue (refused s) = ⊥

abbrev pub row_of : Choice → ℕ
row_of stays = 0
row_of (rises c) = 0
row_of (due r c) = r
row_of (refused s) = 0

abbrev pub column_of : Choice → ℕ
column_of stays = 0
column_of (rises c) = 0
column_of (due r c) = c
column_of (refused s) = 0

module _ (F : Ordered) (S : Shape) (is_too_wide : Op → F.C → F.C → Bool) (A : ℕ → ℕ → F.C) (own : ℕ → F.C)
    (phase among : ℕ) (within : among ≤ plain S) where
  abbrev pub moved : Tabled F.C → Tabled F.C
  moved T = pivoted_at F S T (row_of (choose F S is_too_wide T among)) (column_of (choose F S is_too_wide T among))

  -- the tables of the phase, as far as pivots are due
  abbrev pub tables : Tabled F.C → ℕ → Tabled F.C
  tables T zero = T
  tables T (suc k) = moved (tables T k)

  -- a table of the phase is one of the phase from the next table on
  shifted : (T : Tabled F.C) (k : ℕ) → tables T (suc k) ≡ tables (moved T) k
  shifted T zero = refl
  shifted T (suc k) = ap moved (shifted T k)

  -- where a pivot is due at the first table and at each after it, it is due at all
  due_then : (T : Tabled F.C) (left : ℕ) → IsDue (choose F S is_too_wide T among) →
      ((k : ℕ) → k ≤ left → IsDue (choose F S is_too_wide (tables (moved T) k) among)) →
      (k : ℕ) → k ≤ suc left → IsDue (choose F S is_too_wide (tables T k) among)
  due_then T left h r zero l = h
  due_then T left h r (suc k) l = subst (λ U. IsDue (choose F S is_too_wide U among)) (sym (shifted T k))
      (r k (omega arith))

  -- a phase that is over its budget: a pivot was due each time
  spent_due : (left done : ℕ) (T : Tabled F.C) → turns F S is_too_wide phase among left done T ≡ spent → (k : ℕ) →
      k ≤ left → IsDue (choose F S is_too_wide (tables T k) among)
  spent_due zero done T e = λ k l. let z : 0 ≡ k = omega arith in
      subst (λ k. IsDue (choose F S is_too_wide (tables T k) among)) z (go (choose F S is_too_wide T among) e)
    where
      go : (x : Choice) → on_choice phase zero done T (λ r c. spent) x ≡ spent → IsDue x
      go stays e = absurd cc
      go (rises c) e = absurd cc
      go (due r c) e = tt
      go (refused s) e = absurd cc
  spent_due (suc left) done T e = go (choose F S is_too_wide T among) refl e (λ U. spent_due left (suc done) U)
    where
      at_spot : (r c : ℕ) (o : Option PivotWide) → on_spot phase done
          (turns F S is_too_wide phase among left (suc done)) (pivoted_at F S T r c) o ≡ spent →
          turns F S is_too_wide phase among left (suc done) (pivoted_at F S T r c) ≡ spent
      at_spot r c (Some s) e = absurd cc
      at_spot r c None e = e

      go : (x : Choice) → choose F S is_too_wide T among ≡ x → on_choice phase (suc left) done T
          (λ r c. on_spot phase done (turns F S is_too_wide phase among left (suc done)) (pivoted_at F S T r c)
          (pivot_spot F is_too_wide S T r c)) x ≡ spent →
          ((U : Tabled F.C) → turns F S is_too_wide phase among left (suc done) U ≡ spent → (k : ℕ) → k ≤ left →
          IsDue (choose F S is_too_wide (tables U k) among)) →
          (k : ℕ) → k ≤ suc left → IsDue (choose F S is_too_wide (tables T k) among)
      go stays p e h = absurd cc
      go (rises c) p e h = absurd cc
      go (refused s) p e h = absurd cc
      go (due r c) p e h = due_then T left (subst IsDue (sym p) tt)
          (h (moved T) (subst (λ x. turns F S is_too_wide phase among left (suc done)
          (pivoted_at F S T (row_of x) (column_of x)) ≡ spent) (sym p)
          (at_spot r c (pivot_spot F is_too_wide S T r c) e)))

  -- what a due pivot says of its table
  due_is : (T : Tabled F.C) (x : Choice) → Chosen F S T among x → IsDue x →
      Due F S T among (row_of x) (column_of x)
  due_is T stays h d = absurd d
  due_is T (rises c) h d = absurd d
  due_is T (due r c) h d = h
  due_is T (refused s) h d = absurd d

  module _ (T : Tabled F.C) (start : Tableau F S.rows (columns S) A own T.cell T.basic) (B : ℕ)
      (all : (k : ℕ) → k < B → IsDue (choose F S is_too_wide (tables T k) among)) where
    -- each pivot is due
    due_at : (k : ℕ) → k < B → Due F S (tables T k) among (row_of (choose F S is_too_wide (tables T k) among))
        (column_of (choose F S is_too_wide (tables T k) among))
    due_at k l = due_is (tables T k) _ (chosen F S is_too_wide (tables T k) among) (all k l)

    -- each table of the phase is a tableau
    pub tableau_at : (k : ℕ) → k ≤ B → Tableau F S.rows (columns S) A own (tables T k).cell (tables T k).basic
    tableau_at zero l = start
    tableau_at (suc k) l = due_tableau F S A own among within (tables T k) _ _ (tableau_at k (omega arith))
        (due_at k (omega arith))

    -- so the tables are a sequence as Bland's rule makes it
    turns_from : (a d : ℕ) → a + d ≤ B → Turns F S A own among (λ k. tables T (a + k))
        (λ k. row_of (choose F S is_too_wide (tables T (a + k)) among))
        (λ k. column_of (choose F S is_too_wide (tables T (a + k)) among)) d
    turns_from a d l = record {
      among_columns = omega arith;
      tableau = λ k p. tableau_at (a + k) (omega arith);
      due = λ k p. due_at (a + k) (omega arith);
      step = λ k p. let e : a + suc k ≡ suc (a + k) = omega arith in ap (tables T) e;
    }

    -- no set of basic columns recurs
    pub no_set : (a b : ℕ) → a < b → b ≤ B → SameSet S.rows (tables T a).basic (tables T b).basic → ⊥
    no_set a b l k h = cannot_recur F S A own among _ _ _ (b - a) (turns_from a (b - a) (omega arith))
        (omega arith)
        (let x : a ≡ a + 0 = omega arith in let y : b ≡ a + (b - a) = omega arith in
        subst (λ z. SameSet S.rows (tables T (a + 0)).basic (tables T z).basic) y
        (subst (λ z. SameSet S.rows (tables T z).basic (tables T b).basic) x h))

    -- no number of a set recurs
    no_repeat : (a b : ℕ) → a < b → b ≤ B → code (columns S) (has S.rows (tables T a).basic)
        ≡ code (columns S) (has S.rows (tables T b).basic) → ⊥
    no_repeat a b l k e = no_set a b l k (same_set S.rows (columns S) _ _
        (λ i p. (tableau_at a (omega arith)).basic_below i p) (λ i p. (tableau_at b k).basic_below i p) e)

    -- so the pivots are fewer than the sets
    pub few : suc B ≤ 2 ^ columns S
    few = pigeonhole (suc B) (2 ^ columns S) (λ k. code (columns S) (has S.rows (tables T k).basic))
        (λ k l. code-below (columns S) (has S.rows (tables T k).basic)) one_to_one
      where
        one_to_one : (a b : ℕ) → a < suc B → b < suc B →
            code (columns S) (has S.rows (tables T a).basic)
            ≡ code (columns S) (has S.rows (tables T b).basic) → a ≡ b
        one_to_one a b la lb e = go (ℕ_discrete a b) (dec_le a b)
          where
            go : Dec (a ≡ b) → Dec (a ≤ b) → a ≡ b
            go (yes d) o = d
            go (no d) (yes o) = absurd (no_repeat a b (omega arith) (omega arith) e)
            go (no d) (no o) = absurd (no_repeat b a (omega arith) (omega arith) (sym e))

  -- with a budget of 2^columns a phase is never over it
  pub never_spent : (left done : ℕ) (T : Tabled F.C) → Tableau F S.rows (columns S) A own T.cell T.basic →
      2 ^ columns S ≤ left → turns F S is_too_wide phase among left done T ≢ spent
  never_spent left done T t l e = let k = few T t (suc left)
      (λ k p. spent_due left done T e k (omega arith)) in omega arith

  -- the pivots of a phase that completes
  pub record Used (T : Tabled F.C) (left l : ℕ) : Type 0 where
    pub count : ℕ
    pub total : l + count ≡ left
    pub all : (k : ℕ) → k < count → IsDue (choose F S is_too_wide (tables T k) among)

  -- the pivots of a phase that completes were all due
  complete_used : (left done : ℕ) (T : Tabled F.C) (l d : ℕ) (U : Tabled F.C) →
      turns F S is_too_wide phase among left done T ≡ complete l d U → Used T left l
  complete_used zero done T l d U e = go (choose F S is_too_wide T among) e
    where
      go : (x : Choice) → on_choice phase zero done T (λ r c. spent) x ≡ complete l d U → Used T zero l
      go stays e = record {
        count = 0;
        total = let z : 0 ≡ l = cc in omega arith;
        all = λ k p. absurd (omega arith);
      }
      go (rises c) e = absurd cc
      go (due r c) e = absurd cc
      go (refused s) e = absurd cc
  complete_used (suc left) done T l d U e = go (choose F S is_too_wide T among) refl e
      (λ V. complete_used left (suc done) V l d U)
    where
      at_spot : (r c : ℕ) (o : Option PivotWide) → on_spot phase done
          (turns F S is_too_wide phase among left (suc done)) (pivoted_at F S T r c) o ≡ complete l d U →
          turns F S is_too_wide phase among left (suc done) (pivoted_at F S T r c) ≡ complete l d U
      at_spot r c (Some s) e = absurd cc
      at_spot r c None e = e

      more : IsDue (choose F S is_too_wide T among) → Used (moved T) left l → Used T (suc left) l
      more h u = record { count = suc u.count; total = omega (arith, u.total); all = λ k p. each k p }
        where
          each : (k : ℕ) → k < suc u.count → IsDue (choose F S is_too_wide (tables T k) among)
          each zero p = h
          each (suc k) p = subst (λ V. IsDue (choose F S is_too_wide V among)) (sym (shifted T k))
              (u.all k (omega arith))

      go : (x : Choice) → choose F S is_too_wide T among ≡ x → on_choice phase (suc left) done T
          (λ r c. on_spot phase done (turns F S is_too_wide phase among left (suc done)) (pivoted_at F S T r c)
          (pivot_spot F is_too_wide S T r c)) x ≡ complete l d U →
          ((V : Tabled F.C) → turns F S is_too_wide phase among left (suc done) V ≡ complete l d U →
          Used V left l) → Used T (suc left) l
      go stays p e h = record {
        count = 0;
        total = let z : suc left ≡ l = cc in omega arith;
        all = λ k p. absurd (omega arith);
      }
      go (rises c) p e h = absurd cc
      go (refused s) p e h = absurd cc
      go (due r c) p e h = more (subst IsDue (sym p) tt) (h (moved T)
          (subst (λ x. turns F S is_too_wide phase among left (suc done)
          (pivoted_at F S T (row_of x) (column_of x)) ≡ complete l d U) (sym p)
          (at_spot r c (pivot_spot F is_too_wide S T r c) e)))

  -- so the pivots of a phase that completes are fewer than 2^columns
  pub complete_few : (left done : ℕ) (T : Tabled F.C) (l d : ℕ) (U : Tabled F.C) →
      Tableau F S.rows (columns S) A own T.cell T.basic →
      turns F S is_too_wide phase among left done T ≡ complete l d U → left < l + 2 ^ columns S
  complete_few left done T l d U t e = go (complete_used left done T l d U e)
    where
      go : Used T left l → left < l + 2 ^ columns S
      go u = omega (arith, u.total, few T t u.count u.all)
