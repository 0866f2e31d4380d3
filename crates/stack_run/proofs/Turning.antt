-- The turns of a phase, and that the run goes on from each table at which it stands.
use Rattle.std.proofs.Common.{◌≡◌, ◌≢◌, refl, sym, ap, subst, ◌∙◌, ℕ, zero, suc, ◌<◌, ◌≤◌, ◌+◌, ◌-◌, Bool, false, cond}
use Rattle.std.proofs.Common.{arith, Option, Some, None}
use Rattle.stack_rational.proofs.Common.{ℕ_discrete, Ordered, Sign, minus, nought, plus}
use Rattle.stack_rational.specs.declared.exact.Op.{Op}
use Rattle.stack_table.specs.declared.types.PivotWide.{PivotWide}
use Rattle.stack_table.specs.Table.{Shape, Tabled, plain, pivoted_at, clear_objective, set_factor_objective}
use Rattle.stack_table.specs.Spots.{pivot_spot}
use Rattle.stack_bland.specs.Choice.{is_negative_sign}
use Rattle.stack_run.specs.WrittenRun.{Choice, stays, rises, due, refused, choose, complete, infeasible, after_phase}
use Rattle.stack_run.specs.WrittenRun.{on_spot, on_choice, turns, drive_row, drives, third_end, past_first, first_end}
use Rattle.stack_run.specs.WrittenRun.{written_run}
use Rattle.stack_run.specs.Reached.{then_on, unrefused, turned_by, after_turns, ComesToSecond, ReachesInSecond}
use Rattle.stack_run.specs.Reached.{ReachesInThird, drives_from, third_from, second_from, GoesOn}
use Rattle.stack_run.proofs.PhaseBudgets.{IsDue, row_of, column_of, moved, tables}

-- the table of Some
pub some_table : {C : Type 0} {T U : Tabled C} → Some T ≡ Some U → T ≡ U
some_table e = cc

module _ (F : Ordered) (S : Shape) (is_too_wide : Op → F.C → F.C → Bool) where
  -- a turn that goes on: its pivot is due, and nothing of it is too wide
  pub record Goes (among : ℕ) (T U : Tabled F.C) : Type 0 where
    pub row : ℕ
    pub column : ℕ
    pub is_due : choose F S is_too_wide T among ≡ due row column
    pub unhindered : pivot_spot F is_too_wide S T row column ≡ None
    pub next : pivoted_at F S T row column ≡ U

  -- a turn goes on where there is a table after it
  pub goes : (among : ℕ) (T U : Tabled F.C) → turned_by F S is_too_wide T (choose F S is_too_wide T among) ≡ Some U →
      Goes among T U
  goes among T U e = go (choose F S is_too_wide T among) refl e
    where
      at_spot : (r c : ℕ) → choose F S is_too_wide T among ≡ due r c → (o : Option PivotWide) →
          pivot_spot F is_too_wide S T r c ≡ o → unrefused (pivoted_at F S T r c) o ≡ Some U → Goes among T U
      at_spot r c p None q e = record { row = r; column = c; is_due = p; unhindered = q; next = some_table e }
      at_spot r c p (Some s) q e = absurd cc

      go : (x : Choice) → choose F S is_too_wide T among ≡ x → turned_by F S is_too_wide T x ≡ Some U → Goes among T U
      go stays p e = absurd cc
      go (rises c) p e = absurd cc
      go (due r c) p e = at_spot r c p (pivot_spot F is_too_wide S T r c) refl e
      go (refused s) p e = absurd cc

  -- the phase is the same from the next table on
  pub turn_on : (phase among left done : ℕ) (T U : Tabled F.C) → Goes among T U →
      turns F S is_too_wide phase among (suc left) done T ≡ turns F S is_too_wide phase among left (suc done) U
  turn_on phase among left done T U g =
      ap (on_choice phase (suc left) done T (λ r c. on_spot phase done
      (turns F S is_too_wide phase among left (suc done)) (pivoted_at F S T r c)
      (pivot_spot F is_too_wide S T r c))) g.is_due
      ∙ ap (on_spot phase done (turns F S is_too_wide phase among left (suc done))
      (pivoted_at F S T g.row g.column)) g.unhindered
      ∙ ap (turns F S is_too_wide phase among left (suc done)) g.next

  -- the table before the last of some turns, and the turn that goes on from it
  pub record Before (among : ℕ) (T : Tabled F.C) (k : ℕ) (U : Tabled F.C) : Type 0 where
    pub table : Tabled F.C
    pub there : after_turns F S is_too_wide among T k ≡ Some table
    pub goes_on : Goes among table U

  -- where there is a table after so many turns, there is one before the last of them
  pub before : (among : ℕ) (T : Tabled F.C) (k : ℕ) (U : Tabled F.C) →
      after_turns F S is_too_wide among T (suc k) ≡ Some U → Before among T k U
  before among T k U e = go (after_turns F S is_too_wide among T k) refl e
    where
      go : (x : Option (Tabled F.C)) → after_turns F S is_too_wide among T k ≡ x →
          then_on x (λ V. turned_by F S is_too_wide V (choose F S is_too_wide V among)) ≡ Some U → Before among T k U
      go None p e = absurd cc
      go (Some V) p e = record { table = V; there = p; goes_on = goes among V U e }

  -- the phase is the same from the table after k turns on
  pub turns_on : (phase among left done : ℕ) (T : Tabled F.C) (k : ℕ) (U : Tabled F.C) → k ≤ left →
      after_turns F S is_too_wide among T k ≡ Some U →
      turns F S is_too_wide phase among left done T ≡ turns F S is_too_wide phase among (left - k) (done + k) U
  turns_on phase among left done T zero U l e = let p : left ≡ left - zero = omega arith in
      let q : done ≡ done + zero = omega arith in
      (λ z. turns F S is_too_wide phase among (p z) (q z) (some_table e z))
  turns_on phase among left done T (suc k) U l e =
      go (before among T k U e) (turns_on phase among left done T k)
    where
      p : left - k ≡ suc (left - suc k)
      p = omega arith

      q : suc (done + k) ≡ done + suc k
      q = omega arith

      go : Before among T k U → ((V : Tabled F.C) → k ≤ left → after_turns F S is_too_wide among T k ≡ Some V →
          turns F S is_too_wide phase among left done T ≡ turns F S is_too_wide phase among (left - k) (done + k) V) →
          turns F S is_too_wide phase among left done T
          ≡ turns F S is_too_wide phase among (left - suc k) (done + suc k) U
      go b h = h b.table (omega arith) b.there
          ∙ ap (λ n. turns F S is_too_wide phase among n (done + k) b.table) p
          ∙ turn_on phase among (left - suc k) (done + k) b.table U b.goes_on
          ∙ ap (λ n. turns F S is_too_wide phase among (left - suc k) n U) q

  -- what is left of phase 2
  drives_rest : (left done : ℕ) (V : Tabled F.C) (row l d : ℕ) (U : Tabled F.C) →
      drives F S is_too_wide row left done V ≡ complete l d U → (k : ℕ) →
      drives F S is_too_wide (row + k) left done V ≡ drives_from F S is_too_wide k row l d U
  drives_rest left done V row l d U e zero = let p : row + zero ≡ row = omega arith in
      ap (λ n. drives F S is_too_wide n left done V) p ∙ e
  drives_rest left done V row l d U e (suc k) = let p : row + suc k ≡ suc (row + k) = omega arith in
      ap (λ n. drives F S is_too_wide n left done V) p
      ∙ ap (λ x. after_phase x (λ l d W. drive_row F S is_too_wide l d W (row + k)))
      (drives_rest left done V row l d U e k)

  -- a sign that isn't negative
  sign_not : (s : Sign) → s ≢ minus → is_negative_sign s ≡ false
  sign_not minus h = absurd (h refl)
  sign_not nought h = refl
  sign_not plus h = refl

  -- with a factor the run goes on past phase 1
  some_factor : (n : ℕ) → 0 < n → (left done : ℕ) (T : Tabled F.C) →
      past_first F S is_too_wide left done T n ≡ third_end (after_phase (drives F S is_too_wide S.rows left done
      (clear_objective F S T)) (λ l d U. turns F S is_too_wide 3 (plain S) l d (set_factor_objective F S U)))
  some_factor zero l left done T = absurd (omega arith)
  some_factor (suc n) l left done T = refl

  module _ (budget : ℕ) (T : Tabled F.C) where
    -- the run from phase 2 on
    comes_on : (left done : ℕ) (V : Tabled F.C) → ComesToSecond F S is_too_wide budget T left done V →
        written_run F S is_too_wide budget T ≡ third_end (after_phase (drives F S is_too_wide S.rows left done
        (clear_objective F S V)) (λ l d U. turns F S is_too_wide 3 (plain S) l d (set_factor_objective F S U)))
    comes_on left done V h = ap (first_end F S is_too_wide) h.completes
        ∙ ap (λ b. cond b (infeasible V) (past_first F S is_too_wide left done V S.factors))
        (sign_not _ h.not_below)
        ∙ some_factor S.factors h.factor left done V

    -- from a table of phase 2
    second_on : (row d : ℕ) (U : Tabled F.C) (s : ReachesInSecond F S is_too_wide budget T row d U) →
        written_run F S is_too_wide budget T ≡ second_from F S is_too_wide row s.left d U
    second_on row d U s = comes_on s.left_before s.done_before s.last s.comes
        ∙ ap (λ x. third_end (after_phase x (λ l d V. turns F S is_too_wide 3 (plain S) l d
        (set_factor_objective F S V))))
        (ap (λ n. drives F S is_too_wide n s.left_before s.done_before (clear_objective F S s.last)) rows
        ∙ drives_rest s.left_before s.done_before (clear_objective F S s.last) row s.left d U s.there
        (S.rows - row))
      where
        rows : S.rows ≡ row + (S.rows - row)
        rows = let l = s.row_within in omega arith

    -- from a table of phase 3
    third_on : (d : ℕ) (U : Tabled F.C) (s : ReachesInThird F S is_too_wide budget T d U) →
        written_run F S is_too_wide budget T ≡ third_from F S is_too_wide (s.left_before - s.turns_done) d U
    third_on d U s = comes_on s.second.left_before s.second.done_before s.second.last s.second.comes
        ∙ ap (λ x. third_end (after_phase x (λ l d V. turns F S is_too_wide 3 (plain S) l d
        (set_factor_objective F S V)))) s.second.there
        ∙ ap (λ n. third_end (turns F S is_too_wide 3 (plain S) n s.done_before
        (set_factor_objective F S s.last))) s.before
        ∙ ap (third_end) (turns_on 3 (plain S) s.left_before s.done_before
        (set_factor_objective F S s.last) s.turns_done U s.within s.there)
        ∙ ap (λ n. third_end (turns F S is_too_wide 3 (plain S) (s.left_before - s.turns_done) n U)) (sym s.total)

    -- the run goes on from each table that it reaches
    pub run_goes_on : GoesOn F S is_too_wide budget T
    run_goes_on = record {
      from_first = λ d U s. let p : 0 + d ≡ d = omega arith in
          ap (first_end F S is_too_wide) (turns_on 1 S.contacts budget 0 T d U s.within s.there
          ∙ ap (λ n. turns F S is_too_wide 1 S.contacts (budget - d) n U) p);
      from_second = second_on;
      from_third = third_on;
    }

  -- the turns, as far as they go, are due pivots
  module _ (A : ℕ → ℕ → F.C) (own : ℕ → F.C) (phase among : ℕ) (within : among ≤ plain S)
      (T : Tabled F.C) where
    pub record Due_to (k : ℕ) (U : Tabled F.C) : Type 0 where
      pub table : tables F S is_too_wide A own phase among within T k ≡ U
      pub all : (j : ℕ) → j < k → IsDue (choose F S is_too_wide
          (tables F S is_too_wide A own phase among within T j) among)

    -- the first k turns are due pivots
    pub due_to : (k : ℕ) (U : Tabled F.C) → after_turns F S is_too_wide among T k ≡ Some U → Due_to k U
    due_to zero U e = record { table = some_table e; all = λ j l. absurd (omega arith) }
    due_to (suc k) U e = go (before among T k U e) (due_to k)
      where
        go : Before among T k U → ((V : Tabled F.C) → after_turns F S is_too_wide among T k ≡ Some V →
            Due_to k V) → Due_to (suc k) U
        go b h = let x = h b.table b.there in record {
          table = ap (moved F S is_too_wide A own phase among within) x.table
              ∙ ap (λ y. pivoted_at F S b.table (row_of y) (column_of y)) b.goes_on.is_due ∙ b.goes_on.next;
          all = λ j l. each x j l (ℕ_discrete j k);
        }
          where
            each : Due_to k b.table → (j : ℕ) → j < suc k → Dec (j ≡ k) →
                IsDue (choose F S is_too_wide (tables F S is_too_wide A own phase among within T j) among)
            each x j l (yes p) = subst IsDue (sym (ap (λ V. choose F S is_too_wide V among)
                (ap (tables F S is_too_wide A own phase among within T) p ∙ x.table) ∙ b.goes_on.is_due)) tt
            each x j l (no p) = x.all j (omega arith)
