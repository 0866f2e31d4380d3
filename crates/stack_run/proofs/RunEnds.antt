-- The three phases keep what they should, and so the ends of a run give over the first rows what they should.
use Rattle.std.proofs.Common.{◌≡◌, ◌≢◌, refl, subst, ℕ, zero, suc, ◌<◌, ◌≤◌, Bool, true, false, cond, leb, not, arith}
use Rattle.std.proofs.Common.{Option, Some, None, leb-true, leb-false, pos}
use Rattle.stack_rational.proofs.Common.{Ordered, Sign, minus, nought, plus, least-some, least-none}
use Rattle.stack_rational.specs.declared.exact.Op.{Op}
use Rattle.stack_table.specs.declared.types.PivotWide.{PivotWide}
use Rattle.stack_table.specs.Table.{Shape, Tabled, plain, columns, right, objective, pivoted_at, clear_objective}
use Rattle.stack_table.specs.Table.{set_factor_objective}
use Rattle.stack_table.specs.Spots.{pivot_spot}
use Rattle.stack_bland.specs.Choice.{is_negative_sign, is_nought}
use Rattle.stack_run.specs.WrittenRun.{PhaseStop, complete, unlimited, wide_at, spent, End, infeasible, feasible}
use Rattle.stack_run.specs.WrittenRun.{optimal, ray, wide, over, never, after_phase, on_spot, turns, driven_column}
use Rattle.stack_run.specs.WrittenRun.{drive_at, drive_row, drives, third_end, past_first, first_end, written_run}
use Rattle.stack_run.specs.PhaseTables.{own_first, own_third, IsFirst, IsThird}
use Rattle.stack_run.proofs.RowEnds.{Balances, Refutes, Bounds, Rises, StandsAlone}
use Rattle.stack_run.proofs.Solutions.{solution, ray_of}
use Rattle.stack_run.proofs.Duality.{motion, FirstRows, infeasible_refutes, feasible_balances, some_row_leaves}
use Rattle.stack_run.proofs.Duality.{values_balance, optimal_bounds, ray_rises}
use Rattle.stack_run.proofs.TurnsKeep.{Stopped, turns_keep}
use Rattle.stack_run.proofs.ThreePhases.{Second, first_step, first_stands, third_step, second_begins, second_pivot}
use Rattle.stack_run.proofs.ThreePhases.{second_skips, third_begins, sign-minus, sign_not-minus, sign-nought}
use Rattle.stack_run.proofs.ThreePhases.{sign_not-nought}

module _ (F : Ordered) (S : Shape) (A : ℕ → ℕ → F.C) where
  abbrev m : ℕ
  m = S.rows

  abbrev w : ℕ
  w = plain S

  abbrev n : ℕ
  n = columns S

  -- what each end gives over the first rows
  pub record Infeasible (T : Tabled F.C) : Type 0 where
    pub first : IsFirst F S A T
    pub refutes : Refutes F m w n A S.contacts (motion F m w (own_first F m w) T.cell)

  pub record Feasible (T : Tabled F.C) : Type 0 where
    pub without_factor : S.factors ≡ 0
    pub first : IsFirst F S A T
    pub balances : Balances F m w n A (solution F m n T.cell T.basic) (F.of (pos 1))

  pub record Raised (T : Tabled F.C) : Type 0 where
    pub with_factor : S.contacts < w
    pub third : IsThird F S A T
    pub stands : StandsAlone F m w n A S.contacts
    pub balances : Balances F m w n A (solution F m n T.cell T.basic) (F.of (pos 1))

  pub record Optimal (T : Tabled F.C) : Type 0 where
    pub raised : Raised T
    pub bounds : Bounds F m w n A S.contacts (solution F m n T.cell T.basic)
        (motion F m w (own_third F S.contacts) T.cell)

  pub record OnRay (T : Tabled F.C) (c : ℕ) : Type 0 where
    pub raised : Raised T
    pub below : c < w
    pub enters : F.sign (objective F S T c) ≡ minus
    pub rises : Rises F m w n A S.contacts (ray_of F m n T.cell T.basic c)

  -- what an end gives over the first rows, whichever it is
  abbrev pub EndOverRows : End F.C → Type 0
  EndOverRows (infeasible T) = Infeasible T
  EndOverRows (feasible T) = Feasible T
  EndOverRows (optimal T) = Optimal T
  EndOverRows (ray T c) = OnRay T c
  EndOverRows (wide p k s) = Unit {0}
  EndOverRows over = Unit {0}
  EndOverRows never = ⊥

  -- how phase 2 stops on tables with P: it is never unlimited
  abbrev pub Complete : (Tabled F.C → Type 0) → PhaseStop F.C → Type 0
  Complete P (complete left done T) = P T
  Complete P (unlimited T c) = ⊥
  Complete P (wide_at p k s) = Unit {0}
  Complete P spent = Unit {0}

  module _ (is_too_wide : Op → F.C → F.C → Bool) where
    -- what phase 2 keeps at one row
    pub drive_keeps : (left done : ℕ) (T : Tabled F.C) (r : ℕ) → r < m → Second F S A r T →
        Complete (Second F S A (suc r)) (drive_row F S is_too_wide left done T r)
    drive_keeps left done T r l h = go (leb w (T.basic r)) refl
      where
        at_spot : (left c : ℕ) (o : Option PivotWide) → Second F S A (suc r) (pivoted_at F S T r c) →
            Complete (Second F S A (suc r)) (on_spot 2 done (complete left (suc done)) (pivoted_at F S T r c) o)
        at_spot left c (Some s) k = tt
        at_spot left c None k = k

        at_column : w ≤ T.basic r → (left : ℕ) (o : Option ℕ) → driven_column F S T r ≡ o →
            Complete (Second F S A (suc r)) (drive_at F S is_too_wide left done T r o)
        at_column b left None e = second_skips F S A T r
            (λ j _ lj. F.zero_by_sign _ (sign-nought _
            (least-none w (λ j. not (is_nought (F.sign (T.cell r j)))) e j lj))) h
        at_column b zero (Some c) e = tt
        at_column b (suc left) (Some c) e = let k =
            least-some w (λ j. not (is_nought (F.sign (T.cell r j)))) c e in
            at_spot left c (pivot_spot F is_too_wide S T r c)
            (second_pivot F S A T r c l k.below b (sign_not-nought _ k.has) h)

        go : (b : Bool) → leb w (T.basic r) ≡ b →
            Complete (Second F S A (suc r))
            (cond b (drive_at F S is_too_wide left done T r (driven_column F S T r))
            (complete left done T))
        go true e = at_column (leb-true _ _ e) left (driven_column F S T r) refl
        go false e = second_skips F S A T r (λ j b _. absurd (let p = leb-false _ _ e in omega arith)) h

    -- phase 2 over the rows below k
    pub drives_keep : (k : ℕ) → k ≤ m → (left done : ℕ) (T : Tabled F.C) → Second F S A 0 T →
        Complete (Second F S A k) (drives F S is_too_wide k left done T)
    drives_keep zero l left done T h = h
    drives_keep (suc k) l left done T h =
        go (drives F S is_too_wide k left done T) (drives_keep k (omega arith) left done T h)
      where
        go : (x : PhaseStop F.C) → Complete (Second F S A k) x →
            Complete (Second F S A (suc k)) (after_phase x (λ l d U. drive_row F S is_too_wide l d U k))
        go (complete left done T) h = drive_keeps left done T k l h
        go (unlimited T c) h = absurd h
        go (wide_at p k s) h = tt
        go spent h = tt

    -- a table of phase 3: its values balance, and the right side stands by itself
    raised_at : S.contacts < w → StandsAlone F m w n A S.contacts → (T : Tabled F.C) → IsThird F S A T → Raised T
    raised_at lg z T h = record {
      with_factor = lg;
      third = h;
      stands = z;
      balances = values_balance F m w A T.cell T.basic (own_third F S.contacts) h.tableau h.zero_value;
    }

    -- what is left of the run, by how phase 3, phase 2 and phase 1 stop
    third_gives : FirstRows F m w A → S.contacts < w → StandsAlone F m w n A S.contacts → (x : PhaseStop F.C) →
        Stopped F S (IsThird F S A) w x → EndOverRows (third_end x)
    third_gives a lg z (complete left done T) h = record {
      raised = raised_at lg z T h.0;
      bounds = optimal_bounds F m w A T.cell T.basic S.contacts lg h.0.tableau a
          (λ j l. record { fact = sign_not-minus _ (h.1 j l) });
    }
    third_gives a lg z (unlimited T c) h = record {
      raised = raised_at lg z T h.0;
      below = h.1.enters.below;
      enters = sign-minus _ h.1.enters.has;
      rises = ray_rises F m w A T.cell T.basic S.contacts lg h.0.tableau c h.1.enters.below
          (sign-minus _ h.1.enters.has) h.1.no_row (λ i l b. h.0.zero_row i c l b h.1.enters.below);
    }
    third_gives a lg z (wide_at p k s) h = tt
    third_gives a lg z spent h = tt

    after_second : FirstRows F m w A → S.contacts < w → StandsAlone F m w n A S.contacts → (x : PhaseStop F.C) →
        Complete (Second F S A m) x → EndOverRows
        (third_end (after_phase x (λ l d U. turns F S is_too_wide 3 w l d (set_factor_objective F S U))))
    after_second a lg z (complete left done T) h =
        third_gives a lg z _ (turns_keep F S is_too_wide (IsThird F S A) 3 w (third_step F S A) left done
        (set_factor_objective F S T)
        (third_begins F S A T lg h))
    after_second a lg z (unlimited T c) h = absurd h
    after_second a lg z (wide_at p k s) h = tt
    after_second a lg z spent h = tt

    second_gives : FirstRows F m w A → (left done : ℕ) (T : Tabled F.C) (k : ℕ) → S.factors ≡ k →
        IsFirst F S A T →
        F.sign (right F S T m) ≢ minus → EndOverRows (past_first F S is_too_wide left done T k)
    second_gives a left done T zero e h d = record {
      without_factor = e;
      first = h;
      balances = feasible_balances F m w A T.cell T.basic h.tableau d;
    }
    second_gives a left done T (suc k) e h d =
        after_second a (omega (arith, e)) (first_stands F S A T h (omega (arith, e)) d) _
        (drives_keep m (omega arith) left done (clear_objective F S T) (second_begins F S A T h d))

    -- no column of phase 1 is unlimited
    limited : FirstRows F m w A → (T : Tabled F.C) (c : ℕ) →
        ¬ Stopped F S (IsFirst F S A) S.contacts (unlimited T c)
    limited a T c h = some_row_leaves F m w A T.cell T.basic h.0.tableau c (omega (arith, h.1.enters.below))
        (sign-minus _ h.1.enters.has) h.1.no_row

    first_gives : FirstRows F m w A → (x : PhaseStop F.C) → Stopped F S (IsFirst F S A) S.contacts x →
        EndOverRows (first_end F S is_too_wide x)
    first_gives a (complete left done T) h = go (F.sign (right F S T m)) refl
      where
        go : (s : Sign) → F.sign (right F S T m) ≡ s →
            EndOverRows (cond (is_negative_sign s) (infeasible T) (past_first F S is_too_wide left done T S.factors))
        go minus e = record {
          first = h.0;
          refutes = infeasible_refutes F m w A T.cell T.basic h.0.tableau a S.contacts (omega arith)
              (λ j l. record { fact = sign_not-minus _ (h.1 j l) }) e;
        }
        go nought e = second_gives a left done T S.factors refl h.0 (λ d. cc)
        go plus e = second_gives a left done T S.factors refl h.0 (λ d. cc)
    first_gives a (unlimited T c) h = absurd (limited a T c h)
    first_gives a (wide_at p k s) h = tt
    first_gives a spent h = tt

    -- phase 1 stops on a table of phase 1
    first_stops : (budget : ℕ) (T : Tabled F.C) → IsFirst F S A T →
        Stopped F S (IsFirst F S A) S.contacts (turns F S is_too_wide 1 S.contacts budget 0 T)
    first_stops budget T h =
        turns_keep F S is_too_wide (IsFirst F S A) 1 S.contacts (first_step F S A) budget 0 T h

    -- the end of the run gives what it should
    pub run_gives : FirstRows F m w A → (budget : ℕ) (T : Tabled F.C) → IsFirst F S A T →
        EndOverRows (written_run F S is_too_wide budget T)
    run_gives a budget T h = first_gives a _ (first_stops budget T h)

    -- in phase 1 some row leaves wherever a column enters
    pub first_limited : FirstRows F m w A → (budget : ℕ) (T : Tabled F.C) → IsFirst F S A T →
        (U : Tabled F.C) (c : ℕ) → turns F S is_too_wide 1 S.contacts budget 0 T ≢ unlimited U c
    first_limited a budget T h U c e = limited a U c
        (subst (λ x. Stopped F S (IsFirst F S A) S.contacts x) e (first_stops budget T h))
