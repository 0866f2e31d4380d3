-- A run has fewer pivots than three times the number of sets of columns, so none is over a budget of 3*2^columns.
use Rattle.std.proofs.Common.{◌≡◌, ◌≢◌, refl, ℕ, zero, suc, ◌≤◌, ◌+◌, ◌*◌, ◌^◌, Bool, true, false, cond, leb}
use Rattle.std.proofs.Common.{arith, Option, Some, None}
use Rattle.stack_rational.proofs.Common.{Ordered, Sign, minus, nought, plus}
use Rattle.stack_rational.specs.declared.exact.Op.{Op}
use Rattle.stack_table.specs.declared.types.PivotWide.{PivotWide}
use Rattle.stack_table.specs.Table.{Shape, Tabled, plain, columns, right, pivoted_at, clear_objective}
use Rattle.stack_table.specs.Table.{set_factor_objective}
use Rattle.stack_table.specs.Spots.{pivot_spot}
use Rattle.stack_bland.specs.Choice.{is_negative_sign}
use Rattle.stack_run.specs.WrittenRun.{PhaseStop, complete, unlimited, wide_at, spent, infeasible, over, on_spot, turns}
use Rattle.stack_run.specs.WrittenRun.{after_phase, driven_column, drive_at, drive_row, drives, third_end, past_first}
use Rattle.stack_run.specs.WrittenRun.{first_end, written_run}
use Rattle.stack_run.specs.PhaseTables.{own_first, own_third, IsFirst, IsThird}
use Rattle.stack_run.proofs.Duality.{some_row_leaves}
use Rattle.stack_run.proofs.TurnsKeep.{Stopped, turns_keep}
use Rattle.stack_run.proofs.ThreePhases.{sign-minus, Second, first_step, second_begins, third_begins}
use Rattle.stack_run.proofs.RunEnds.{Complete, drives_keep}
use Rattle.stack_run.proofs.SetNumbers.{below_power}
use Rattle.stack_run.proofs.PhaseBudgets.{never_spent, complete_few}

-- a run of a problem with these first rows A
module _ (F : Ordered) (S : Shape) (is_too_wide : Op → F.C → F.C → Bool) (A : ℕ → ℕ → F.C) where
  -- a stop with at least b pivots left, where it completes
  abbrev Leaves : ℕ → PhaseStop F.C → Type 0
  Leaves b (complete l d T) = b ≤ l
  Leaves b (unlimited T c) = Unit {0}
  Leaves b (wide_at p k s) = Unit {0}
  Leaves b spent = ⊥

  -- what phase 1 leaves
  first_leaves : (b left done : ℕ) (T : Tabled F.C) → IsFirst F S A T → b + 2 ^ columns S ≤ left →
      Leaves b (turns F S is_too_wide 1 S.contacts left done T)
  first_leaves b left done T h l = go (turns F S is_too_wide 1 S.contacts left done T) refl
    where
      go : (x : PhaseStop F.C) → turns F S is_too_wide 1 S.contacts left done T ≡ x → Leaves b x
      go (complete k d U) e = omega (
        arith,
        l,
        complete_few F S is_too_wide A
            (own_first F S.rows (plain S)) 1 S.contacts (omega arith) left done T k d U h.tableau e,
      )
      go (unlimited U c) e = tt
      go (wide_at p k s) e = tt
      go spent e = never_spent F S is_too_wide A (own_first F S.rows (plain S)) 1 S.contacts
          (omega arith) left done T h.tableau (omega arith) e

  -- phase 3 isn't spent
  third_leaves : (left done : ℕ) (T : Tabled F.C) → IsThird F S A T → 2 ^ columns S ≤ left →
      turns F S is_too_wide 3 (plain S) left done T ≢ spent
  third_leaves left done T h l = never_spent F S is_too_wide A (own_third F S.contacts) 3 (plain S)
      (omega arith) left done T h.tableau l

  -- a row of phase 2 uses at most one pivot
  drive_leaves : (b left done : ℕ) (T : Tabled F.C) (i : ℕ) → b + 1 ≤ left →
      Leaves b (drive_row F S is_too_wide left done T i)
  drive_leaves b left done T i l = go (leb (plain S) (T.basic i)) left (driven_column F S T i) l
    where
      at_spot : (left c : ℕ) (o : Option PivotWide) → b ≤ left →
          Leaves b (on_spot 2 done (complete left (suc done)) (pivoted_at F S T i c) o)
      at_spot left c (Some s) l = tt
      at_spot left c None l = l

      go : (x : Bool) (left : ℕ) (o : Option ℕ) → b + 1 ≤ left →
          Leaves b (cond x (drive_at F S is_too_wide left done T i o) (complete left done T))
      go false left o l = omega arith
      go true left None l = omega arith
      go true zero (Some c) l = absurd (omega arith)
      go true (suc left) (Some c) l = at_spot left c (pivot_spot F is_too_wide S T i c) (omega arith)

  -- all rows of phase 2 use at most as many pivots as they are
  drives_leave : (k b left done : ℕ) (T : Tabled F.C) → b + k ≤ left →
      Leaves b (drives F S is_too_wide k left done T)
  drives_leave zero b left done T l = omega arith
  drives_leave (suc k) b left done T l = go (drives F S is_too_wide k left done T)
      (drives_leave k (b + 1) left done T (omega arith))
    where
      go : (x : PhaseStop F.C) → Leaves (b + 1) x → Leaves b (after_phase x
          (λ l d U. drive_row F S is_too_wide l d U k))
      go (complete l d U) h = drive_leaves b l d U k h
      go (unlimited U c) h = tt
      go (wide_at p k s) h = tt
      go spent h = absurd h

  -- a run past phase 1 is over only where a phase is spent
  third_over : (x : PhaseStop F.C) → third_end x ≡ over → x ≡ spent
  third_over (complete l d T) e = absurd cc
  third_over (unlimited T c) e = absurd cc
  third_over (wide_at p k s) e = absurd cc
  third_over spent e = refl

  -- a run past phase 1 isn't over where enough is left
  second_enough : (l d : ℕ) (T : Tabled F.C) (k : ℕ) → S.factors ≡ k → IsFirst F S A T →
      F.sign (right F S T S.rows) ≢ minus → 2 * 2 ^ columns S ≤ l → past_first F S is_too_wide l d T k ≢ over
  second_enough l d T zero f h s b e = absurd cc
  second_enough l d T (suc k) f h s b e = go (drives F S is_too_wide S.rows l d (clear_objective F S T))
      (drives_leave S.rows (2 ^ columns S) l d (clear_objective F S T)
      (omega (arith, b, below_power (columns S))))
      (drives_keep F S A is_too_wide S.rows (omega arith) l d (clear_objective F S T) (second_begins F S A T h s))
      (third_over _ e)
    where
      go : (x : PhaseStop F.C) → Leaves (2 ^ columns S) x → Complete F S A (Second F S A S.rows) x →
          after_phase x (λ l d U. turns F S is_too_wide 3 (plain S) l d (set_factor_objective F S U)) ≡ spent → ⊥
      go (complete l d U) b h e = third_leaves l d (set_factor_objective F S U)
          (third_begins F S A U (omega (arith, f)) h) b e
      go (unlimited U c) b h e = cc
      go (wide_at p k s) b h e = cc
      go spent b h e = b

  -- a budget of 3 * 2^columns is never spent
  pub enough : (budget : ℕ) (T : Tabled F.C) → IsFirst F S A T → 3 * 2 ^ columns S ≤ budget →
      written_run F S is_too_wide budget T ≢ over
  enough budget T h b e = go (turns F S is_too_wide 1 S.contacts budget 0 T)
      (first_leaves (2 * 2 ^ columns S) budget 0 T h (omega arith))
      (turns_keep F S is_too_wide (IsFirst F S A) 1 S.contacts (first_step F S A) budget 0 T h) e
    where
      at_sign : (s : Sign) (l d : ℕ) (U : Tabled F.C) → F.sign (right F S U S.rows) ≡ s → IsFirst F S A U →
          2 * 2 ^ columns S ≤ l → cond (is_negative_sign s) (infeasible U) (past_first F S is_too_wide l d U S.factors)
          ≡ over → ⊥
      at_sign minus l d U p h b e = cc
      at_sign nought l d U p h b e = second_enough l d U S.factors refl h (λ q. cc) b e
      at_sign plus l d U p h b e = second_enough l d U S.factors refl h (λ q. cc) b e

      go : (x : PhaseStop F.C) → Leaves (2 * 2 ^ columns S) x → Stopped F S (IsFirst F S A) S.contacts x →
          first_end F S is_too_wide x ≡ over → ⊥
      go (complete l d U) b h e = at_sign (F.sign (right F S U S.rows)) l d U refl h.0 b e
      go (unlimited U c) b h e = some_row_leaves F S.rows (plain S) A U.cell U.basic h.0.tableau c
          (omega (arith, h.1.enters.below)) (sign-minus _ h.1.enters.has) h.1.no_row
      go (wide_at p k s) b h e = cc
      go spent b h e = b
