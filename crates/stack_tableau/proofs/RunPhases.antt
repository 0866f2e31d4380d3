-- The column of a row of phase 2, and what the answers of the phases tell of the written run.
use Rattle.std.proofs.Common.{◌≡◌, ◌≢◌, refl, sym, ap, subst, ◌∙◌, ℕ, suc, ◌+◌, ◌-◌, ◌<◌, Bool, false, cond, not}
use Rattle.std.proofs.Common.{Option, Some, arith, add-one, ℤ, pos}
use Rattle.stack_rational.proofs.Common.{Fraction, sign_of, only_if, least-some, ordered_fractions, is_too_wide}
use Rattle.stack_table.specs.Table.{Shape, Tabled, plain, right, clear_objective, set_factor_objective}
use Rattle.stack_table.specs.Lent.{problem_of}
use Rattle.stack_bland.specs.Choice.{is_nought, is_negative_sign}
use Rattle.stack_run.specs.WrittenRun.{PhaseStop, complete, unlimited, turns, driven_column, drive_row, drives}
use Rattle.stack_run.specs.WrittenRun.{infeasible, after_phase, raise, third_end, past_first, first_end, written_run}
use Rattle.stack_run.specs.PhaseStops.{spot_of}
use Rattle.stack_run.specs.declared.pivots.Pivots.{Pivots}
use Rattle.stack_run.specs.EndLaws.{SomeRowLeaves}
use Rattle.stack_run.proofs.RowsDriven.{drives_on, drives_too_wide, drives_spent}
use Rattle.stack_tableau.specs.declared.stops.RunStop.{RunStop}
use Rattle.stack_tableau.specs.declared.stops.RunStop.TheVariants.{TooWide, Spent, Unsettled}
use Rattle.stack_tableau.specs.Tells.{TellsStop, TellsEnd}
use Rattle.stack_tableau.specs.Written.{IsWrittenTable}

module _ (S : Shape) (T : Tabled Fraction) (i : ℕ) where
  -- the columns that phase 2 may bring in at row i
  abbrev pub driven_item : ℕ → Option ℕ
  driven_item j = only_if (not (is_nought (ordered_fractions.sign (T.cell i j)))) j

  -- by what is read there
  pub driven_at : (j : ℕ) (b : Bool) → b ≡ is_nought (sign_of (T.cell i j).num) → driven_item j ≡ only_if (not b) j
  driven_at j b h = ap (λ b. only_if (not b) j) (sym h)

  -- the column that is found
  pub driven_below : (c : ℕ) → Some c ≡ driven_column ordered_fractions S T i → c < plain S
  driven_below c e =
      (least-some (plain S) (λ j. not (is_nought (ordered_fractions.sign (T.cell i j)))) c (sym e)).below

  -- nor is that of the driven column
  pub driven_nonzero : (c : ℕ) → Some c ≡ driven_column ordered_fractions S T i → (T.cell i c).num ≢ pos 0
  driven_nonzero c e z =
      let b = least-some (plain S) (λ j. not (is_nought (ordered_fractions.sign (T.cell i j)))) c (sym e) in
      let s = sym b.has ∙ ap (λ v. not (is_nought (sign_of v))) z in cc

-- the rows of phase 2 after row i, where the rows before it left the table U and the pivots k
module _ (settles : Bool) (max : ℤ) (S S' : Shape) (T U : Tabled Fraction) (n i : ℕ) (first k : Pivots) (same : S' ≡ S)
    (before : drives ordered_fractions S (is_too_wide max) i first.left first.done T ≡ complete k.left k.done U) where
  -- row i is next
  up_to_row : drives ordered_fractions S (is_too_wide max) (suc i) first.left first.done T
      ≡ drive_row ordered_fractions S' (is_too_wide max) k.left k.done U i
  up_to_row = drives_on ordered_fractions S (is_too_wide max) i first.left first.done k.left k.done T U before
      ∙ ap (λ (S : Shape). drive_row ordered_fractions S (is_too_wide max) k.left k.done U i) (sym same)

  -- the row stops the phase
  pub row_stops : (e : RunStop) → i < n →
      TellsStop settles e (drive_row ordered_fractions S' (is_too_wide max) k.left k.done U i) →
      TellsStop settles e (drives ordered_fractions S (is_too_wide max) n first.left first.done T)
  row_stops (TooWide p) l h = let m = n - suc i in let z : suc i + m ≡ n = omega arith in
      sym (ap (λ n. drives ordered_fractions S (is_too_wide max) n first.left first.done T) (sym z)
      ∙ drives_too_wide ordered_fractions S (is_too_wide max) m (suc i) first.left first.done p.phase p.pivot T
      (spot_of p)
      (up_to_row ∙ sym h))
  row_stops Spent l h = let m = n - suc i in let z : suc i + m ≡ n = omega arith in
      sym (ap (λ n. drives ordered_fractions S (is_too_wide max) n first.left first.done T) (sym z)
      ∙ drives_spent ordered_fractions S (is_too_wide max) m (suc i) first.left first.done T (up_to_row ∙ sym h))
  row_stops Unsettled l h = h

  -- the row is done
  pub row_settles : (l : Pivots) (V : Tabled Fraction) →
      complete l.left l.done V ≡ drive_row ordered_fractions S' (is_too_wide max) k.left k.done U i →
      drives ordered_fractions S (is_too_wide max) (i + 1) first.left first.done T ≡ complete l.left l.done V
  row_settles l V h = ap (λ n. drives ordered_fractions S (is_too_wide max) n first.left first.done T) (add-one i)
      ∙ up_to_row ∙ sym h

-- a phase that is stopped stops the run
pub first_stops : (settles : Bool) (max : ℤ) (S : Shape) (T : Tabled Fraction) (budget : ℕ) (e : RunStop) →
    TellsStop settles e (turns ordered_fractions S (is_too_wide max) 1 S.contacts budget 0 T) →
    TellsEnd settles e (written_run ordered_fractions S (is_too_wide max) budget T)
first_stops settles max S T budget (TooWide p) h = ap (first_end ordered_fractions S (is_too_wide max)) h
first_stops settles max S T budget Spent h = ap (first_end ordered_fractions S (is_too_wide max)) h
first_stops settles max S T budget Unsettled h = h

third_stopped : (settles : Bool) (e : RunStop) (X : PhaseStop Fraction) → TellsStop settles e X →
    TellsEnd settles e (third_end X)
third_stopped settles (TooWide p) X h = ap third_end h
third_stopped settles Spent X h = ap third_end h
third_stopped settles Unsettled X h = h

after_stopped : (settles : Bool) (e : RunStop) (X : PhaseStop Fraction)
    (next : ℕ → ℕ → Tabled Fraction → PhaseStop Fraction) →
    TellsStop settles e X → TellsEnd settles e (third_end (after_phase X next))
after_stopped settles (TooWide p) X next h = ap (λ x. third_end (after_phase x next)) h
after_stopped settles Spent X next h = ap (λ x. third_end (after_phase x next)) h
after_stopped settles Unsettled X next h = h

-- a run past phase 1, which left the table U and the pivots k
pub record IsPastFirst (max : ℤ) (S S' : Shape) (T U : Tabled Fraction) (budget : ℕ) (k : Pivots) : Type 0 where
  pub same : S' ≡ S
  pub first : complete k.left k.done U ≡ turns ordered_fractions S (is_too_wide max) 1 S.contacts budget 0 T
  pub enough : is_negative_sign (ordered_fractions.sign (right ordered_fractions S' U S'.rows)) ≡ false
  pub factor : S'.factors ≡ 1

-- and past phase 2, which left the table V and the pivots l
pub record IsPastSecond (max : ℤ) (S S' : Shape) (U V : Tabled Fraction) (k l : Pivots) : Type 0 where
  pub same : S' ≡ S
  pub second : complete l.left l.done V ≡ drives ordered_fractions S (is_too_wide max) S.rows k.left k.done
      (clear_objective ordered_fractions S U)

module _ (settles : Bool) {max : ℤ} {S S' : Shape} {T U : Tabled Fraction} {budget : ℕ} {k : Pivots}
    (p : IsPastFirst max S S' T U budget k) where
  -- phase 3
  abbrev on_third : ℕ → ℕ → Tabled Fraction → PhaseStop Fraction
  on_third l d V = turns ordered_fractions S (is_too_wide max) 3 (plain S) l d
      (set_factor_objective ordered_fractions S V)

  -- the run goes on with phases 2 and 3
  raised : written_run ordered_fractions S (is_too_wide max) budget T
      ≡ third_end (raise ordered_fractions S (is_too_wide max) k.left k.done U)
  raised = ap (first_end ordered_fractions S (is_too_wide max)) (sym p.first)
      ∙ ap (λ b. cond b (infeasible U) (past_first ordered_fractions S (is_too_wide max) k.left k.done U S.factors))
      (ap (λ (S : Shape). is_negative_sign (ordered_fractions.sign (right ordered_fractions S U S.rows))) (sym p.same)
      ∙ p.enough)
      ∙ ap (past_first ordered_fractions S (is_too_wide max) k.left k.done U)
      (ap (λ (S : Shape). S.factors) (sym p.same) ∙ p.factor)

  -- by the answer of phase 2
  second_is : (X : PhaseStop Fraction) → X ≡ drives ordered_fractions S' (is_too_wide max) S'.rows k.left k.done
      (clear_objective ordered_fractions S' U) →
      written_run ordered_fractions S (is_too_wide max) budget T ≡ third_end (after_phase X on_third)
  second_is X h = raised ∙ ap (λ x. third_end (after_phase x on_third))
      (ap (λ (S : Shape). drives ordered_fractions S (is_too_wide max) S.rows k.left k.done
      (clear_objective ordered_fractions S U))
      (sym p.same) ∙ sym h)

  -- phase 2 is stopped
  pub second_stops : (e : RunStop) →
      TellsStop settles e (drives ordered_fractions S' (is_too_wide max) S'.rows k.left k.done
      (clear_objective ordered_fractions S' U)) →
      TellsEnd settles e (written_run ordered_fractions S (is_too_wide max) budget T)
  second_stops e h = let X = drives ordered_fractions S' (is_too_wide max) S'.rows k.left k.done
      (clear_objective ordered_fractions S' U) in
      subst (TellsEnd settles e) (sym (second_is X refl)) (after_stopped settles e X on_third h)

  -- phase 2 leaves the table V and the pivots l
  module _ {S'' : Shape} {V : Tabled Fraction} {l : Pivots} (q : IsPastSecond max S' S'' U V k l) where
    -- by the answer of phase 3
    pub third_is : (X : PhaseStop Fraction) → X ≡ turns ordered_fractions S'' (is_too_wide max) 3
        (plain S'') l.left l.done
        (set_factor_objective ordered_fractions S'' V) →
        third_end X ≡ written_run ordered_fractions S (is_too_wide max) budget T
    third_is X h = ap third_end (h
        ∙ ap (λ (S : Shape). turns ordered_fractions S (is_too_wide max) 3 (plain S) l.left l.done
        (set_factor_objective ordered_fractions S V)) (q.same ∙ p.same)) ∙ sym (second_is _ q.second)

    -- phase 3 is stopped
    pub third_stops : (e : RunStop) →
        TellsStop settles e (turns ordered_fractions S'' (is_too_wide max) 3 (plain S'') l.left
        l.done (set_factor_objective ordered_fractions S'' V)) →
        TellsEnd settles e (written_run ordered_fractions S (is_too_wide max) budget T)
    third_stops e h = let X = turns ordered_fractions S'' (is_too_wide max) 3 (plain S'') l.left l.done
        (set_factor_objective ordered_fractions S'' V) in
        subst (TellsEnd settles e) (third_is X refl) (third_stopped settles e X h)

-- in phase 1 of a written table no column is unlimited
pub never_unlimited : (max : ℤ) (S : Shape) (T : Tabled Fraction) (budget : ℕ) → SomeRowLeaves →
    IsWrittenTable S T → (U : Tabled Fraction) (c : ℕ) →
    unlimited U c ≡ turns ordered_fractions S (is_too_wide max) 1 S.contacts budget 0 T → ⊥
never_unlimited max S T budget law w U c e =
    let h = w.is_its_table in law (problem_of w.problem) (is_too_wide max) budget U c
    ((λ i. turns ordered_fractions (h.shape i) (is_too_wide max) 1 (h.shape i).contacts budget 0 (h.table i)) ∙ sym e)
