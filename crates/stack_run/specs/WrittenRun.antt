-- The written run of a table with a budget of pivots, under any rule of what is too wide: three phases, each turn
-- after turn. A turn makes its choice first and then looks at the budget. The value is an end with the last
-- table, or the place of the first operation that is too wide, or that the run is over its budget.
use Rattle.std.specs.Prelude.{ℕ, zero, suc, Bool, cond, not, leb, Option, Some, None}
use Rattle.stack_algebra.specs.Ordered.{Ordered}
use Rattle.stack_algebra.specs.Search.{least}
use Rattle.stack_rational.specs.declared.exact.Op.{Op}
use Rattle.stack_table.specs.declared.types.PivotWide.{PivotWide}
use Rattle.stack_table.specs.declared.types.Step.TheVariants.{Ratio}
use Rattle.stack_table.specs.Table.{Shape, Tabled, plain, right, pivoted_at, clear_objective, set_factor_objective}
use Rattle.stack_table.specs.Spots.{pivot_spot}
use Rattle.stack_bland.specs.Choice.{is_negative_sign, is_nought, entering, leaving, ratio_row}

-- the choice of a turn: no column enters; column c enters and no row leaves; a pivot at (r, c) is due; a ratio
-- is too wide
pub data Choice : Type 0 where
  stays : Choice
  rises : (c : ℕ) → Choice
  due : (r c : ℕ) → Choice
  refused : PivotWide → Choice

-- how a phase stops: complete, with pivots left and done; at a column that no row limits; in a pivot, at an
-- operation that is too wide; over the budget
pub data PhaseStop (C : Type 0) : Type 0 where
  complete : (left done : ℕ) → Tabled C → PhaseStop C
  unlimited : Tabled C → (c : ℕ) → PhaseStop C
  wide_at : (phase pivot : ℕ) → PivotWide → PhaseStop C
  spent : PhaseStop C

-- the value of a run. That it is `never` doesn't come
pub data End (C : Type 0) : Type 0 where
  infeasible : Tabled C → End C
  feasible : Tabled C → End C
  optimal : Tabled C → End C
  ray : Tabled C → (c : ℕ) → End C
  wide : (phase pivot : ℕ) → PivotWide → End C
  over : End C
  never : End C

-- what comes after a phase that completes
abbrev pub after_phase : {C : Type 0} → PhaseStop C → (ℕ → ℕ → Tabled C → PhaseStop C) → PhaseStop C
after_phase (complete left done T) next = next left done T
after_phase (unlimited T c) next = unlimited T c
after_phase (wide_at p k s) next = wide_at p k s
after_phase spent next = spent

-- a pivot, which may be refused at a spot, and what comes after it
abbrev pub on_spot : {C : Type 0} → (phase done : ℕ) → (Tabled C → PhaseStop C) → Tabled C → Option PivotWide →
    PhaseStop C
on_spot phase done next T (Some s) = wide_at phase (suc done) s
on_spot phase done next T None = next T

-- a turn by its choice
abbrev pub on_choice : {C : Type 0} → (phase left done : ℕ) → Tabled C → (ℕ → ℕ → PhaseStop C) → Choice → PhaseStop C
on_choice phase left done T pivot stays = complete left done T
on_choice phase left done T pivot (rises c) = unlimited T c
on_choice phase left done T pivot (due r c) = pivot r c
on_choice phase left done T pivot (refused s) = wide_at phase (suc done) s

-- the choice with the entering column c, by the row whose ratio is too wide and by the row that leaves
abbrev pub chosen_at : (c : ℕ) → Option ℕ → Option ℕ → Choice
chosen_at c (Some i) r = refused (record { row = i; column = c; step = Ratio })
chosen_at c None None = rises c
chosen_at c None (Some r) = due r c

-- the end of a run that comes to phase 3
abbrev pub third_end : {C : Type 0} → PhaseStop C → End C
third_end (complete left done T) = optimal T
third_end (unlimited T c) = ray T c
third_end (wide_at p k s) = wide p k s
third_end spent = over

module _ (F : Ordered) (S : Shape) where
  -- the least column before the artificial ones with a cell that isn't 0 in row i
  abbrev pub driven_column : Tabled F.C → ℕ → Option ℕ
  driven_column T i = least (plain S) (λ j. not (is_nought (F.sign (T.cell i j))))

module _ (F : Ordered) (S : Shape) (is_too_wide : Op → F.C → F.C → Bool) where
  -- the choice of a turn, by its entering column
  abbrev pub chosen_in : Tabled F.C → Option ℕ → Choice
  chosen_in T None = stays
  chosen_in T (Some c) = chosen_at c (ratio_row F S is_too_wide T c) (leaving F S T c)

  -- the choice of a turn among the columns below `among`
  abbrev pub choose : Tabled F.C → ℕ → Choice
  choose T among = chosen_in T (entering F S T among)

  -- a phase: turn after turn until no column below `among` enters
  abbrev pub turns : (phase among left done : ℕ) → Tabled F.C → PhaseStop F.C
  turns phase among zero done T = on_choice phase zero done T (λ r c. spent) (choose T among)
  turns phase among (suc left) done T = on_choice phase (suc left) done T
      (λ r c. on_spot phase done (turns phase among left (suc done)) (pivoted_at F S T r c)
      (pivot_spot F is_too_wide S T r c))
      (choose T among)

  -- phase 2 at a row whose basic column is artificial
  abbrev pub drive_at : (left done : ℕ) → Tabled F.C → ℕ → Option ℕ → PhaseStop F.C
  drive_at left done T i None = complete left done T
  drive_at zero done T i (Some c) = spent
  drive_at (suc left) done T i (Some c) = on_spot 2 done (complete left (suc done)) (pivoted_at F S T i c)
      (pivot_spot F is_too_wide S T i c)

  -- phase 2 at row i
  abbrev pub drive_row : (left done : ℕ) → Tabled F.C → ℕ → PhaseStop F.C
  drive_row left done T i = cond (leb (plain S) (T.basic i)) (drive_at left done T i (driven_column F S T i))
      (complete left done T)

  -- phase 2 at the rows below n
  abbrev pub drives : ℕ → (left done : ℕ) → Tabled F.C → PhaseStop F.C
  drives zero left done T = complete left done T
  drives (suc n) left done T = after_phase (drives n left done T) (λ l d U. drive_row l d U n)

  -- phases 2 and 3, from the end of phase 1
  abbrev pub raise : (left done : ℕ) → Tabled F.C → PhaseStop F.C
  raise left done T = after_phase (drives S.rows left done (clear_objective F S T))
      (λ l d U. turns 3 (plain S) l d (set_factor_objective F S U))

  -- a run past phase 1, by the number of factor columns
  abbrev pub past_first : (left done : ℕ) → Tabled F.C → ℕ → End F.C
  past_first left done T zero = feasible T
  past_first left done T (suc n) = third_end (raise left done T)

  -- the end of a run by its phase 1, where no column is unlimited
  abbrev pub first_end : PhaseStop F.C → End F.C
  first_end (complete left done T) = cond (is_negative_sign (F.sign (right F S T S.rows))) (infeasible T)
      (past_first left done T S.factors)
  first_end (unlimited T c) = never
  first_end (wide_at p k s) = wide p k s
  first_end spent = over

  -- the written run of a table with a budget of pivots
  abbrev pub written_run : (budget : ℕ) → Tabled F.C → End F.C
  written_run budget T = first_end (turns 1 S.contacts budget 0 T)
