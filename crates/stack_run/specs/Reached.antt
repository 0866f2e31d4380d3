-- The tables that the written run reaches in each of its phases, with the pivots done up to them.
use Rattle.std.specs.Prelude.{◌≡◌, ◌≢◌, ℕ, zero, suc, ◌+◌, ◌-◌, ◌<◌, ◌≤◌, Bool, Option, Some, None, ⊤}
use Rattle.stack_algebra.specs.Ordered.{Ordered, minus}
use Rattle.stack_rational.specs.declared.exact.Op.{Op}
use Rattle.stack_table.specs.declared.types.PivotWide.{PivotWide}
use Rattle.stack_table.specs.Table.{Shape, Tabled, plain, right, pivoted_at, clear_objective, set_factor_objective}
use Rattle.stack_table.specs.Spots.{pivot_spot}
use Rattle.stack_run.specs.WrittenRun.{Choice, stays, rises, due, refused, PhaseStop, complete, End, infeasible}
use Rattle.stack_run.specs.WrittenRun.{feasible, optimal, ray, wide, over, never, after_phase, choose, turns, drive_row}
use Rattle.stack_run.specs.WrittenRun.{drives, third_end, first_end, written_run}

-- the three phases: amounts that balance are sought, artificial columns leave, the factor rises
pub data Phase : Type 0 where
  phase_1 : Phase
  phase_2 : Phase
  phase_3 : Phase

-- what follows a table, if there is one
abbrev pub then_on : {C : Type 0} → Option (Tabled C) → (Tabled C → Option (Tabled C)) → Option (Tabled C)
then_on None f = None
then_on (Some T) f = f T

-- a table, unless a spot is too wide
abbrev pub unrefused : {C : Type 0} → Tabled C → Option PivotWide → Option (Tabled C)
unrefused T None = Some T
unrefused T (Some s) = None

-- a pivot of phase 2 in a row: an artificial column leaves, one that isn't artificial enters
pub record TakesArtificialOut {C : Type 0} (S : Shape) (row : ℕ) (T U : Tabled C) : Type 0 where
  pub leaves : plain S ≤ T.basic row
  pub enters : U.basic row < plain S
  pub others : (i : ℕ) → i ≢ row → U.basic i ≡ T.basic i

module _ (F : Ordered) (S : Shape) (is_too_wide : Op → F.C → F.C → Bool) where
  -- the table after a turn, where a pivot is due and nothing of it is too wide
  abbrev pub turned_by : Tabled F.C → Choice → Option (Tabled F.C)
  turned_by T stays = None
  turned_by T (rises c) = None
  turned_by T (due r c) = unrefused (pivoted_at F S T r c) (pivot_spot F is_too_wide S T r c)
  turned_by T (refused s) = None

  -- the table after k turns from T
  abbrev pub after_turns : (among : ℕ) → Tabled F.C → ℕ → Option (Tabled F.C)
  after_turns among T zero = Some T
  after_turns among T (suc k) = then_on (after_turns among T k)
      (λ U. turned_by U (choose F S is_too_wide U among))

  -- from the first table T a run with a budget comes to phase 2 with V: phase 1 completes, its objective's right
  -- side isn't negative, and there is a factor
  pub record ComesToSecond (budget : ℕ) (T : Tabled F.C) (left done : ℕ) (V : Tabled F.C) : Type 0 where
    pub completes : turns F S is_too_wide 1 S.contacts budget 0 T ≡ complete left done V
    pub not_below : F.sign (right F S V S.rows) ≢ minus
    pub factor : 0 < S.factors

  module _ (budget : ℕ) (T : Tabled F.C) where
    -- the run reaches U in phase 1
    pub record ReachesInFirst (done : ℕ) (U : Tabled F.C) : Type 0 where
      pub within : done ≤ budget
      pub there : after_turns S.contacts T done ≡ Some U

    -- the run reaches U in phase 2, with its rows below `row` done
    pub record ReachesInSecond (row done : ℕ) (U : Tabled F.C) : Type 0 where
      pub left_before : ℕ
      pub done_before : ℕ
      pub last : Tabled F.C
      pub comes : ComesToSecond budget T left_before done_before last
      pub row_within : row ≤ S.rows
      pub left : ℕ
      pub there : drives F S is_too_wide row left_before done_before (clear_objective F S last) ≡ complete left done U

    -- the run reaches U in phase 3
    pub record ReachesInThird (done : ℕ) (U : Tabled F.C) : Type 0 where
      pub left_before : ℕ
      pub done_before : ℕ
      pub last : Tabled F.C
      pub second : ReachesInSecond S.rows done_before last
      pub before : second.left ≡ left_before
      pub turns_done : ℕ
      pub within : turns_done ≤ left_before
      pub total : done ≡ done_before + turns_done
      pub there : after_turns (plain S) (set_factor_objective F S last) turns_done ≡ Some U

    -- the run reaches U in phase 2, after some row
    pub record ReachesInSomeRow (done : ℕ) (U : Tabled F.C) : Type 0 where
      pub row : ℕ
      pub reaches : ReachesInSecond row done U

    -- what each of the three phases reaches
    abbrev pub ReachesIn : Phase → ℕ → Tabled F.C → Type 0
    ReachesIn phase_1 done U = ReachesInFirst done U
    ReachesIn phase_2 done U = ReachesInSomeRow done U
    ReachesIn phase_3 done U = ReachesInThird done U

  -- what is left of phase 2: k rows from `row` on
  abbrev pub drives_from : (k row left done : ℕ) → Tabled F.C → PhaseStop F.C
  drives_from zero row left done U = complete left done U
  drives_from (suc k) row left done U = after_phase (drives_from k row left done U)
      (λ l d V. drive_row F S is_too_wide l d V (row + k))

  -- what the run makes of a table that it reaches
  abbrev pub third_from : (left done : ℕ) → Tabled F.C → End F.C
  third_from left done U = third_end (turns F S is_too_wide 3 (plain S) left done U)

  -- from a table of phase 2 with its rows below `row` done: the other rows, and then phase 3
  abbrev pub second_from : (row left done : ℕ) → Tabled F.C → End F.C
  second_from row left done U = third_end (after_phase (drives_from (S.rows - row) row left done U)
      (λ l d V. turns F S is_too_wide 3 (plain S) l d (set_factor_objective F S V)))

  -- from a table of phase 1: the turns that are left of it, and what follows
  abbrev pub first_from : (left done : ℕ) → Tabled F.C → End F.C
  first_from left done U = first_end F S is_too_wide (turns F S is_too_wide 1 S.contacts left done U)

  -- the run goes on from each table that it reaches
  pub record GoesOn (budget : ℕ) (T : Tabled F.C) : Type 0 where
    pub from_first : (d : ℕ) (U : Tabled F.C) → ReachesInFirst budget T d U →
        written_run F S is_too_wide budget T ≡ first_from (budget - d) d U
    pub from_second : (row d : ℕ) (U : Tabled F.C) → (s : ReachesInSecond budget T row d U) →
        written_run F S is_too_wide budget T ≡ second_from row s.left d U
    pub from_third : (d : ℕ) (U : Tabled F.C) → (s : ReachesInThird budget T d U) →
        written_run F S is_too_wide budget T ≡ third_from (s.left_before - s.turns_done) d U

-- P holds with some number of pivots done
pub record SomeDone (P : ℕ → Type 0) : Type 0 where
  pub done : ℕ
  pub holds : P done

module _ (F : Ordered) (S : Shape) (is_too_wide : Op → F.C → F.C → Bool) (budget : ℕ) (T : Tabled F.C) where
  -- the last table of an end is one that the run reaches
  abbrev pub LastReached : End F.C → Type 0
  LastReached (infeasible U) = SomeDone (λ d. ReachesInFirst F S is_too_wide budget T d U)
  LastReached (feasible U) = SomeDone (λ d. ReachesInFirst F S is_too_wide budget T d U)
  LastReached (optimal U) = SomeDone (λ d. ReachesInThird F S is_too_wide budget T d U)
  LastReached (ray U c) = SomeDone (λ d. ReachesInThird F S is_too_wide budget T d U)
  LastReached (wide p k s) = ⊤
  LastReached over = ⊤
  LastReached never = ⊤
