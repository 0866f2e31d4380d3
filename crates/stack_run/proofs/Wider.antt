-- A run under a rule that finds less too wide is the same run, unless the stricter one is refused.
use Rattle.std.proofs.Common.{◌≡◌, refl, sym, ap, subst, ◌∙◌, ℕ, zero, suc, Bool, true, false, cond, leb, Option, Some}
use Rattle.std.proofs.Common.{None}
use Rattle.stack_rational.proofs.Common.{Ordered, first, or_else, only_if, ordered_fractions, is_too_wide}
use Rattle.stack_rational.specs.declared.exact.Op.{Op}
use Rattle.stack_rational.specs.declared.exact.Op.TheVariants.{Difference, Product, Quotient}
use Rattle.stack_rational.proofs.WiderAgrees.{wider_is_never_too_wide}
use Rattle.stack_table.specs.declared.types.PivotWide.{PivotWide}
use Rattle.stack_table.specs.declared.types.Step.{Step}
use Rattle.stack_table.specs.declared.types.Step.TheVariants.{Divide, Multiply, Subtract}
use Rattle.stack_table.specs.Table.{Shape, Tabled, plain, width, right, pivoted_at, clear_objective}
use Rattle.stack_table.specs.Table.{set_factor_objective}
use Rattle.stack_table.specs.Spots.{divided, spot_if, pivot_spot}
use Rattle.stack_table.specs.WrittenTable.{written_table}
use Rattle.stack_bland.specs.Choice.{is_negative_sign, is_plus, entering, leaving, ratio_row}
use Rattle.stack_run.specs.WrittenRun.{Choice, stays, rises, due, refused, PhaseStop, complete, unlimited, wide_at}
use Rattle.stack_run.specs.WrittenRun.{spent, End, infeasible, feasible, optimal, ray, wide, over, never, after_phase}
use Rattle.stack_run.specs.WrittenRun.{on_spot, on_choice, chosen_at, chosen_in, choose, turns, driven_column, drive_at}
use Rattle.stack_run.specs.WrittenRun.{drive_row, drives, third_end, past_first, first_end, written_run}
use Rattle.stack_run.specs.ProblemRun.{run_at, IsNowhereTooWide, WiderRunIsSame}

-- y is x, unless x is refused: for spots, choices, stops and ends
abbrev SameSpot : {P : Type 0} → Option P → Option P → Type 0
SameSpot (Some s) y = Unit {0}
SameSpot None y = y ≡ None

-- y is x, unless x is refused, for choices
abbrev SameChoice : Choice → Choice → Type 0
SameChoice (refused s) y = Unit {0}
SameChoice stays y = y ≡ stays
SameChoice (rises c) y = y ≡ rises c
SameChoice (due r c) y = y ≡ due r c

-- y is x, unless x is refused, for the stops of a phase
abbrev SameStop : {C : Type 0} → PhaseStop C → PhaseStop C → Type 0
SameStop (wide_at p k s) y = Unit {0}
SameStop (complete l d T) y = y ≡ complete l d T
SameStop (unlimited T c) y = y ≡ unlimited T c
SameStop spent y = y ≡ spent

-- y is x, unless x is refused, for ends
abbrev SameEnd : {C : Type 0} → End C → End C → Type 0
SameEnd (wide p k s) y = Unit {0}
SameEnd (infeasible T) y = y ≡ infeasible T
SameEnd (feasible T) y = y ≡ feasible T
SameEnd (optimal T) y = y ≡ optimal T
SameEnd (ray T c) y = y ≡ ray T c
SameEnd over y = y ≡ over
SameEnd never y = y ≡ never

-- the first of two items under both rules
or_else-same : {P : Type 0} (x x' y y' : Option P) → SameSpot x x' → SameSpot y y' →
    SameSpot (or_else x y) (or_else x' y')
or_else-same (Some s) x' y y' h k = tt
or_else-same None x' (Some s) y' h k = tt
or_else-same None x' None y' h k = ap (λ o. or_else o y') h ∙ k

-- the first item of a search under both rules
first-same : {P : Type 0} (n : ℕ) (f f' : ℕ → Option P) → ((i : ℕ) → SameSpot (f i) (f' i)) →
    SameSpot (first n f) (first n f')
first-same zero f f' h = refl
first-same (suc n) f f' h = or_else-same (first n f) (first n f') (f n) (f' n) (first-same n f f' h) (h n)

-- an item under a test
where_true : {P : Type 0} (b : Bool) (x x' : Option P) → SameSpot x x' →
    SameSpot (cond b x None) (cond b x' None)
where_true true x x' h = h
where_true false x x' h = refl

where_false : {P : Type 0} (b : Bool) (x x' : Option P) → SameSpot x x' →
    SameSpot (cond b None x) (cond b None x')
where_false true x x' h = refl
where_false false x x' h = h

only_if-same : {P : Type 0} (a b : Bool) (s : P) → (a ≡ false → b ≡ false) →
    SameSpot (only_if a s) (only_if b s)
only_if-same true b s h = tt
only_if-same false b s h = ap (λ b. only_if b s) (h refl)

module _ (F : Ordered) (S : Shape) (narrow broad : Op → F.C → F.C → Bool)
    (less_too_wide : (o : Op) (x y : F.C) → narrow o x y ≡ false → broad o x y ≡ false) where
  -- an operation's spot under both rules
  spot_if-same : (o : Op) (s : Step) (x y : F.C) (i j : ℕ) →
      SameSpot (spot_if F narrow o s x y i j) (spot_if F broad o s x y i j)
  spot_if-same o s x y i j = only_if-same (narrow o x y) (broad o x y) _ (less_too_wide o x y)

  -- the ratio that is too wide
  ratio_row-same : (T : Tabled F.C) (c : ℕ) → SameSpot (ratio_row F S narrow T c) (ratio_row F S broad T c)
  ratio_row-same T c = first-same S.rows _ _ (λ i. where_true (is_plus (F.sign (T.cell i c))) _ _
      (only_if-same _ _ i (less_too_wide Quotient (right F S T i) (T.cell i c))))

  -- the spot of a pivot
  pivot_spot-same : (T : Tabled F.C) (r c : ℕ) →
      SameSpot (pivot_spot F narrow S T r c) (pivot_spot F broad S T r c)
  pivot_spot-same T r c = or_else-same _ _ _ _
      (first-same (width S) _ _ (λ j. spot_if-same Quotient Divide (T.cell r j) (T.cell r c) r j))
      (first-same (suc S.rows) _ _ (λ i. where_false _ _ _ (first-same (width S) _ _ (λ j. at_cell i j))))
    where
      at_cell : (i j : ℕ) → SameSpot
          (or_else (spot_if F narrow Product Multiply (T.cell i c) (divided F (T.cell r) (T.cell r c) j) i j)
          (spot_if F narrow Difference Subtract (T.cell i j)
          (F.mul (T.cell i c) (divided F (T.cell r) (T.cell r c) j)) i j))
          (or_else (spot_if F broad Product Multiply (T.cell i c) (divided F (T.cell r) (T.cell r c) j) i j)
          (spot_if F broad Difference Subtract (T.cell i j)
          (F.mul (T.cell i c) (divided F (T.cell r) (T.cell r c) j)) i j))
      at_cell i j = or_else-same _ _ _ _
          (spot_if-same Product Multiply (T.cell i c) (divided F (T.cell r) (T.cell r c) j) i j)
          (spot_if-same Difference Subtract (T.cell i j)
          (F.mul (T.cell i c) (divided F (T.cell r) (T.cell r c) j)) i j)

  -- a choice by its ratio and its row under both rules
  chosen_at-same : (c : ℕ) (i i' r : Option ℕ) → SameSpot i i' →
      SameChoice (chosen_at c i r) (chosen_at c i' r)
  chosen_at-same c (Some i) i' r h = tt
  chosen_at-same c None i' None h = ap (λ i. chosen_at c i None) h
  chosen_at-same c None i' (Some r) h = ap (λ i. chosen_at c i (Some r)) h

  -- the choice of a turn under both rules
  choose-same : (T : Tabled F.C) (among : ℕ) → SameChoice (choose F S narrow T among) (choose F S broad T among)
  choose-same T among = go (entering F S T among)
    where
      go : (o : Option ℕ) → SameChoice (chosen_in F S narrow T o) (chosen_in F S broad T o)
      go None = refl
      go (Some c) = chosen_at-same c (ratio_row F S narrow T c) (ratio_row F S broad T c) (leaving F S T c)
          (ratio_row-same T c)

  -- stops that are the same
  by_equal : (x y z : PhaseStop F.C) → z ≡ y → SameStop x y → SameStop x z
  by_equal x y z e h = subst (λ z. SameStop x z) (sym e) h

  on_spot-same : (phase done : ℕ) (next next' : Tabled F.C → PhaseStop F.C) (T : Tabled F.C)
      (s s' : Option PivotWide) →
      SameSpot s s' → SameStop (next T) (next' T) →
      SameStop (on_spot phase done next T s) (on_spot phase done next' T s')
  on_spot-same phase done next next' T (Some s) s' h k = tt
  on_spot-same phase done next next' T None s' h k =
      by_equal _ (next' T) _ (ap (on_spot phase done next' T) h) k

  on_choice-same : (phase left done : ℕ) (T : Tabled F.C) (pivot pivot' : ℕ → ℕ → PhaseStop F.C) (x y : Choice) →
      SameChoice x y → ((r c : ℕ) → SameStop (pivot r c) (pivot' r c)) →
      SameStop (on_choice phase left done T pivot x) (on_choice phase left done T pivot' y)
  on_choice-same phase left done T pivot pivot' (refused s) y h k = tt
  on_choice-same phase left done T pivot pivot' stays y h k = ap (on_choice phase left done T pivot') h
  on_choice-same phase left done T pivot pivot' (rises c) y h k = ap (on_choice phase left done T pivot') h
  on_choice-same phase left done T pivot pivot' (due r c) y h k =
      by_equal _ (pivot' r c) _ (ap (on_choice phase left done T pivot') h) (k r c)

  -- a phase under both rules
  turns-same : (phase among left done : ℕ) (T : Tabled F.C) →
      SameStop (turns F S narrow phase among left done T) (turns F S broad phase among left done T)
  turns-same phase among zero done T =
      on_choice-same phase zero done T _ _ _ _ (choose-same T among) (λ r c. refl)
  turns-same phase among (suc left) done T =
      on_choice-same phase (suc left) done T _ _ _ _ (choose-same T among)
      (λ r c. on_spot-same phase done (turns F S narrow phase among left (suc done))
      (turns F S broad phase among left (suc done)) (pivoted_at F S T r c) _ _ (pivot_spot-same T r c)
      (turns-same phase among left (suc done) (pivoted_at F S T r c)))

  -- phase 2 at a row whose basic column is artificial, under both rules
  drive_at-same : (left done : ℕ) (T : Tabled F.C) (i : ℕ) (o : Option ℕ) →
      SameStop (drive_at F S narrow left done T i o) (drive_at F S broad left done T i o)
  drive_at-same left done T i None = refl
  drive_at-same zero done T i (Some c) = refl
  drive_at-same (suc left) done T i (Some c) = on_spot-same 2 done (complete left (suc done))
      (complete left (suc done))
      (pivoted_at F S T i c) _ _ (pivot_spot-same T i c) refl

  -- phase 2 at any row
  drive_row-same : (left done : ℕ) (T : Tabled F.C) (i : ℕ) →
      SameStop (drive_row F S narrow left done T i) (drive_row F S broad left done T i)
  drive_row-same left done T i = go (leb (plain S) (T.basic i))
    where
      go : (b : Bool) → SameStop
          (cond b (drive_at F S narrow left done T i (driven_column F S T i)) (complete left done T))
          (cond b (drive_at F S broad left done T i (driven_column F S T i)) (complete left done T))
      go true = drive_at-same left done T i (driven_column F S T i)
      go false = refl

  -- one phase after another, under both rules
  after-same : (x y : PhaseStop F.C) (next next' : ℕ → ℕ → Tabled F.C → PhaseStop F.C) → SameStop x y →
      ((l d : ℕ) (T : Tabled F.C) → SameStop (next l d T) (next' l d T)) →
      SameStop (after_phase x next) (after_phase y next')
  after-same (wide_at p k s) y next next' h g = tt
  after-same (complete l d T) y next next' h g = by_equal _ (next' l d T) _ (ap (λ z. after_phase z next') h) (g l d T)
  after-same (unlimited T c) y next next' h g = ap (λ z. after_phase z next') h
  after-same spent y next next' h g = ap (λ z. after_phase z next') h

  -- phase 2 at all rows
  drives-same : (n left done : ℕ) (T : Tabled F.C) →
      SameStop (drives F S narrow n left done T) (drives F S broad n left done T)
  drives-same zero left done T = refl
  drives-same (suc n) left done T =
      after-same _ _ _ _ (drives-same n left done T) (λ l d U. drive_row-same l d U n)

  -- the end of a run that comes to phase 3, under both rules
  third_end-same : (x y : PhaseStop F.C) → SameStop x y → SameEnd (third_end x) (third_end y)
  third_end-same (wide_at p k s) y h = tt
  third_end-same (complete l d T) y h = ap (third_end) h
  third_end-same (unlimited T c) y h = ap (third_end) h
  third_end-same spent y h = ap (third_end) h

  -- a run past phase 1 under both rules
  past_first-same : (left done : ℕ) (T : Tabled F.C) (k : ℕ) →
      SameEnd (past_first F S narrow left done T k) (past_first F S broad left done T k)
  past_first-same left done T zero = refl
  past_first-same left done T (suc k) = third_end-same _ _
      (after-same _ _ _ _ (drives-same S.rows left done (clear_objective F S T))
      (λ l d U. turns-same 3 (plain S) l d (set_factor_objective F S U)))

  -- a run by its phase 1 under both rules
  end_by_equal : (x y z : End F.C) → z ≡ y → SameEnd x y → SameEnd x z
  end_by_equal x y z e h = subst (λ z. SameEnd x z) (sym e) h

  first_end-same : (x y : PhaseStop F.C) → SameStop x y → SameEnd (first_end F S narrow x) (first_end F S broad y)
  first_end-same (wide_at p k s) y h = tt
  first_end-same (complete l d T) y h = end_by_equal _ (first_end F S broad (complete l d T)) _
      (ap (first_end F S broad) h) (go (is_negative_sign (F.sign (right F S T S.rows))))
    where
      go : (b : Bool) → SameEnd (cond b (infeasible T) (past_first F S narrow l d T S.factors))
          (cond b (infeasible T) (past_first F S broad l d T S.factors))
      go true = refl
      go false = past_first-same l d T S.factors
  first_end-same (unlimited T c) y h = ap (first_end F S broad) h
  first_end-same spent y h = ap (first_end F S broad) h

  -- the whole run under both rules
  pub written_run-same : (budget : ℕ) (T : Tabled F.C) →
      SameEnd (written_run F S narrow budget T) (written_run F S broad budget T)
  written_run-same budget T = first_end-same _ _ (turns-same 1 S.contacts budget 0 T)

-- where the stricter run isn't refused, the other one is the same
same_end : {C : Type 0} (x y : End C) → IsNowhereTooWide x → SameEnd x y → y ≡ x
same_end (wide p k s) y n h = absurd n
same_end (infeasible T) y n h = h
same_end (feasible T) y n h = h
same_end (optimal T) y n h = h
same_end (ray T c) y n h = h
same_end over y n h = h
same_end never y n h = h

-- a run at a greatest value and at a greater one
pub wider_run_is_same : WiderRunIsSame
wider_run_is_same m n P budget w h = same_end (run_at m P budget) (run_at n P budget) h
    (written_run-same ordered_fractions P.shape (is_too_wide m) (is_too_wide n)
    (λ o x y. wider_is_never_too_wide m n o x y w) budget (written_table ordered_fractions P))
