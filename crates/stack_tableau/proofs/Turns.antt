-- What a choice says of its row, and what the answer of a turn says of the phase.
use Rattle.std.proofs.Common.{◌≡◌, ◌≢◌, sym, ap, subst, ◌∙◌, ℕ, zero, suc, ◌<◌, Bool, Option, Some, None, Ok}
use Rattle.std.proofs.Common.{Err, arith, ℤ, pos}
use Rattle.stack_rational.proofs.Common.{Fraction, sign_of, least-some, first, first_found, ordered_fractions}
use Rattle.stack_rational.proofs.Common.{is_too_wide}
use Rattle.stack_table.specs.declared.types.PivotWide.{PivotWide}
use Rattle.stack_table.specs.Table.{Shape, Tabled, pivoted_at}
use Rattle.stack_table.specs.Spots.{pivot_spot}
use Rattle.stack_bland.specs.Choice.{is_negative_sign, ratio, ratio_item, ratio_row, entering, leaving}
use Rattle.stack_run.specs.WrittenRun.{Choice, due, refused, PhaseStop, wide_at, spent, on_spot, on_choice, chosen_at}
use Rattle.stack_run.specs.WrittenRun.{chosen_in, choose, turns}
use Rattle.stack_run.specs.declared.pivots.Pivots.{Pivots}
use Rattle.stack_run.specs.PhaseStops.{spot_of, IsPivoted, phase_from, stop_of}
use Rattle.stack_run.specs.declared.stops.PhaseEnd.{PhaseEnd}
use Rattle.stack_run.specs.declared.stops.Turn.{Turn}
use Rattle.stack_run.specs.declared.stops.Turn.TheVariants.{Stops, GoesOn}
use Rattle.stack_run.proofs.BestRow.{best-some}
use Rattle.stack_table.specs.declared.types.TurnRefusal.{TurnRefusal}
use Rattle.stack_table.specs.declared.types.TurnRefusal.TheVariants as refusals
use Rattle.stack_tableau.specs.declared.stops.RunStop.{RunStop}
use Rattle.stack_tableau.specs.declared.stops.RunStop.TheVariants.{TooWide, Spent, Unsettled}
use Rattle.stack_tableau.specs.Answers.{TellsNoRatio}
use Rattle.stack_tableau.specs.Tells.{TellsRefused, TellsRow, row_chosen, TellsPivot, TellsStop, TellsTurn}

-- the first ratio that is too wide refuses the choice
pub row_refused : (settles : Bool) (max : ℤ) (S : Shape) (T : Tabled Fraction) (c i : ℕ) (e : TurnRefusal)
    (o : Option ℕ) → i < S.rows → first i (ratio_item ordered_fractions S (is_too_wide max) T c) ≡ None →
    TellsNoRatio settles e c i (ratio_item ordered_fractions S (is_too_wide max) T c i) →
    TellsRefused settles e (chosen_at c (ratio_row ordered_fractions S (is_too_wide max) T c) o)
row_refused settles max S T c i (refusals.TooWide p) o l n h = ap refused h.1
    ∙ ap (λ x. chosen_at c x o) (sym (first_found S.rows i (ratio_item ordered_fractions S (is_too_wide max) T c) i l n
    h.0))
row_refused settles max S T c i refusals.Unsettled o l n h = h

module _ (S : Shape) (T : Tabled Fraction) (c r : ℕ) (e : Some r ≡ leaving ordered_fractions S T c) where
  -- the leaving row is a row, and its cell isn't 0
  pub leaving_below : r < S.rows
  leaving_below =
      (best-some ordered_fractions (λ i. T.cell i c) (ratio ordered_fractions S T c) T.basic S.rows r (sym e)).below

  pub leaving_nonzero : (T.cell r c).num ≢ pos 0
  leaving_nonzero z =
      let b = best-some ordered_fractions (λ i. T.cell i c) (ratio ordered_fractions S T c) T.basic S.rows r
      (sym e) in
      let s = sym b.positive ∙ ap sign_of z in cc

-- the entering column is one of those asked for
pub entering_below : (S : Shape) (T : Tabled Fraction) (among c : ℕ) →
    Some c ≡ entering ordered_fractions S T among → c < among
entering_below S T among c e =
    (least-some among (λ j. is_negative_sign (ordered_fractions.sign (T.cell S.rows j))) c (sym e)).below

-- one column enters, where the cells of it are made in a table with the same content
pub one_enters : (max : ℤ) {S S' : Shape} {T T' : Tabled Fraction} (among : ℕ) → S' ≡ S → T' ≡ T →
    (settles : Bool) (c : ℕ) {o p : Option ℕ} → o ≡ p → Some c ≡ entering ordered_fractions S T among →
    TellsRow settles c (Ok o) (chosen_at c (ratio_row ordered_fractions S' (is_too_wide max) T' c)
    (leaving ordered_fractions S' T' c)) →
    TellsRow settles c (Ok p) (choose ordered_fractions S (is_too_wide max) T among)
one_enters max {S = S} {T = T} among p q settles c k e h = ap (row_chosen c) (sym k) ∙ h
    ∙ (λ z. chosen_at c (ratio_row ordered_fractions (p z) (is_too_wide max) (q z) c)
    (leaving ordered_fractions (p z) (q z) c))
    ∙ ap (chosen_in ordered_fractions S (is_too_wide max) T) e

-- a turn
module _ (settles : Bool) (max : ℤ) (S : Shape) (phase among : ℕ) (T : Tabled Fraction) where
  -- what is done after a pivot
  abbrev after : (left done : ℕ) → ℕ → ℕ → PhaseStop Fraction
  after left done r c =
      on_spot phase done (turns ordered_fractions S (is_too_wide max) phase among left (suc done))
      (pivoted_at ordered_fractions S T r c) (pivot_spot ordered_fractions (is_too_wide max) S T r c)

  abbrev is_chosen : Choice → Type 0
  is_chosen x = x ≡ choose ordered_fractions S (is_too_wide max) T among

  abbrev from_here : (left done : ℕ) → PhaseStop Fraction
  from_here left done = turns ordered_fractions S (is_too_wide max) phase among left done T

  -- a pivot is due
  module _ (r c : ℕ) (e : is_chosen (due r c)) where
    spent_at : (left done : ℕ) → left ≡ 0 → spent ≡ from_here left done
    spent_at zero done z = ap (on_choice phase zero done T (λ r c. spent)) e
    spent_at (suc left) done z = absurd (omega arith)

    by_spot : (left done : ℕ) (o : Option PivotWide) → pivot_spot ordered_fractions (is_too_wide max) S T r c ≡ o →
        on_spot phase done (turns ordered_fractions S (is_too_wide max) phase among left (suc done))
        (pivoted_at ordered_fractions S T r c) o ≡ from_here (suc left) done
    by_spot left done o h = ap (on_spot phase done (turns ordered_fractions S (is_too_wide max) phase among left
        (suc done)) (pivoted_at ordered_fractions S T r c)) (sym h)
        ∙ ap (on_choice phase (suc left) done T (after left done)) e

    wide_here : (left done : ℕ) (s : PivotWide) → 0 < left →
        pivot_spot ordered_fractions (is_too_wide max) S T r c ≡ Some s →
        wide_at phase (suc done) s ≡ from_here left done
    wide_here zero done s l h = absurd (omega arith)
    wide_here (suc left) done s l h = by_spot left done (Some s) h

    -- the pivot isn't done
    pub pivot_stops : (k : Pivots) (x : RunStop) →
        TellsPivot settles (Err x) phase k (pivot_spot ordered_fractions (is_too_wide max) S T r c) →
        TellsStop settles x (from_here k.left k.done)
    pivot_stops k (TooWide p) h = (λ i. wide_at (h.in_phase i) (h.next_pivot i) (spot_of p))
        ∙ wide_here k.left k.done (spot_of p) h.some_left h.first
    pivot_stops k Spent h = spent_at k.left k.done h
    pivot_stops k Unsettled h = h

    -- the pivot is done
    pub goes_on : (k l : Pivots) (U : Tabled Fraction) →
        IsPivoted k l (pivot_spot ordered_fractions (is_too_wide max) S T r c) →
        U ≡ pivoted_at ordered_fractions S T r c →
        phase_from max S phase among l U ≡ phase_from max S phase among k T
    goes_on k l U h u =
        (λ z. turns ordered_fractions S (is_too_wide max) phase among l.left (h.done z) (u z))
        ∙ by_spot l.left k.done None h.is_nowhere_too_wide
        ∙ ap (λ n. turns ordered_fractions S (is_too_wide max) phase among n k.done T) (sym h.left)

-- a turn of the loop, whose table has the shape of the first
module _ (settles : Bool) (max : ℤ) {S S' : Shape} (phase among : ℕ) (l : Pivots) (T : Tabled Fraction)
    {X : PhaseStop Fraction} (same : S' ≡ S) (so_far : phase_from max S phase among l T ≡ X) where
  carried : phase_from max S' phase among l T ≡ X
  carried = ap (λ (S : Shape). phase_from max S phase among l T) same ∙ so_far

  -- a refusal tells the phase
  pub loop_stops : (e : RunStop) → TellsStop settles e (phase_from max S' phase among l T) → TellsStop settles e X
  loop_stops e h = subst (TellsStop settles e) carried h

  module _ (U : Tabled Fraction) {x : Turn}
      (h : TellsTurn settles max S' phase among U (Ok x) (phase_from max S' phase among l T)) where
    told : {y : Turn} → x ≡ y → TellsTurn settles max S' phase among U (Ok y) (phase_from max S' phase among l T)
    told e = subst (λ (x : Turn). TellsTurn settles max S' phase among U (Ok x) (phase_from max S' phase among l T)) e h

    -- and so does its end
    pub loop_tells : (e : PhaseEnd) → x ≡ Stops e → stop_of U e ≡ X
    loop_tells e p = told p ∙ carried

    -- and each turn what is left of it
    pub loop_goes_on : (k : Pivots) → x ≡ GoesOn k → phase_from max S phase among k U ≡ X
    loop_goes_on k p = ap (λ (S : Shape). phase_from max S phase among k U) (sym same) ∙ told p ∙ carried
