-- What a choice says of its table, and that a phase keeps what each due pivot keeps.
use Rattle.std.proofs.Common.{◌≡◌, ◌≢◌, refl, ℕ, zero, suc, ◌<◌, Bool, false, Option, Some, None}
use Rattle.stack_rational.proofs.Common.{Ordered, plus, least-some, quotient, least-none}
use Rattle.stack_algebra.proofs.Search.{IsLeast}
use Rattle.stack_rational.specs.declared.exact.Op.{Op}
use Rattle.stack_table.specs.declared.types.PivotWide.{PivotWide}
use Rattle.stack_table.specs.Table.{Shape, Tabled, right, objective, pivoted_at}
use Rattle.stack_table.specs.Spots.{pivot_spot}
use Rattle.stack_bland.specs.Choice.{is_negative_sign, entering, leaving, ratio_row}
use Rattle.stack_run.specs.WrittenRun.{Choice, stays, rises, due, refused, PhaseStop, complete, unlimited, wide_at}
use Rattle.stack_run.specs.WrittenRun.{spent, on_spot, on_choice, chosen_at, chosen_in, choose, turns}
use Rattle.stack_run.specs.LeavingRow.{IsBest}
use Rattle.stack_run.proofs.BestRow.{best-none, best-some}

module _ (F : Ordered) (S : Shape) where
  -- column c enters, and row r leaves for it
  pub record Due (T : Tabled F.C) (among r c : ℕ) : Type 0 where
    pub enters : IsLeast among (λ j. is_negative_sign (F.sign (objective F S T j))) c
    pub leaves : IsBest F (λ i. T.cell i c) (λ i. quotient F (right F S T i) (T.cell i c)) T.basic S.rows r

  pub record Unlimited (T : Tabled F.C) (among c : ℕ) : Type 0 where
    pub enters : IsLeast among (λ j. is_negative_sign (F.sign (objective F S T j))) c
    pub no_row : (i : ℕ) → i < S.rows → F.sign (T.cell i c) ≢ plus

  -- what a choice says of its table
  abbrev pub Chosen : Tabled F.C → ℕ → Choice → Type 0
  Chosen T among stays = (j : ℕ) → j < among → is_negative_sign (F.sign (objective F S T j)) ≡ false
  Chosen T among (rises c) = Unlimited T among c
  Chosen T among (due r c) = Due T among r c
  Chosen T among (refused s) = Unit {0}

  -- how a phase stops on tables with P
  abbrev pub Stopped : (Tabled F.C → Type 0) → ℕ → PhaseStop F.C → Type 0
  Stopped P among (complete left done T) = P T × Chosen T among stays
  Stopped P among (unlimited T c) = P T × Chosen T among (rises c)
  Stopped P among (wide_at p k s) = Unit {0}
  Stopped P among spent = Unit {0}

module _ (F : Ordered) (S : Shape) (is_too_wide : Op → F.C → F.C → Bool) where
  -- what a choice says of its table, by its column and then by the ratio that is too wide and the leaving row
  says_at : (T : Tabled F.C) (among c : ℕ) → IsLeast among (λ j. is_negative_sign (F.sign (objective F S T j))) c →
      (x y : Option ℕ) → leaving F S T c ≡ y → Chosen F S T among (chosen_at c x y)
  says_at T among c h (Some i) y e = tt
  says_at T among c h None None e = record {
    enters = h;
    no_row = best-none F (λ i. T.cell i c) (λ i. quotient F (right F S T i) (T.cell i c)) T.basic S.rows e;
  }
  says_at T among c h None (Some r) e = record {
    enters = h;
    leaves = best-some F (λ i. T.cell i c) (λ i. quotient F (right F S T i) (T.cell i c)) T.basic S.rows r e;
  }

  says_in : (T : Tabled F.C) (among : ℕ) (o : Option ℕ) → entering F S T among ≡ o →
      Chosen F S T among (chosen_in F S is_too_wide T o)
  says_in T among None e = least-none among (λ j. is_negative_sign (F.sign (objective F S T j))) e
  says_in T among (Some c) e = says_at T among c
      (least-some among (λ j. is_negative_sign (F.sign (objective F S T j))) c e)
      (ratio_row F S is_too_wide T c) (leaving F S T c) refl

  -- what the choice of a turn says
  pub chosen : (T : Tabled F.C) (among : ℕ) → Chosen F S T among (choose F S is_too_wide T among)
  chosen T among = says_in T among (entering F S T among) refl

  -- what each due pivot keeps, a phase keeps
  module _ (P : Tabled F.C → Type 0) (phase among : ℕ) (step : (T : Tabled F.C) (r c : ℕ) → P T →
      Due F S T among r c → P (pivoted_at F S T r c)) where
    -- what due pivots keep holds of the table at which the phase stops
    pub turns_keep : (left done : ℕ) (T : Tabled F.C) → P T →
        Stopped F S P among (turns F S is_too_wide phase among left done T)
    turns_keep zero done T p = go (choose F S is_too_wide T among) (chosen T among)
      where
        go : (x : Choice) → Chosen F S T among x →
            Stopped F S P among (on_choice phase zero done T (λ r c. spent) x)
        go stays h = (p, h)
        go (rises c) h = (p, h)
        go (due r c) h = tt
        go (refused s) h = tt
    turns_keep (suc left) done T p = go (choose F S is_too_wide T among) (chosen T among)
        (λ U. turns_keep left (suc done) U)
      where
        at_spot : (r c : ℕ) (o : Option PivotWide) → Due F S T among r c →
            ((U : Tabled F.C) → P U → Stopped F S P among (turns F S is_too_wide phase among left (suc done) U)) →
            Stopped F S P among (on_spot phase done (turns F S is_too_wide phase among left (suc done))
            (pivoted_at F S T r c) o)
        at_spot r c (Some s) h k = tt
        at_spot r c None h k = k (pivoted_at F S T r c) (step T r c p h)

        go : (x : Choice) → Chosen F S T among x →
            ((U : Tabled F.C) → P U → Stopped F S P among (turns F S is_too_wide phase among left (suc done) U)) →
            Stopped F S P among (on_choice phase (suc left) done T
            (λ r c. on_spot phase done (turns F S is_too_wide phase among left (suc done)) (pivoted_at F S T r c)
            (pivot_spot F is_too_wide S T r c)) x)
        go stays h k = (p, h)
        go (rises c) h k = (p, h)
        go (due r c) h k = at_spot r c (pivot_spot F is_too_wide S T r c) h k
        go (refused s) h k = tt
