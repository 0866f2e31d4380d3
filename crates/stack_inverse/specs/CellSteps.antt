-- What is said of a row step cell by cell: the reduced cell, or the written step that is too wide for 128 bits.
use Rattle.std.specs.Prelude.{◌≡◌, ◌≢◌, ℕ, ◌<◌, ℤ, ⊤, Option, Some, None, Result, Ok, Err}
use Rattle.stack_algebra.specs.Fraction.{Fraction}
use Rattle.stack_algebra.proofs.OrderedFractions.{ordered_fractions}
use Rattle.stack_rational.specs.Laws.{widest}
use Rattle.stack_rational.specs.TooWide.{is_too_wide}
use Rattle.stack_table.specs.declared.types.Step.{Step}
use Rattle.stack_table.specs.declared.types.PivotWide.{PivotWide}
use Rattle.stack_table.specs.Spots.{reduced, reduce_item, reduce_spot}
use Rattle.stack_table.specs.declared.types.TurnRefusal.{TurnRefusal}
use Rattle.stack_table.specs.declared.types.TurnRefusal.TheVariants.{TooWide, Unsettled}

-- the place of a step
abbrev pub spot_at : (row column : ℕ) → Option Step → Option PivotWide
spot_at i j None = None
spot_at i j (Some s) = Some (record { row = i; column = j; step = s })

-- the cell x minus k times the pivot row's cell y, if nothing is too wide there; or the step that is
abbrev pub TellsCell : Result Fraction Step → (x y k : Fraction) → Type 0
TellsCell (Ok z) x y k = (z ≡ reduced ordered_fractions (λ _. x) (λ _. y) k 0)
    × ((i j : ℕ) → reduce_item ordered_fractions (is_too_wide widest) (λ _. x) (λ _. y) k i j ≡ None)
TellsCell (Err s) x y k = (i j : ℕ) →
    reduce_item ordered_fractions (is_too_wide widest) (λ _. x) (λ _. y) k i j ≡ spot_at i j (Some s)

-- the step alone
abbrev pub TellsStep : Option Step → (x y k : Fraction) → Type 0
TellsStep o x y k = (i j : ℕ) →
    reduce_item ordered_fractions (is_too_wide widest) (λ _. x) (λ _. y) k i j ≡ spot_at i j o

-- what a refusal says of the first place that is too wide
abbrev pub TellsSpot : TurnRefusal → Option PivotWide → Type 0
TellsSpot (TooWide p) spot = spot ≡ Some p
TellsSpot Unsettled spot = ⊤

-- what a refusal of a row says of the first place that is too wide, if the rows before it but row r were reduced by
-- the row g without one
pub record RefusesAt (m : ℤ) (width : ℕ) (old : ℕ → ℕ → Fraction) (g : ℕ → Fraction) (r c k : ℕ) (e : TurnRefusal)
    : Type 0 where
  pub apart : k ≢ r
  pub before : (i : ℕ) → i < k → i ≢ r → reduce_spot ordered_fractions (is_too_wide m) width (old i) g (old i c) i
      ≡ None
  pub here : TellsSpot e (reduce_spot ordered_fractions (is_too_wide m) width (old k) g (old k c) k)

abbrev pub PivotIsRefused : (m : ℤ) → (height width : ℕ) → (old : ℕ → ℕ → Fraction) → (g : ℕ → Fraction) → (r c : ℕ) →
    TurnRefusal → Type 0
PivotIsRefused m height width old g r c e = (k : ℕ) × (k < height) × RefusesAt m width old g r c k e
