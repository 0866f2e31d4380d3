-- What the answers of a table say, and when none is given.
use Rattle.std.specs.Prelude.{◌≡◌, ℕ, ℤ, ⊤, Bool, true, false, Option, Some, None, Result, Ok, Err}
use Rattle.stack_algebra.specs.Fraction.{Fraction}
use Rattle.stack_algebra.proofs.OrderedFractions.{ordered_fractions}
use Rattle.stack_rational.specs.declared.exact.OpWide.{OpWide}
use Rattle.stack_rational.specs.TooWide.{is_too_wide}
use Rattle.stack_table.specs.declared.types.PivotWide.{PivotWide}
use Rattle.stack_table.specs.declared.types.Step.TheVariants.{Ratio}
use Rattle.stack_table.specs.Table.{Shape, Tabled}
use Rattle.stack_bland.specs.Choice.{is_plus, ratio, ratio_item}
use Rattle.stack_bland.specs.declared.found.Found.{Found}
use Rattle.stack_bland.specs.declared.found.Found.TheVariants.{GaveUp, Nothing, This}
use Rattle.stack_table.specs.declared.types.TurnRefusal.{TurnRefusal}
use Rattle.stack_table.specs.declared.types.TurnRefusal.TheVariants.{TooWide, Unsettled}

-- nothing is answered only by a table that doesn't settle all
abbrev pub IsAnswered : {A : Type 0} → Bool → Option A → Type 0
IsAnswered settles None = settles ≡ false
IsAnswered settles (Some x) = ⊤

-- and a search isn't
abbrev pub IsSettled : {A : Type 0} → Bool → Found A → Type 0
IsSettled settles GaveUp = settles ≡ false
IsSettled settles Nothing = ⊤
IsSettled settles (This x) = ⊤

-- a row with a positive cell, its ratio, and that this isn't too wide
pub record IsRatio (max : ℤ) (S : Shape) (T : Tabled Fraction) (c i : ℕ) (x : Fraction) : Type 0 where
  pub positive : is_plus (ordered_fractions.sign (T.cell i c)) ≡ true
  pub value : x ≡ ratio ordered_fractions S T c i
  pub fits : ratio_item ordered_fractions S (is_too_wide max) T c i ≡ None

-- the ratio of a row, none where its cell isn't positive; refused exactly if it is too wide
abbrev pub TellsRatio : {R : Type 0} → (R → Fraction) → ℤ → Shape → Tabled Fraction → (c i : ℕ) →
    Result (Option R) OpWide → Type 0
TellsRatio value max S T c i (Ok None) = is_plus (ordered_fractions.sign (T.cell i c)) ≡ false
TellsRatio value max S T c i (Ok (Some r)) = IsRatio max S T c i (value r)
TellsRatio value max S T c i (Err e) = ratio_item ordered_fractions S (is_too_wide max) T c i ≡ Some i

-- what a refusal says of the first place that is too wide
abbrev pub TellsTurnRefusal : Bool → TurnRefusal → Option PivotWide → Type 0
TellsTurnRefusal settles (TooWide p) spot = spot ≡ Some p
TellsTurnRefusal settles Unsettled spot = settles ≡ false

-- why a row isn't taken among those that may leave: its ratio is too wide, or nothing is told
abbrev pub TellsNoRatio : Bool → TurnRefusal → (c i : ℕ) → Option ℕ → Type 0
TellsNoRatio settles (TooWide p) c i item = (item ≡ Some i) × (p ≡ record { row = i; column = c; step = Ratio })
TellsNoRatio settles Unsettled c i item = settles ≡ false

-- what the answer of a pivot says of it
abbrev pub TellsPivoted : {A : Type 0} → Bool → Result A TurnRefusal → Option PivotWide → Type 0
TellsPivoted settles (Ok x) spot = spot ≡ None
TellsPivoted settles (Err e) spot = TellsTurnRefusal settles e spot
