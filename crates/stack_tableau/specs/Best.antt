-- The best row so far, as the search for the leaving row holds it.
use Rattle.std.specs.Prelude.{◌≡◌, ℕ, suc, ◌<◌, Option, Some, None}
use Rattle.stack_algebra.specs.Fraction.{Fraction}
use Rattle.stack_algebra.proofs.OrderedFractions.{ordered_fractions}
use Rattle.stack_bland.specs.Choice.{best}
use Rattle.stack_tableau.specs.declared.choices.LeavingRow.{LeavingRow}

-- over the rows below n: the best row, with its ratio
abbrev pub HoldsBest : {R : Type 0} → (R → Fraction) → (ratios : ℕ → Fraction) → ℕ → Option (LeavingRow R) → Option ℕ →
    Type 0
HoldsBest value ratios n None o = o ≡ None
HoldsBest value ratios n (Some b) o = (o ≡ Some b.row) × (value b.ratio ≡ ratios b.row) × (b.row < n)

-- what held over the rows below i holds with row i too
abbrev pub HoldsNext : {R : Type 0} → (R → Fraction) → (cell ratios : ℕ → Fraction) → (basic : ℕ → ℕ) → ℕ →
    (before after : Option (LeavingRow R)) → Type 0
HoldsNext value cell ratios basic i before after =
    HoldsBest value ratios i before (best ordered_fractions cell ratios basic i) →
    HoldsBest value ratios (suc i) after (best ordered_fractions cell ratios basic (suc i))
