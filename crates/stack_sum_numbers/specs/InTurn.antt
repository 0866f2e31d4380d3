-- Whole numbers that are made in their order, as a list: all of them fit, or one is too wide. A result is made of
-- such a list where it has its value exactly if all fit, and is refused exactly if one is too wide.
use Rattle.std.specs.Prelude.{◌≡◌, ◌↔◌, ℕ, ℤ, List, [], ◌∷◌, ◌++◌, All, Any, flat_map, Result, Ok, Err, IsErr}
use Rattle.stack_algebra.specs.Listed.{listed}
use Rattle.stack_whole.specs.Whole.{IsFitting, IsTooWide}
use Rattle.stack_statics.specs.declared.wrench.Wrench.{Wrench}
use Rattle.stack_equilibrium.specs.declared.types.SumWide.{SumWide}
use Rattle.stack_equilibrium.specs.declared.types.Axis.{Axis}
use Rattle.stack_equilibrium.specs.declared.types.Axis.TheVariants.{X, Y, M}

-- each number is at most 2^127 - 1 in size
abbrev pub AllFit : List ℤ → Type 0
AllFit numbers = All IsFitting numbers

-- one number of the list is more than 2^127 - 1 in size
abbrev pub OneIsTooWide : List ℤ → Type 0
OneIsTooWide numbers = Any IsTooWide numbers

-- not all of them fit exactly if one is too wide
abbrev pub OneIsTooWideOrAllFit : Type 0
OneIsTooWideOrAllFit = (numbers : List ℤ) → OneIsTooWide numbers ↔ (¬ (AllFit numbers))

-- the first n lists, one after the other
abbrev pub lists_in_turn : ℕ → (ℕ → List ℤ) → List ℤ
lists_in_turn n lists = flat_map (λ numbers. numbers) (listed n lists)

-- the list ends in this number
abbrev pub EndsIn : List ℤ → ℤ → Type 0
EndsIn numbers last = (before : List ℤ) × (numbers ≡ before ++ last ∷ [])

-- a result has this value exactly if all numbers fit, and is refused exactly if one of them is too wide
pub record IsMadeOf {A E : Type 0} (numbers : List ℤ) (value : A) (result : Result A E) : Type 0 where
  pub made : (result ≡ Ok value) ↔ AllFit numbers
  pub refused : IsErr result ↔ OneIsTooWide numbers

-- of the numbers along x, along y and of moments, in this order, one along this axis is too wide and none before
abbrev pub IsFirstWide : (Axis → List ℤ) → Axis → Type 0
IsFirstWide numbers X = OneIsTooWide (numbers X)
IsFirstWide numbers Y = AllFit (numbers X) × OneIsTooWide (numbers Y)
IsFirstWide numbers M = AllFit (numbers X) × AllFit (numbers Y) × OneIsTooWide (numbers M)

-- three sums are these exactly if all numbers of all three fit, and are refused with an axis exactly if it is the first
-- one of whose numbers is too wide
pub record AreMadeOf (numbers : Axis → List ℤ) (sums : Wrench) (result : Result Wrench SumWide) : Type 0 where
  pub made : (result ≡ Ok sums) ↔ ((axis : Axis) → AllFit (numbers axis))
  pub refused : (axis : Axis) → (result ≡ Err (record { axis = axis })) ↔ IsFirstWide numbers axis
