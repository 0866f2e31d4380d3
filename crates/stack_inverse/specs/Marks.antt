-- Lists of marks: a place without a mark has nothing.
use Rattle.std.specs.Prelude.{◌≡◌, ◌≢◌, ℕ, ◌<◌, List, [], length, get_or, map, ℤ, pos, Option, false}
use Rattle.std.specs.List.{AllByRecursion}
use Rattle.stack_algebra.specs.Ordered.{sign_of}
use Rattle.stack_algebra.specs.Search.{least}
use Rattle.stack_bland.specs.Choice.{is_negative_sign}
use Rattle.stack_inverse.specs.declared.columns.FirstColumn.{FirstColumn}
use Rattle.stack_rows.specs.declared.marks.Marks.{Marks}
use Rattle.stack_rows.specs.Marks.{mark_in}
use Rattle.stack_inverse.specs.Columns.{RowSeen, multipliers, cells_at}
use Rattle.stack_rows.specs.RowForm.{number_at}

-- the words of list r, none past the last list
abbrev pub list_at : List Marks → ℕ → List ℕ
list_at lists r = get_or (map (λ (l : Marks). l.words.items) lists) r []

-- mark i of list r
abbrev pub mark_at : List Marks → (r i : ℕ) → ℕ
mark_at lists r i = mark_in (list_at lists r) i

-- each list has w words
abbrev pub HaveWords : List Marks → (w : ℕ) → Type 0
HaveWords lists w = (r : ℕ) → r < length lists → length (list_at lists r) ≡ w

-- each column is marked in the lists of its rows
abbrev pub AreUses : List Marks → List FirstColumn → Type 0
AreUses uses columns = (j : ℕ) → j < length columns →
    AllByRecursion (λ x. mark_at uses x.row j ≢ 0) (cells_at columns j)

-- a row is marked in the list of each of its multipliers that isn't 0
abbrev pub ArePlaces : List Marks → (rows : ℕ) → (ℕ → RowSeen) → Type 0
ArePlaces places rows s = (i r : ℕ) → i < rows → r < multipliers rows → mark_at places r i ≡ 0 →
    number_at (s i).numbers r ≡ pos 0

-- among n columns those without a mark have no negative number
abbrev pub AreClean : (ℕ → ℤ) → (n : ℕ) → (words : List ℕ) → Type 0
AreClean f n words = (j : ℕ) → j < n → mark_in words j ≡ 0 → is_negative_sign (sign_of (f j)) ≡ false

-- the least index below `among` at which a number is negative
abbrev pub least_negative : (ℕ → ℤ) → ℕ → Option ℕ
least_negative f among = least among (λ j. is_negative_sign (sign_of (f j)))
