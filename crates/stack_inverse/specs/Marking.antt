-- What the marks of a table mean, and what becomes of them after a pivot.
use Rattle.std.specs.Prelude.{◌≡◌, ◌≢◌, ℕ, suc, ◌<◌, ◌≤◌, ◌/◌, Bool, true, false, List, length, ℤ, pos}
use Rattle.stack_rows.specs.RowForm.{number_at}
use Rattle.stack_inverse.specs.declared.first.First.{First}
use Rattle.stack_inverse.specs.declared.marking.Marking.{Marking}
use Rattle.stack_inverse.specs.Columns.{RowSeen, multipliers}
use Rattle.stack_inverse.specs.RowsSeen.{number_in_row}
use Rattle.stack_rows.specs.Marks.{mark_in}
use Rattle.stack_inverse.specs.Marks.{mark_at, ArePlaces, AreUses, AreClean}

-- the marks of rows and of the first rows
pub record AreMarks (f : First) (s : ℕ → RowSeen) (k : Marking) : Type 0 where
  pub places_long : length k.places.items ≡ multipliers f.rows
  pub touched_long : length k.to_visit.touched.words.items ≡ suc (suc f.rows / 64)
  pub open_long : length k.«open».words.items ≡ suc (length f.columns.items / 64)
  pub told : ArePlaces k.places.items f.rows s
  pub used : AreUses k.uses.items f.columns.items
  pub each_fits : k.to_visit.all_fit ≡ true → (i : ℕ) → i ≤ f.rows → (s i).fits ≡ true
  pub clean : AreClean (number_in_row f (s f.rows)) (length f.columns.items) k.«open».words.items

-- the marks after a pivot: the pivot's row is `row` now, and the rows in which its column had something were touched
pub record AreMarkedOn (row : List ℤ) (old new : Marking) : Type 0 where
  pub places_kept : (r i : ℕ) → mark_at new.places.items r i ≡ 0 → mark_at old.places.items r i ≡ 0
  pub joined : (r i : ℕ) → r < length old.places.items → number_at row r ≢ pos 0 →
      mark_at new.places.items r i ≡ 0 → mark_in old.to_visit.touched.words.items i ≡ 0
  pub marks_kept : (j : ℕ) → mark_in new.«open».words.items j ≡ 0 → mark_in old.«open».words.items j ≡ 0
  pub unused : (r j : ℕ) → r < length old.uses.items → number_at row r ≢ pos 0 →
      mark_in new.«open».words.items j ≡ 0 → mark_at old.uses.items r j ≡ 0

-- every bit is set, in each list of places and in the open columns
pub record AreFull (k : Marking) : Type 0 where
  pub each_place : (r i : ℕ) → r < length k.places.items → i / 64 < length k.to_visit.touched.words.items →
      mark_at k.places.items r i ≡ 1
  pub each_mark : (j : ℕ) → j / 64 < length k.«open».words.items → mark_in k.«open».words.items j ≡ 1

-- the marks after a pivot that was done, or wasn't
pub record IsMarkedOn (is_done : Bool) (row : List ℤ) (old new : Marking) : Type 0 where
  pub places_long : length new.places.items ≡ length old.places.items
  pub open_long : length new.«open».words.items ≡ length old.«open».words.items
  pub uses : new.uses.items ≡ old.uses.items
  pub to_visit : new.to_visit ≡ record old.to_visit { all_fit = is_done }
  pub done : is_done ≡ true → AreMarkedOn row old new
  pub full : is_done ≡ false → AreFull new
