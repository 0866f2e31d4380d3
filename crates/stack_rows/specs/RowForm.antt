-- A row as whole numbers over one positive denominator, which needn't be the least.
use Rattle.std.specs.Prelude.{◌≡◌, ◌≢◌, ℕ, suc, ◌+◌, ◌-◌, ◌*◌, ◌/◌, ◌^◌, ◌<◌, ◌≤◌, Bool, List, get_or, length}
use Rattle.std.specs.Prelude.{if◌then◌else◌}
use Rattle.std.specs.Prelude.{ℤ, pos, ◌*ℤ◌, ◌-ℤ◌, ◌<ℤ◌, unsigned_abs}
use Rattle.stack_rows.specs.Marks.{mark_in}

-- number k of a row, 0 past its end
abbrev pub number_at : List ℤ → ℕ → ℤ
number_at xs k = get_or xs k (pos 0)

-- no number of a row but its last one, the right side, is greater in size than its top
abbrev pub IsTopped : List ℤ → ℕ → Type 0
IsTopped xs top = (j : ℕ) → suc j < length xs → unsigned_abs (number_at xs j) ≤ top

-- no number of a list is greater in size than a top
abbrev pub AreWithinTop : List ℤ → ℕ → Type 0
AreWithinTop xs top = (j : ℕ) → unsigned_abs (number_at xs j) ≤ top

-- no number from one place on and before another is greater in size than a top
abbrev pub IsPartTopped : (from end : ℕ) → List ℤ → ℕ → Type 0
IsPartTopped from end xs top = (j : ℕ) → from ≤ j → j < end → unsigned_abs (number_at xs j) ≤ top

-- the sizes of a number and of one of another row are of 64 bits
pub record AreWords (n o : ℕ) : Type 0 where
  pub own : n ≤ 2 ^ 63 - 1
  pub other : o ≤ 2 ^ 63 - 1

-- and so are both terms of a row step together
pub record AreSmall (k t : ℤ) (n o : ℕ) : Type 0 where
  pub words : AreWords n o
  pub sum : n * unsigned_abs k + unsigned_abs t * o ≤ 2 ^ 63 - 1

-- what a row step makes of numbers of these sizes fits 128 bits
pub record AreFit (k t : ℤ) (n o : ℕ) : Type 0 where
  pub sum : n * unsigned_abs k + unsigned_abs t * o ≤ 2 ^ 127 - 1

-- the steps of the numbers of a row before a place are small
abbrev pub AreSmallBelow : (end : ℕ) → (k t : ℤ) → (own other : List ℤ) → Type 0
AreSmallBelow end k t own other = (j : ℕ) → j < end →
    AreSmall k t (unsigned_abs (number_at own j)) (unsigned_abs (number_at other j))

-- only the numbers from one place on and before another are written: P holds of each of these
pub record IsWrittenPart (P : ℕ → ℤ → Type 0) (old : ℕ → ℤ) (from end : ℕ) (new : ℕ → ℤ) : Type 0 where
  pub part : (j : ℕ) → from ≤ j → j < end → P j (new j)
  pub before : (j : ℕ) → j < from → new j ≡ old j
  pub after : (j : ℕ) → end ≤ j → new j ≡ old j

-- a row step at one place: k times a number minus t times that of the pivot row, divided
abbrev pub IsQuotient : (by k t old pivot new : ℤ) → Type 0
IsQuotient by k t old pivot new = new *ℤ by ≡ old *ℤ k -ℤ t *ℤ pivot

-- a row step at each place
abbrev pub IsDivided : (old pivot : List ℤ) → (k t by : ℤ) → (new : List ℤ) → Type 0
IsDivided old pivot k t by new = (j : ℕ) →
    IsQuotient by k t (number_at old j) (number_at pivot j) (number_at new j)

-- a row step from one place on and before another
abbrev pub IsDividedPart : (old pivot : List ℤ) → (k t by : ℤ) → (from end : ℕ) → (new : List ℤ) → Type 0
IsDividedPart old pivot k t by from end new = IsWrittenPart (λ j z.
    IsQuotient by k t (number_at old j) (number_at pivot j) z) (number_at old) from end (number_at new)

-- a step goes on from a place, over another divisor: what is before was made over the first one, and is brought over
pub record IsDividedOn (old pivot : List ℤ) (k t first by : ℤ) (from end : ℕ) (new : List ℤ) : Type 0 where
  pub before : (j : ℕ) → j < from → number_at new j *ℤ by ≡ number_at old j *ℤ first
  pub part : (j : ℕ) → from ≤ j → j < end → IsQuotient by k t (number_at old j) (number_at pivot j) (number_at new j)
  pub after : (j : ℕ) → end ≤ j → number_at new j ≡ number_at old j

-- the first numbers are multiplied
abbrev pub IsMultiplied : (old : List ℤ) → (by : ℤ) → (end : ℕ) → (new : List ℤ) → Type 0
IsMultiplied old by end new = IsWrittenPart (λ j z. z ≡ number_at old j *ℤ by) (number_at old) 0 end (number_at new)

-- a place of a row without a mark has nothing, and no mark stands past its end
pub record AreMarked (row : List ℤ) (marks : List ℕ) : Type 0 where
  pub nothing : (j : ℕ) → mark_in marks j ≡ 0 → number_at row j ≡ pos 0
  pub within : (j : ℕ) → length row ≤ j → mark_in marks j ≡ 0

-- the numbers of a row beside those of another one as wide, with marks of both
pub record AreBeside (numbers pivot : List ℤ) (marks : List ℕ) : Type 0 where
  pub width : length pivot ≡ length numbers
  pub few : length numbers < 2 ^ 16
  pub long : length marks ≡ suc (length numbers / 64)
  pub own : AreMarked numbers marks
  pub other : AreMarked pivot marks

-- a step from one place on and before another, at places with a mark alone. No number that it makes is greater in size
-- than `size`, which is at least a first one
pub record IsStepped (old pivot : List ℤ) (marks : List ℕ) (k t by : ℤ) (from first end : ℕ) (new : List ℤ)
    (size : ℕ) : Type 0 where
  pub begun : from ≤ end
  pub written : IsDividedPart old pivot k t by from end new
  pub topped : IsPartTopped from end new size
  pub larger : first ≤ size
  pub kept : (j : ℕ) → mark_in marks j ≡ 0 → number_at new j ≡ number_at old j

-- the first places of a list, which rise: a place of the row that isn't among them has nothing
pub record AreListed (row : List ℤ) (list : List ℕ) (count : ℕ) : Type 0 where
  pub room : count ≤ length list
  pub rising : (a b : ℕ) → a < b → b < count → get_or list a 0 < get_or list b 0
  pub within : (a : ℕ) → a < count → get_or list a 0 < length row
  pub others : (j : ℕ) → ((a : ℕ) → a < count → get_or list a 0 ≢ j) → number_at row j ≡ pos 0

-- the numbers of a row without its right side, which are kept in one of two lists
abbrev pub entries_in : (wide : Bool) → (numbers words : List ℤ) → List ℤ
entries_in wide numbers words = if wide then numbers else words

-- the same row over another denominator
pub record IsSameRow (old : List ℤ) (d : ℤ) (new : List ℤ) (e : ℤ) : Type 0 where
  pub positive : pos 0 <ℤ e
  pub cross : (j : ℕ) → number_at new j *ℤ d ≡ number_at old j *ℤ e

-- a row step: the row times k minus t times the pivot row, over w, is the new row over another denominator
pub record IsTaken (old : List ℤ) (w : ℤ) (pivot : List ℤ) (k t : ℤ) (new : List ℤ) (after : ℤ) : Type 0 where
  pub positive : pos 0 <ℤ after
  pub number : (r : ℕ) → number_at new r *ℤ w
      ≡ (number_at old r *ℤ k -ℤ t *ℤ number_at pivot r) *ℤ after

-- each number is k times itself minus t times that of the pivot row, over w, as a number over another denominator
abbrev pub IsRemade : (old : List ℤ) → (w : ℤ) → (pivot : List ℤ) → (k t : ℤ) → (new : List ℤ) → (after : ℤ) → Type 0
IsRemade old w pivot k t new after = (r : ℕ) → number_at new r *ℤ w
    ≡ (number_at old r *ℤ k -ℤ t *ℤ number_at pivot r) *ℤ after

-- what such a step makes of the right side is n over e
abbrev pub IsRight : (old : List ℤ) → (w : ℤ) → (pivot : List ℤ) → (k t n e : ℤ) → Type 0
IsRight old w pivot k t n e = n *ℤ w
    ≡ (number_at old (length old - 1) *ℤ k -ℤ t *ℤ number_at pivot (length old - 1)) *ℤ e

-- numbers over d are brought over another denominator, and a right side is put with them: n over e
pub record IsPutOver (old : List ℤ) (d n e : ℤ) (new : List ℤ) (side after : ℤ) : Type 0 where
  pub more : ℤ
  pub part : ℤ
  pub positive : pos 0 <ℤ after
  pub under : after ≡ d *ℤ more
  pub whole : part *ℤ e ≡ after
  pub before : (j : ℕ) → number_at new j ≡ number_at old j *ℤ more
  pub right : side ≡ part *ℤ n

-- what a row step over d makes of numbers of at most b, and of at most p in the pivot row, isn't too wide for m, nor
-- is its denominator before it is reduced
pub record StepFits (m d k t : ℤ) (b p : ℕ) : Type 0 where
  pub fits : b * unsigned_abs k + unsigned_abs t * p ≤ unsigned_abs m
  pub small : unsigned_abs (d *ℤ k) ≤ unsigned_abs m
