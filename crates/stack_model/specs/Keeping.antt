-- The items of a list that are kept, and the numbers that they have among the kept ones.
use Rattle.std.specs.Prelude.{◌≡◌, ℕ, zero, suc, ◌<◌, Bool, false, List, [], ◌∷◌, length, get_or, if◌then◌else◌}

-- the tail is kept by the flags, shifted by one
abbrev pub later : (ℕ → Bool) → ℕ → Bool
later keeps i = keeps (suc i)

-- the items whose numbers, from 0, are kept, in their order
abbrev pub kept : {A : Type 0} → (ℕ → Bool) → List A → List A
kept keeps [] = []
kept keeps (x ∷ xs) = if keeps 0 then x ∷ kept (later keeps) xs else kept (later keeps) xs

-- how many of the numbers below i are kept: where i is kept itself, this is its number among the kept ones
abbrev pub kept_before : (ℕ → Bool) → ℕ → ℕ
kept_before keeps zero = 0
kept_before keeps (suc i) = if keeps 0 then suc (kept_before (later keeps) i) else kept_before (later keeps) i

-- the items that a test keeps, each changed, in their order
abbrev pub picked : {A : Type 0} → (A → Bool) → (A → A) → List A → List A
picked keeps changed [] = []
picked keeps changed (x ∷ xs) =
    if keeps x then changed x ∷ picked keeps changed xs else picked keeps changed xs

-- what a list says of number i; past its end it says no
abbrev pub flag_at : List Bool → ℕ → Bool
flag_at flags i = get_or flags i false

-- of each of the first n numbers the list says whether it is kept
pub record AreFlags (n : ℕ) (keeps : ℕ → Bool) (flags : List Bool) : Type 0 where
  pub count : length flags ≡ n
  pub each : (i : ℕ) → i < n → flag_at flags i ≡ keeps i
