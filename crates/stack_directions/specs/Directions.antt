-- A text of directions: 1 to 64 lines `dir M N` with whole numbers from -1,000 to 1,000, not both 0, or its first
-- faulty line.
use Rattle.std.specs.Prelude.{◌≡◌, ℕ, suc, ◌+◌, ◌<◌, ◌≤◌, ◌⊎◌, ℤ, pos, negsuc, Bool, not, ◌&&◌, List, [], ◌∷◌, ◌++◌}
use Rattle.std.specs.Prelude.{length, codes, map, nat_lt, if◌then◌else◌, Option, Some, None, Result, Ok, Err}
use Rattle.std.specs.Prelude.{slice_get}
use Rattle.std.specs.Ordering.{int_eq}
use Rattle.std.specs.List.{All}
use Rattle.std.specs.Str.{bytes_eq}
use Rattle.stack_model.specs.Limits.{is_between}
use Rattle.stack_certificate.specs.Numbers.{value_of}
use Rattle.stack_certificate.specs.Lines.{two_text}
use Rattle.stack_certificate.specs.LineOf.{before, behind}
use Rattle.stack_certificate.specs.FaultLine.{cut}
use Rattle.stack_pairs.specs.Directed.{AreFactors}

-- how many directions there may be
abbrev pub most_directions : ℕ
most_directions = 64

-- two factors within the limits that aren't both 0
pub record IsDirection (m n : ℤ) : Type 0 where
  pub limits : AreFactors m n
  pub some : ¬ ((m ≡ pos 0) × (n ≡ pos 0))

-- whether two factors are a direction
abbrev pub is_direction : ℤ → ℤ → Bool
is_direction m n = is_between (negsuc 999) (pos 1000) m && is_between (negsuc 999) (pos 1000) n
    && not (int_eq m (pos 0) && int_eq n (pos 0))

-- the line of a direction without its line feed
abbrev pub direction_body : ℤ × ℤ → List ℕ
direction_body d = codes "dir " ++ two_text d.0 d.1

-- the line of a direction with its line feed
abbrev pub direction_text : ℤ × ℤ → List ℕ
direction_text d = direction_body d ++ 10 ∷ []

-- the bytes are the line of this direction without its line feed
abbrev pub IsDirectionBody : ℤ × ℤ → List ℕ → Type 0
IsDirectionBody d bytes = IsDirection d.0 d.1 × (bytes ≡ direction_body d)

-- the bytes are the line of this direction with its line feed
abbrev pub IsDirectionLine : ℤ × ℤ → List ℕ → Type 0
IsDirectionLine d bytes = IsDirection d.0 d.1 × (bytes ≡ direction_text d)

-- the only direction whose line the bytes can be
abbrev pub likely_direction : List ℕ → ℤ × ℤ
likely_direction bytes = let numbers = behind 32 (before 10 bytes) in
    (value_of (before 32 numbers), value_of (behind 32 numbers))

-- the direction whose line the bytes are, if they are one
unfoldable pub direction_of : List ℕ → Option (ℤ × ℤ)
direction_of bytes = let d = likely_direction bytes in
    if is_direction d.0 d.1 && bytes_eq bytes (direction_text d) then Some d else None

-- a direction in front of the further ones; line number k if it is none
abbrev pub with_direction : ℕ → Option (ℤ × ℤ) → Result (List (ℤ × ℤ)) ℕ → Result (List (ℤ × ℤ)) ℕ
with_direction k None more = Err k
with_direction k (Some d) (Ok ds) = Ok (d ∷ ds)
with_direction k (Some d) (Err n) = Err n

-- the directions of lines that are numbered from k on, or the number of the first that is faulty; a 65th line is
abbrev pub directions_from : ℕ → List (List ℕ) → Result (List (ℤ × ℤ)) ℕ
directions_from k [] = Ok []
directions_from k (line ∷ more) = if nat_lt most_directions k then Err k
    else with_direction k (direction_of line) (directions_from (suc k) more)

-- the directions of all lines of a text; a text without a line is faulty at line 1
abbrev pub directions_of_lines : List (List ℕ) → Result (List (ℤ × ℤ)) ℕ
directions_of_lines [] = Err 1
directions_of_lines (line ∷ more) = directions_from 1 (line ∷ more)

-- the directions of a text, or the number of its first faulty line, from 1
unfoldable pub directions_of : List ℕ → Result (List (ℤ × ℤ)) ℕ
directions_of text = directions_of_lines (cut text)

-- the text is the lines of these directions, 1 to 64
pub record AreDirections (ds : List (ℤ × ℤ)) (text : List ℕ) : Type 0 where
  pub lines : cut text ≡ map direction_text ds
  pub each : All (λ d. IsDirection d.0 d.1) ds
  pub some : 1 ≤ length ds
  pub few : length ds ≤ most_directions

-- line k, from 0, is that of a direction
pub record IsGood (lines : List (List ℕ)) (k : ℕ) : Type 0 where
  pub direction : ℤ × ℤ
  pub bytes : List ℕ
  pub at : slice_get lines k ≡ Some bytes
  pub is : IsDirectionLine direction bytes

-- number n is the first of these lines, numbered from `first` on, that is no direction or comes behind 64
pub record IsFaultyFrom (first n : ℕ) (lines : List (List ℕ)) : Type 0 where
  pub before : (k : ℕ) → first + k < n → IsGood lines k
  pub place : ℕ
  pub number : first + place ≡ n
  pub bytes : List ℕ
  pub at : slice_get lines place ≡ Some bytes
  pub here : (n ≡ most_directions + 1) ⊎ ((d : ℤ × ℤ) → ¬ IsDirectionLine d bytes)

-- number n is the first faulty line of a text; if it has no lines that is line 1
abbrev pub IsFaulty : (n : ℕ) → List (List ℕ) → Type 0
IsFaulty n lines = ((lines ≡ []) × (n ≡ 1)) ⊎ IsFaultyFrom 1 n lines
