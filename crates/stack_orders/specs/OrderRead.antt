-- The order of building that a text gives: each line is the name of a free block and a line feed, each block once.
use Rattle.std.specs.Prelude.{◌≡◌, ℕ, suc, ◌<◌, nat_eq, Bool, false, not, ◌&&◌, List, [], ◌∷◌, ◌++◌, length, map}
use Rattle.std.specs.Prelude.{slice_get, Option, Some, None, Result, Ok, Err, position, if◌then◌else◌, ⊤}
use Rattle.std.specs.Str.{bytes_eq}
use Rattle.std.specs.List.{list_any}
use Rattle.stack_model.specs.Structure.{NamedBody, Structure, body_of}
use Rattle.stack_certificate.specs.FaultLine.{cut}
use Rattle.stack_orders.specs.declared.errors.OrderError.{OrderError}
use Rattle.stack_orders.specs.declared.errors.OrderError.TheVariants.{Line, Memory}
use Rattle.stack_orders.specs.Order.{IsOrder}

-- the line of a block: its name with a line feed
abbrev pub block_line : NamedBody → List ℕ
block_line b = b.name ++ 10 ∷ []

-- whether this is the line of a body that is free
abbrev pub is_free_line : List ℕ → NamedBody → Bool
is_free_line line b = not b.fixed && bytes_eq line (block_line b)

-- the number of the free block whose line this is
abbrev pub block_named : Structure → List ℕ → Option ℕ
block_named s line = position (is_free_line line) s.bodies

-- a number, if it isn't one of these already
abbrev pub unless_among : List ℕ → Option ℕ → Option ℕ
unless_among ns None = None
unless_among ns (Some n) = if list_any (λ m. nat_eq m n) ns then None else Some n

-- the number of the next block of an order
abbrev pub next_block : Structure → List ℕ → List ℕ → Option ℕ
next_block s ns line = unless_among ns (block_named s line)

-- one more block, or the number of the line that names none
abbrev pub with_next : (List ℕ → Result (List ℕ) ℕ) → List ℕ → Option ℕ → Result (List ℕ) ℕ
with_next more ns None = Err (suc (length ns))
with_next more ns (Some n) = more (ns ++ n ∷ [])

-- the order that these lines give behind these blocks
abbrev pub order_over : Structure → List ℕ → List (List ℕ) → Result (List ℕ) ℕ
order_over s ns [] = Ok ns
order_over s ns (line ∷ more) = with_next (λ ms. order_over s ms more) ns (next_block s ns line)

-- the order that a text gives, or the number of its first faulty line, from 1
abbrev pub told_order : Structure → List ℕ → Result (List ℕ) ℕ
told_order s text = order_over s [] (cut text)

-- the lines of these blocks
abbrev pub order_lines : Structure → List ℕ → List (List ℕ)
order_lines s ns = map (λ n. block_line (body_of s n)) ns

-- these lines before it give an order, and this line is no free block's, or that of an earlier one
pub record IsFaultyLine (s : Structure) (number : ℕ) (lines : List (List ℕ)) : Type 0 where
  pub before : List ℕ
  pub are_order : IsOrder s before
  pub line : List ℕ
  pub rest : List (List ℕ)
  pub are : lines ≡ order_lines s before ++ line ∷ rest
  pub is_number : number ≡ suc (length before)
  pub fault : (n : ℕ) → n < length s.bodies → (body_of s n).fixed ≡ false → line ≡ block_line (body_of s n)
      → (k : ℕ) × (slice_get before k ≡ Some n)

-- the lines are those of the blocks of an order, or this one is the first faulty one
abbrev pub AreRead : Structure → Result (List ℕ) ℕ → List (List ℕ) → Type 0
AreRead s (Ok ns) lines = IsOrder s ns × (lines ≡ order_lines s ns)
AreRead s (Err number) lines = IsFaultyLine s number lines

-- what is answered, without where it lies in memory. `Memory` may come at any time
abbrev pub ReadsOrder : Structure → Result (List ℕ) OrderError → List ℕ → Type 0
ReadsOrder s (Ok ns) text = (told_order s text ≡ Ok ns) × AreRead s (Ok ns) (cut text)
ReadsOrder s (Err (Line number)) text = (told_order s text ≡ Err number) × AreRead s (Err number) (cut text)
ReadsOrder s (Err Memory) text = ⊤
