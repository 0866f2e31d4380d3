-- Five and six words, by their places.
use Rattle.std.proofs.Common.{◌≡◌, ℕ, ◌<◌, ◌≤◌, List, [], ◌∷◌, length, get_or, map, String, string_bytes, arith}
use Rattle.std.specs.declared.alloc.Global.{Global}
use Rattle.stack_cli.specs.Words.{texts}

-- The word stands at this place.
abbrev IsAt : List (String Global) → ℕ → String Global → Type 0
IsAt words k word = word ≡ get_or words k word

-- Five words are what stands at their places.
pub five_words : (words : List (String Global)) (a b c d e : String Global) → 5 ≤ length words → length words < 6
    → IsAt words 0 a → IsAt words 1 b → IsAt words 2 c → IsAt words 3 d → IsAt words 4 e
    → map string_bytes (a ∷ b ∷ c ∷ d ∷ e ∷ []) ≡ texts words
five_words (_ ∷ _ ∷ _ ∷ _ ∷ _ ∷ []) a b c d e least most p q r s t =
    λ i. map string_bytes (p i ∷ q i ∷ r i ∷ s i ∷ t i ∷ [])
five_words _ a b c d e least most p q r s t = absurd (omega arith)

-- And so are six.
pub six_words : (words : List (String Global)) (a b c d e f : String Global) → 6 ≤ length words → length words < 7
    → IsAt words 0 a → IsAt words 1 b → IsAt words 2 c → IsAt words 3 d → IsAt words 4 e → IsAt words 5 f
    → map string_bytes (a ∷ b ∷ c ∷ d ∷ e ∷ f ∷ []) ≡ texts words
six_words (_ ∷ _ ∷ _ ∷ _ ∷ _ ∷ _ ∷ []) a b c d e f least most p q r s t u =
    λ i. map string_bytes (p i ∷ q i ∷ r i ∷ s i ∷ t i ∷ u i ∷ [])
six_words _ a b c d e f least most p q r s t u = absurd (omega arith)
