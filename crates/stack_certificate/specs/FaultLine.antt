-- The faulty line of bytes that are the text of no certificate.
use Rattle.std.specs.Prelude.{◌≡◌, ℕ, ◌+◌, ◌<◌, List, [], ◌∷◌, ◌++◌, length, take, ◌==◌, if◌then◌else◌, ◌⊎◌}
use Rattle.stack_certificate.specs.Certificate.{CertificateValue}
use Rattle.stack_certificate.specs.CertificateText.{IsCertificateText}

-- A byte in front of the first of some lines; it is a line by itself where there are none.
abbrev pub onto_first : ℕ → List (List ℕ) → List (List ℕ)
onto_first b [] = (b ∷ []) ∷ []
onto_first b (line ∷ more) = (b ∷ line) ∷ more

-- The lines of some bytes, each with its line feed; a rest without one that isn't empty is a line too.
unfoldable pub cut : List ℕ → List (List ℕ)
cut [] = []
cut (b ∷ bs) = if b == 10 then (10 ∷ []) ∷ cut bs else onto_first b (cut bs)

-- Some certificate's text starts with these lines.
pub record Begins (front : List (List ℕ)) : Type 0 where
  pub certificate : CertificateValue
  pub text : List ℕ
  pub is : IsCertificateText certificate text
  pub rest : List (List ℕ)
  pub starts : cut text ≡ front ++ rest

-- The bytes are the text of no certificate, and n is the least number, from 1, such that their first n lines
-- begin no certificate's text; where all their lines begin one, it is the number of the missing next line.
pub record IsFaultLine (n : ℕ) (bytes : List ℕ) : Type 0 where
  pub none : (c : CertificateValue) → ¬ IsCertificateText c bytes
  pub before : (k : ℕ) → k < n → Begins (take k (cut bytes))
  pub here : (¬ Begins (take n (cut bytes))) ⊎ (n ≡ length (cut bytes) + 1)
