-- The lines of a certificate's text, by cases: a form, `forces SCALE FACTOR`, `push A B`, `motion`, `move U V
-- R`, `end`, each with one line feed at its end, and one space between words and numbers.
use Rattle.std.specs.Prelude.{◌≡◌, ℕ, ℤ, List, [], ◌∷◌, ◌++◌, codes, Bool, not, ◌==◌, ⊤}
use Rattle.std.specs.List.{list_all}
use Rattle.std.specs.Fmt.{signed_decimal}
use Rattle.stack_certificate.specs.declared.line.CertificateForm.{CertificateForm}
use Rattle.stack_certificate.specs.declared.line.CertificateForm.TheVariants.{Stands, Collapses, Greatest, Unbounded}
use Rattle.stack_certificate.specs.declared.line.Line.{Line}
use Rattle.stack_certificate.specs.declared.line.Line.TheVariants as lines
use Rattle.stack_whole.specs.Whole.{IsFitting}

-- the byte doesn't stand among these
abbrev pub lacks : ℕ → List ℕ → Bool
lacks byte bytes = list_all (λ b. not (b == byte)) bytes

-- Two numbers with one space between them.
abbrev pub two_text : ℤ → ℤ → List ℕ
two_text a b = signed_decimal a ++ 32 ∷ signed_decimal b

-- three numbers with one space between each two
abbrev pub three_text : ℤ → ℤ → ℤ → List ℕ
three_text a b c = signed_decimal a ++ 32 ∷ two_text b c

-- the bytes are two numbers that aren't too wide, with one space between them
abbrev pub IsTwo : ℤ → ℤ → List ℕ → Type 0
IsTwo a b bytes = IsFitting a × IsFitting b × (bytes ≡ two_text a b)

-- the bytes are three numbers that aren't too wide, with one space between each two
abbrev pub IsThreeNumbers : ℤ → ℤ → ℤ → List ℕ → Type 0
IsThreeNumbers a b c bytes = IsFitting a × IsFitting b × IsFitting c × (bytes ≡ three_text a b c)

-- The word of a form.
abbrev pub form_text : CertificateForm → List ℕ
form_text Stands = codes "stands"
form_text Collapses = codes "collapses"
form_text Greatest = codes "greatest"
form_text Unbounded = codes "unbounded"

-- A line without its line feed.
abbrev pub body_text : Line → List ℕ
body_text (lines.Form form) = form_text form
body_text (lines.Forces scale factor) = codes "forces " ++ two_text scale factor
body_text (lines.Push a b) = codes "push " ++ two_text a b
body_text lines.Motion = codes "motion"
body_text (lines.Move u v r) = codes "move " ++ three_text u v r
body_text lines.End = codes "end"

-- the line with its line feed
abbrev pub line_text : Line → List ℕ
line_text line = body_text line ++ 10 ∷ []

-- The numbers of a line are at most 2^127 - 1 in size.
abbrev pub LineFits : Line → Type 0
LineFits (lines.Form form) = ⊤
LineFits (lines.Forces scale factor) = IsFitting scale × IsFitting factor
LineFits (lines.Push a b) = IsFitting a × IsFitting b
LineFits lines.Motion = ⊤
LineFits (lines.Move u v r) = IsFitting u × IsFitting v × IsFitting r
LineFits lines.End = ⊤

-- The bytes are the line without its line feed, and no number is too wide.
abbrev pub IsBody : Line → List ℕ → Type 0
IsBody line bytes = LineFits line × (bytes ≡ body_text line)

-- the bytes are the line with its line feed, and no number is too wide
abbrev pub IsLine : Line → List ℕ → Type 0
IsLine line bytes = LineFits line × (bytes ≡ line_text line)
