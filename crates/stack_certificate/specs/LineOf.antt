-- The line that some bytes are, as a function of the bytes.
use Rattle.std.specs.Prelude.{ℕ, ℤ, List, [], ◌∷◌, codes, Bool, true, ◌==◌, ◌&&◌, if◌then◌else◌, Option, Some, None}
use Rattle.std.specs.Str.{bytes_eq}
use Rattle.stack_certificate.specs.declared.line.CertificateForm.TheVariants.{Stands, Collapses, Greatest, Unbounded}
use Rattle.stack_certificate.specs.declared.line.Line.{Line}
use Rattle.stack_certificate.specs.declared.line.Line.TheVariants as lines
use Rattle.stack_whole.specs.Whole.{fits}
use Rattle.stack_certificate.specs.Numbers.{value_of}
use Rattle.stack_certificate.specs.Lines.{line_text}

-- Whether the numbers of a line are at most 2^127 - 1 in size.
abbrev pub line_fits : Line → Bool
line_fits (lines.Form form) = true
line_fits (lines.Forces scale factor) = fits scale && fits factor
line_fits (lines.Push a b) = fits a && fits b
line_fits lines.Motion = true
line_fits (lines.Move u v r) = fits u && fits v && fits r
line_fits lines.End = true

-- The bytes before the first such byte, and those behind it.
abbrev pub before : ℕ → List ℕ → List ℕ
before byte [] = []
before byte (b ∷ bs) = if b == byte then [] else b ∷ before byte bs

-- the bytes behind the first such byte, and none where there is none
abbrev pub behind : ℕ → List ℕ → List ℕ
behind byte [] = []
behind byte (b ∷ bs) = if b == byte then bs else behind byte bs

-- The line of two numbers that stand behind its word.
abbrev pub two_to : (ℤ → ℤ → Line) → List ℕ → Line
two_to line bytes = line (value_of (before 32 bytes)) (value_of (behind 32 bytes))

-- the line of three numbers that stand behind its word
abbrev pub three_to : (ℤ → ℤ → ℤ → Line) → List ℕ → Line
three_to line bytes = two_to (line (value_of (before 32 bytes))) (behind 32 bytes)

-- the line that starts with this word; each word that isn't another line's is taken for `end`
abbrev pub line_with : List ℕ → List ℕ → Line
line_with word numbers =
    if bytes_eq word (codes "stands") then lines.Form Stands else
    (if bytes_eq word (codes "collapses") then lines.Form Collapses else
    (if bytes_eq word (codes "greatest") then lines.Form Greatest else
    (if bytes_eq word (codes "unbounded") then lines.Form Unbounded else
    (if bytes_eq word (codes "forces") then two_to lines.Forces numbers else
    (if bytes_eq word (codes "push") then two_to lines.Push numbers else
    (if bytes_eq word (codes "motion") then lines.Motion else
    (if bytes_eq word (codes "move") then three_to lines.Move numbers else lines.End)))))))

-- The only line that the bytes can be.
abbrev pub likely_line : List ℕ → Line
likely_line bytes = let body = before 10 bytes in line_with (before 32 body) (behind 32 body)

-- The line that the bytes are, if they are one.
unfoldable pub line_of : List ℕ → Option Line
line_of bytes =
    let line = likely_line bytes in
    if line_fits line && bytes_eq bytes (line_text line) then Some line else None
