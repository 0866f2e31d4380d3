-- A text that is read line by line: what is known on the way, and what it comes to.
use Rattle.std.proofs.Common.{◌≡◌, ℕ, suc, ◌+◌, ◌==◌, List, [], ◌∷◌, length, true, refl, sym, ap, ◌∙◌, arith, Some}
use Rattle.std.proofs.Common.{None, Err}
use Rattle.std.specs.Option.{option_and_then}
use Rattle.std.proofs.lemmas.Bool.Decides.{nat_tests}
use Rattle.stack_certificate.specs.declared.line.Line.{Line}
use Rattle.stack_certificate.specs.Lines.{IsLine}
use Rattle.stack_certificate.specs.FaultLine.{cut}
use Rattle.stack_certificate.specs.CertificateOf.{Progress, start, progress_after, step, progress_over, accepted}
use Rattle.stack_certificate.specs.CertificateOf.{finished, certificate_of}
use Rattle.stack_certificate.proofs.ReadLines.{line_found, no_line_found}

-- what the rest comes to is what the text comes to; the next line has this number
pub record IsRead (text : List ℕ) (p : Progress) (rest : List ℕ) (number : ℕ) : Type 0 where
  pub runs : progress_over start (cut text) ≡ progress_over p (cut rest)
  pub counts : suc (accepted start (cut text)) ≡ number + accepted p (cut rest)

-- after a line that may come
pub read_on : (text : List ℕ) (p q : Progress) (rest bytes after : List ℕ) (number : ℕ) → IsRead text p rest number
    → cut rest ≡ bytes ∷ cut after → Some q ≡ step p bytes → IsRead text q after (number + 1)
read_on text p q rest bytes after number is head may =
    let s : step p bytes ≡ Some q = sym may in
    let count : accepted p (cut rest) ≡ suc (accepted q (cut after)) = rw (head, s) refl in
    record { runs = is.runs ∙ rw (head, s) refl; counts = omega (arith, count, is.counts) }

-- at a line that may not come
pub stopped : (text : List ℕ) (p : Progress) (rest bytes after : List ℕ) (number : ℕ)
    → IsRead text p rest number → cut rest ≡ bytes ∷ cut after → None ≡ step p bytes
    → certificate_of text ≡ Err number
unfolding certificate_of
stopped text p rest bytes after number is head may =
    let none : step p bytes ≡ None = sym may in
    let runs : progress_over start (cut text) ≡ None = is.runs ∙ rw (head, none) refl in
    let count : accepted p (cut rest) ≡ 0 = rw (head, none) refl in
    let line : suc (accepted start (cut text)) ≡ number = omega (arith, count, is.counts) in
    rw (runs, line) refl

pub no_line : (p : Progress) (bytes : List ℕ) → ((line : Line) → ¬ IsLine line bytes) → None ≡ step p bytes
no_line p bytes none = sym (ap (option_and_then (progress_after p)) (no_line_found bytes none))

pub own_line : (p : Progress) (bytes : List ℕ) (line : Line) → IsLine line bytes → progress_after p line ≡ step p bytes
own_line p bytes line found = sym (ap (option_and_then (progress_after p)) (line_found line bytes found))

-- at the end of the text
pub closed : (text : List ℕ) (p : Progress) (rest : List ℕ) (number : ℕ) → (length rest == 0) ≡ true
    → IsRead text p rest number → certificate_of text ≡ finished (Some p) number
unfolding certificate_of cut
closed text p [] number test is =
    let line : suc (accepted start (cut text)) ≡ number = omega (arith, is.counts) in
    rw (is.runs, line) refl
closed text p (b ∷ bs) number test is = absurd (grind (arith, nat_tests))
