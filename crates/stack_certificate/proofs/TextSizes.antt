-- How long the text of a certificate can be.
use Rattle.std.proofs.Common.{◌≡◌, ap, ◌+◌, ◌*◌, ◌≤◌, ℤ, List, [], ◌∷◌, ◌++◌, map, length, arith}
use Rattle.std.specs.Fmt.{signed_decimal}
use Rattle.std.specs.List.{AllByRecursion}
use Rattle.std.proofs.lemmas.List.{length-append}
use Rattle.std.proofs.lemmas.List.Elements.{recursion_from_All}
use Rattle.itoa.proofs.Decimal.{signed_wide}
use Rattle.stack_whole.specs.Whole.{IsFitting}
use Rattle.stack_certificate.specs.declared.line.Line.{Line}
use Rattle.stack_certificate.specs.declared.line.Line.TheVariants as lines
use Rattle.stack_certificate.specs.declared.line.CertificateForm.TheVariants as forms
use Rattle.stack_certificate.specs.Certificate.{ForcesValue, MotionValue, stands, collapses, greatest, unbounded}
use Rattle.stack_certificate.specs.Lines.{two_text, three_text, line_text}
use Rattle.stack_certificate.specs.CertificateText.{push_line, forces_lines, move_line, motion_lines, open_lines}
use Rattle.stack_certificate.specs.CertificateText.{text_of, PartFits, MoveFits, ForcesFit, MotionFits}
use Rattle.stack_certificate.specs.CertificateText.{FewHaveShortTexts}
use Rattle.stack_certificate.proofs.Spellings.{small_fits}

-- a number has at most 40 bytes, 39 digits and a sign
number-short : (z : ℤ) → IsFitting z → length (signed_decimal z) ≤ 40
number-short z fits = (signed_wide z (small_fits z fits)).1

two-short : (a b : ℤ) → IsFitting a → IsFitting b → length (two_text a b) ≤ 81
two-short a b fa fb = omega (
  arith,
  length-append (signed_decimal a) (32 ∷ signed_decimal b),
  number-short a fa,
  number-short b fb,
)

three-short : (a b c : ℤ) → IsFitting a → IsFitting b → IsFitting c → length (three_text a b c) ≤ 122
three-short a b c fa fb fc = omega (
  arith,
  length-append (signed_decimal a) (32 ∷ two_text b c),
  number-short a fa,
  two-short b c fb fc,
)

-- how long a line with its line feed may be
push-short : (part : ℤ × ℤ) → PartFits part → length (line_text (push_line part)) ≤ 87
push-short part fits = omega (
  arith,
  length-append (two_text part.0 part.1) (10 ∷ []),
  two-short part.0 part.1 fits.0 fits.1,
)

move-short : (move : ℤ × ℤ × ℤ) → MoveFits move → length (line_text (move_line move)) ≤ 128
move-short move fits = omega (
  arith,
  length-append (three_text move.0 move.1 move.2) (10 ∷ []),
  three-short move.0 move.1 move.2 fits.0 fits.1 fits.2,
)

-- lines one after the other
text_of-append : (xs ys : List Line) → length (text_of (xs ++ ys)) ≡ length (text_of xs) + length (text_of ys)
text_of-append [] ys = omega arith
text_of-append (x ∷ xs) ys = omega (
  arith,
  length-append (line_text x) (text_of (xs ++ ys)),
  length-append (line_text x) (text_of xs),
  text_of-append xs ys,
)

pushes-short : (ps : List (ℤ × ℤ)) → AllByRecursion PartFits ps → length (text_of (map push_line ps)) ≤ 87 * length ps
pushes-short [] fits = omega arith
pushes-short (p ∷ ps) fits = omega (
  arith,
  length-append (line_text (push_line p)) (text_of (map push_line ps)),
  push-short p fits.0,
  pushes-short ps fits.1,
)

moves-short : (ms : List (ℤ × ℤ × ℤ)) → AllByRecursion MoveFits ms →
    length (text_of (map move_line ms)) ≤ 128 * length ms
moves-short [] fits = omega arith
moves-short (m ∷ ms) fits = omega (
  arith,
  length-append (line_text (move_line m)) (text_of (map move_line ms)),
  move-short m fits.0,
  moves-short ms fits.1,
)

-- how long a list with its first line may be
forces-short : (f : ForcesValue) → ForcesFit f → length (text_of (forces_lines f)) ≤ 89 + 87 * length f.parts
forces-short f fits = omega (
  arith,
  length-append (line_text (lines.Forces f.scale f.factor)) (text_of (map push_line f.parts)),
  length-append (two_text f.scale f.factor) (10 ∷ []),
  two-short f.scale f.factor fits.0 fits.1,
  pushes-short f.parts (recursion_from_All PartFits f.parts fits.2),
)

motion-short : (m : MotionValue) → MotionFits m → length (text_of (motion_lines m)) ≤ 7 + 128 * length m
motion-short m fits = omega (arith, moves-short m (recursion_from_All MoveFits m fits))

pub few_have_short_texts : FewHaveShortTexts
few_have_short_texts (stands f) fits few = omega (
  arith,
  text_of-append (open_lines (stands f)) (lines.End ∷ []),
  forces-short f fits,
  few,
)
few_have_short_texts (collapses m) fits few = omega (
  arith,
  text_of-append (open_lines (collapses m)) (lines.End ∷ []),
  motion-short m fits,
  few,
)
few_have_short_texts (greatest f m) fits few = omega (
  arith,
  text_of-append (open_lines (greatest f m)) (lines.End ∷ []),
  text_of-append (forces_lines f) (motion_lines m),
  forces-short f fits.0,
  motion-short m fits.1,
  few.0,
  few.1,
)
few_have_short_texts (unbounded f r) fits few = omega (
  arith,
  text_of-append (open_lines (unbounded f r)) (lines.End ∷ []),
  text_of-append (forces_lines f) (forces_lines r),
  forces-short f fits.0,
  forces-short r fits.1,
  few.0,
  few.1,
)
