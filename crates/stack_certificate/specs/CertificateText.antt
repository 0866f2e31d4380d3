-- The text of a certificate: the line of its form, its lists, and the line `end`. `stands` has one list of
-- forces, `collapses` one motion, `greatest` forces and a motion, `unbounded` two lists of forces. A list of
-- forces is the line `forces SCALE FACTOR` and for each bearing a line `push A B`; a motion is the line
-- `motion` and for each free block a line `move U V R`.
use Rattle.std.specs.Prelude.{◌≡◌, ◌<◌, ◌≤◌, ℤ, ℕ, List, [], ◌∷◌, ◌++◌, map, length}
use Rattle.std.specs.List.{All}
use Rattle.stack_certificate.specs.declared.line.CertificateForm.TheVariants as forms
use Rattle.stack_certificate.specs.declared.line.Line.{Line}
use Rattle.stack_certificate.specs.declared.line.Line.TheVariants as lines
use Rattle.stack_certificate.specs.Certificate.{ForcesValue, MotionValue, CertificateValue, stands, collapses}
use Rattle.stack_certificate.specs.Certificate.{greatest, unbounded}
use Rattle.stack_whole.specs.Whole.{IsFitting}
use Rattle.stack_whole.specs.Limits.{most_bearings, most_free}
use Rattle.stack_certificate.specs.Lines.{line_text}

-- the line of one part of forces
abbrev pub push_line : ℤ × ℤ → Line
push_line part = lines.Push part.0 part.1

-- the lines of forces: the scale and the factor first, and then each part
abbrev pub forces_lines : ForcesValue → List Line
forces_lines f = lines.Forces f.scale f.factor ∷ map push_line f.parts

-- the line of one move
abbrev pub move_line : ℤ × ℤ × ℤ → Line
move_line move = lines.Move move.0 move.1 move.2

-- the lines of a motion: its word first, and then each move
abbrev pub motion_lines : MotionValue → List Line
motion_lines m = lines.Motion ∷ map move_line m

-- the lines of a certificate, without the last one
abbrev pub open_lines : CertificateValue → List Line
open_lines (stands f) = lines.Form forms.Stands ∷ forces_lines f
open_lines (collapses m) = lines.Form forms.Collapses ∷ motion_lines m
open_lines (greatest f m) = lines.Form forms.Greatest ∷ (forces_lines f ++ motion_lines m)
open_lines (unbounded f r) = lines.Form forms.Unbounded ∷ (forces_lines f ++ forces_lines r)

-- all lines of a certificate, the last of which is `end`
abbrev pub lines_of : CertificateValue → List Line
lines_of c = open_lines c ++ lines.End ∷ []

-- the text of some lines, one after the other
abbrev pub text_of : List Line → List ℕ
text_of [] = []
text_of (line ∷ more) = line_text line ++ text_of more

-- the whole text of a certificate
abbrev pub certificate_text : CertificateValue → List ℕ
certificate_text c = text_of (lines_of c)

-- Both numbers of a part are at most 2^127 - 1 in size.
abbrev pub PartFits : ℤ × ℤ → Type 0
PartFits part = IsFitting part.0 × IsFitting part.1

-- no number of a move is too wide
abbrev pub MoveFits : ℤ × ℤ × ℤ → Type 0
MoveFits move = IsFitting move.0 × IsFitting move.1 × IsFitting move.2

-- the scale, the factor and the parts aren't too wide
abbrev pub ForcesFit : ForcesValue → Type 0
ForcesFit f = IsFitting f.scale × IsFitting f.factor × All PartFits f.parts

-- no number of a motion is too wide
abbrev pub MotionFits : MotionValue → Type 0
MotionFits m = All MoveFits m

-- no number of a certificate is too wide
abbrev pub CertificateFits : CertificateValue → Type 0
CertificateFits (stands f) = ForcesFit f
CertificateFits (collapses m) = MotionFits m
CertificateFits (greatest f m) = ForcesFit f × MotionFits m
CertificateFits (unbounded f r) = ForcesFit f × ForcesFit r

-- The bytes are the text of the certificate.
pub record IsCertificateText (c : CertificateValue) (bytes : List ℕ) : Type 0 where
  pub fits : CertificateFits c
  pub is : bytes ≡ certificate_text c

-- No more parts than a survey may have bearings.
abbrev pub ForcesAreFew : ForcesValue → Type 0
ForcesAreFew f = length f.parts ≤ most_bearings

-- no more moves than a model may have free blocks
abbrev pub MotionIsFew : MotionValue → Type 0
MotionIsFew m = length m ≤ most_free

-- no list of a certificate is longer than a survey or a model may be
abbrev pub IsFew : CertificateValue → Type 0
IsFew (stands f) = ForcesAreFew f
IsFew (collapses m) = MotionIsFew m
IsFew (greatest f m) = ForcesAreFew f × MotionIsFew m
IsFew (unbounded f r) = ForcesAreFew f × ForcesAreFew r

-- The text of a certificate whose numbers fit and whose lists are no longer than that has fewer bytes than this.
abbrev pub text_bound : ℕ
text_bound = 180000

-- a certificate in which no number is too wide and no list longer than that has a text below this bound
abbrev pub FewHaveShortTexts : Type 0
FewHaveShortTexts = (c : CertificateValue) → CertificateFits c → IsFew c → length (certificate_text c) < text_bound
