-- The numbers of a certificate fit exactly where those of its lines do.
use Rattle.std.proofs.Common.{ℤ, List, [], ◌∷◌, ◌++◌, map}
use Rattle.std.specs.List.{AllByRecursion}
use Rattle.std.proofs.lemmas.List.Elements.{All-from_recursion, recursion_from_All}
use Rattle.stack_certificate.specs.declared.line.Line.{Line}
use Rattle.stack_certificate.specs.declared.line.Line.TheVariants as lines
use Rattle.stack_certificate.specs.Certificate.{ForcesValue, MotionValue, CertificateValue, stands, collapses}
use Rattle.stack_certificate.specs.Certificate.{greatest, unbounded}
use Rattle.stack_certificate.specs.Lines.{LineFits}
use Rattle.stack_certificate.specs.CertificateText.{push_line, forces_lines, move_line, motion_lines, open_lines}
use Rattle.stack_certificate.specs.CertificateText.{lines_of, PartFits, MoveFits, ForcesFit, MotionFits}
use Rattle.stack_certificate.specs.CertificateText.{CertificateFits}

-- lines that fit behind lines that fit
pub both_fit : (xs ys : List Line) → AllByRecursion LineFits xs → AllByRecursion LineFits ys
    → AllByRecursion LineFits (xs ++ ys)
both_fit [] ys f g = g
both_fit (x ∷ xs) ys f g = (f.0, both_fit xs ys f.1 g)

first_fit : (xs ys : List Line) → AllByRecursion LineFits (xs ++ ys) → AllByRecursion LineFits xs
first_fit [] ys f = tt
first_fit (x ∷ xs) ys f = (f.0, first_fit xs ys f.1)

second_fit : (xs ys : List Line) → AllByRecursion LineFits (xs ++ ys) → AllByRecursion LineFits ys
second_fit [] ys f = f
second_fit (x ∷ xs) ys f = second_fit xs ys f.1

-- the lines of forces and of a motion fit where their numbers do
pushes_fit : (ps : List (ℤ × ℤ)) → AllByRecursion PartFits ps → AllByRecursion LineFits (map push_line ps)
pushes_fit [] f = tt
pushes_fit (p ∷ ps) f = (f.0, pushes_fit ps f.1)

parts_fit : (ps : List (ℤ × ℤ)) → AllByRecursion LineFits (map push_line ps) → AllByRecursion PartFits ps
parts_fit [] f = tt
parts_fit (p ∷ ps) f = (f.0, parts_fit ps f.1)

move_lines_fit : (ms : List (ℤ × ℤ × ℤ)) → AllByRecursion MoveFits ms
    → AllByRecursion LineFits (map move_line ms)
move_lines_fit [] f = tt
move_lines_fit (m ∷ ms) f = (f.0, move_lines_fit ms f.1)

moves_fit : (ms : List (ℤ × ℤ × ℤ)) → AllByRecursion LineFits (map move_line ms) → AllByRecursion MoveFits ms
moves_fit [] f = tt
moves_fit (m ∷ ms) f = (f.0, moves_fit ms f.1)

pub forces_lines_fit : (f : ForcesValue) → ForcesFit f → AllByRecursion LineFits (forces_lines f)
forces_lines_fit f fits = ((fits.0, fits.1), pushes_fit f.parts (recursion_from_All PartFits f.parts fits.2))

forces_fit : (f : ForcesValue) → AllByRecursion LineFits (forces_lines f) → ForcesFit f
forces_fit f fits = (fits.0.0, fits.0.1, All-from_recursion PartFits f.parts (parts_fit f.parts fits.1))

pub motion_lines_fit : (m : MotionValue) → MotionFits m → AllByRecursion LineFits (motion_lines m)
motion_lines_fit m fits = (tt, move_lines_fit m (recursion_from_All MoveFits m fits))

motion_fits : (m : MotionValue) → AllByRecursion LineFits (motion_lines m) → MotionFits m
motion_fits m fits = All-from_recursion MoveFits m (moves_fit m fits.1)

-- all lines of a certificate fit where its numbers do
open_fit : (c : CertificateValue) → CertificateFits c → AllByRecursion LineFits (open_lines c)
open_fit (stands f) fits = (tt, forces_lines_fit f fits)
open_fit (collapses m) fits = (tt, motion_lines_fit m fits)
open_fit (greatest f m) fits =
    (tt, both_fit (forces_lines f) (motion_lines m) (forces_lines_fit f fits.0) (motion_lines_fit m fits.1))
open_fit (unbounded f r) fits =
    (tt, both_fit (forces_lines f) (forces_lines r) (forces_lines_fit f fits.0) (forces_lines_fit r fits.1))

pub lines_fit : (c : CertificateValue) → CertificateFits c → AllByRecursion LineFits (lines_of c)
lines_fit c fits = both_fit (open_lines c) (lines.End ∷ []) (open_fit c fits) (tt, tt)

fit_open : (c : CertificateValue) → AllByRecursion LineFits (open_lines c) → CertificateFits c
fit_open (stands f) fits = forces_fit f fits.1
fit_open (collapses m) fits = motion_fits m fits.1
fit_open (greatest f m) fits =
    let first = first_fit (forces_lines f) (motion_lines m) fits.1 in
    let second = second_fit (forces_lines f) (motion_lines m) fits.1 in
    (forces_fit f first, motion_fits m second)
fit_open (unbounded f r) fits =
    let first = first_fit (forces_lines f) (forces_lines r) fits.1 in
    let second = second_fit (forces_lines f) (forces_lines r) fits.1 in
    (forces_fit f first, forces_fit r second)

pub certificate_fits : (c : CertificateValue) → AllByRecursion LineFits (lines_of c) → CertificateFits c
certificate_fits c fits = fit_open c (first_fit (open_lines c) (lines.End ∷ []) fits)
