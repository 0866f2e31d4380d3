-- How far some lines bring a text: what was read, and that the lines of a certificate bring it to its end.
use Rattle.std.proofs.Common.{◌≡◌, ℤ, List, [], ◌∷◌, ◌++◌, map, refl, sym, ap, ◌∙◌, append_assoc, ℕ, Option, Some, None}
use Rattle.std.specs.Prelude.{⊤}
use Rattle.std.specs.List.{AllByRecursion}
use Rattle.std.specs.Option.{option_and_then}
use Rattle.std.proofs.lemmas.List.{append-nil, map-append}
use Rattle.stack_certificate.specs.declared.line.CertificateForm.{CertificateForm}
use Rattle.stack_certificate.specs.declared.line.CertificateForm.TheVariants.{Stands, Collapses, Greatest, Unbounded}
use Rattle.stack_certificate.specs.declared.line.Line.{Line}
use Rattle.stack_certificate.specs.declared.line.Line.TheVariants as lines
use Rattle.stack_certificate.specs.Certificate.{ForcesValue, MotionValue, CertificateValue, stands, collapses}
use Rattle.stack_certificate.specs.Certificate.{greatest, unbounded}
use Rattle.stack_certificate.specs.Lines.{line_text, LineFits}
use Rattle.stack_certificate.specs.LineOf.{line_of}
use Rattle.stack_certificate.specs.CertificateText.{push_line, forces_lines, move_line, motion_lines, open_lines}
use Rattle.stack_certificate.specs.CertificateText.{lines_of, ForcesFit, MotionFits, CertificateFits}
use Rattle.stack_certificate.specs.CertificateOf.{Progress, start, formed, before_motion, before_ray, unended, ended}
use Rattle.stack_certificate.specs.CertificateOf.{no_parts, with_part, progress_after, step, progress_over}
use Rattle.stack_certificate.proofs.ReadLines.{line_found, found_line}
use Rattle.stack_certificate.proofs.FittingLines.{both_fit, forces_lines_fit, motion_lines_fit}

-- the lines that were read
abbrev pub so_far : Progress → List Line
so_far start = []
so_far (formed form) = lines.Form form ∷ []
so_far (before_motion f) = lines.Form Greatest ∷ forces_lines f
so_far (before_ray f) = lines.Form Unbounded ∷ forces_lines f
so_far (unended c) = open_lines c
so_far (ended c) = lines_of c

-- what was read, after one line more
part_more : (f : ForcesValue) (a b : ℤ)
    → forces_lines (with_part f (a, b)) ≡ forces_lines f ++ lines.Push a b ∷ []
part_more f a b =
    ap (λ ls. lines.Forces f.scale f.factor ∷ ls) (map-append push_line f.parts ((a, b) ∷ []))

move_more : (m : MotionValue) (u v r : ℤ)
    → motion_lines (m ++ (u, v, r) ∷ []) ≡ motion_lines m ++ lines.Move u v r ∷ []
move_more m u v r = ap (λ ls. lines.Motion ∷ ls) (map-append move_line m ((u, v, r) ∷ []))

behind_more : (first : Line) (xs ys zs : List Line) (l : Line) → zs ≡ ys ++ l ∷ []
    → first ∷ (xs ++ zs) ≡ (first ∷ (xs ++ ys)) ++ l ∷ []
behind_more first xs ys zs l e =
    ap (λ ls. first ∷ (xs ++ ls)) e ∙ ap (λ ls. first ∷ ls) (sym (append_assoc xs ys (l ∷ [])))

abbrev pub Grows : List Line → Line → Option Progress → Type 0
Grows done line None = ⊤
Grows done line (Some q) = so_far q ≡ done ++ line ∷ []

grows_begun : (form : CertificateForm) (line : Line) →
    Grows (lines.Form form ∷ []) line (progress_after (formed form) line)
grows_begun Stands (lines.Forces s f) = refl
grows_begun Collapses lines.Motion = refl
grows_begun Greatest (lines.Forces s f) = refl
grows_begun Unbounded (lines.Forces s f) = refl
grows_begun _ _ = tt

grows_unended : (c : CertificateValue) (line : Line) → Grows (open_lines c) line (progress_after (unended c) line)
grows_unended c lines.End = refl
grows_unended (stands f) (lines.Push a b) = ap (λ ls. lines.Form Stands ∷ ls) (part_more f a b)
grows_unended (unbounded f r) (lines.Push a b) =
    behind_more (lines.Form Unbounded) (forces_lines f) (forces_lines r) _ (lines.Push a b) (part_more r a b)
grows_unended (collapses m) (lines.Move u v r) = ap (λ ls. lines.Form Collapses ∷ ls) (move_more m u v r)
grows_unended (greatest f m) (lines.Move u v r) =
    behind_more (lines.Form Greatest) (forces_lines f) (motion_lines m) _ (lines.Move u v r) (move_more m u v r)
grows_unended _ _ = tt

grows : (p : Progress) (line : Line) → Grows (so_far p) line (progress_after p line)
grows start (lines.Form form) = refl
grows (formed form) line = grows_begun form line
grows (before_motion f) (lines.Push a b) = ap (λ ls. lines.Form Greatest ∷ ls) (part_more f a b)
grows (before_motion f) lines.Motion = refl
grows (before_ray f) (lines.Push a b) = ap (λ ls. lines.Form Unbounded ∷ ls) (part_more f a b)
grows (before_ray f) (lines.Forces s t) = refl
grows (unended c) line = grows_unended c line
grows _ _ = tt

-- what was read are the texts of fitting lines
pub record Reached (p : Progress) (front : List (List ℕ)) : Type 0 where
  pub are : front ≡ map line_text (so_far p)
  pub fit : AllByRecursion LineFits (so_far p)

step_reaches : (p q : Progress) (front : List (List ℕ)) (bytes : List ℕ) → Reached p front
    → step p bytes ≡ Some q → Reached q (front ++ bytes ∷ [])
step_reaches p q front bytes reached e = by_line (line_of bytes) refl e
  where
    by_line : (found : Option Line) → line_of bytes ≡ found → option_and_then (progress_after p) found ≡ Some q
        → Reached q (front ++ bytes ∷ [])
    by_line None is h = cc
    by_line (Some line) is h =
        let grown : so_far q ≡ so_far p ++ line ∷ [] = rw h at (grows p line) in
        let l = found_line line bytes is in
        record {
          are =
              (λ i. reached.are i ++ l.1 i ∷ [])
              ∙ (sym (map-append line_text (so_far p) (line ∷ [])) ∙ ap (map line_text) (sym grown));
          fit = rw grown (both_fit (so_far p) (line ∷ []) reached.fit (l.0, tt));
        }

pub run_reaches : (p q : Progress) (front texts : List (List ℕ)) → Reached p front → progress_over p texts ≡ Some q
    → Reached q (front ++ texts)
run_reaches p q front [] reached e = rw append-nil (let same : p ≡ q = cc in rw (← same) reached)
run_reaches p q front (bytes ∷ more) reached e =
    by_step (step p bytes) refl (λ t. run_reaches t q (front ++ bytes ∷ []) more) e
  where
    by_step : (s : Option Progress) → step p bytes ≡ s
        → ((t : Progress) → Reached t (front ++ bytes ∷ []) → progress_over t more ≡ Some q
        → Reached q ((front ++ bytes ∷ []) ++ more))
        → option_and_then (λ t. progress_over t more) s ≡ Some q → Reached q (front ++ bytes ∷ more)
    by_step None is rest h = cc
    by_step (Some t) is rest h = rw append_assoc at (rest t (step_reaches p t front bytes reached is) h)

-- some lines and then others
pub run_append : (p : Progress) (xs ys : List (List ℕ))
    → progress_over p (xs ++ ys) ≡ option_and_then (λ q. progress_over q ys) (progress_over p xs)
run_append p [] ys = refl
run_append p (x ∷ xs) ys = by_step (λ t. run_append t xs ys) (step p x)
  where
    by_step : ((t : Progress) → progress_over t (xs ++ ys) ≡ option_and_then (λ q. progress_over q ys)
        (progress_over t xs))
        → (s : Option Progress) → option_and_then (λ t. progress_over t (xs ++ ys)) s
        ≡ option_and_then (λ q. progress_over q ys) (option_and_then (λ t. progress_over t xs) s)
    by_step rest None = refl
    by_step rest (Some t) = rest t

through : (p q r : Progress) (xs ys : List (List ℕ)) → progress_over p xs ≡ Some q → progress_over q ys ≡ Some r
    → progress_over p (xs ++ ys) ≡ Some r
through p q r xs ys e f = run_append p xs ys ∙ rw e f

one_step : (p q r : Progress) (line : Line) (ys : List (List ℕ)) → LineFits line → progress_after p line ≡ Some q
    → progress_over q ys ≡ Some r → progress_over p (line_text line ∷ ys) ≡ Some r
one_step p q r line ys fits e f = rw (line_found line (line_text line) (fits, refl), e) f

-- what was read, after the lines of forces or of a motion
abbrev with_parts : ForcesValue → List (ℤ × ℤ) → ForcesValue
with_parts f ps = record { scale = f.scale; factor = f.factor; parts = f.parts ++ ps }

pushes_run : (wrap : ForcesValue → Progress)
    → ((f : ForcesValue) (part : ℤ × ℤ) → progress_after (wrap f) (push_line part) ≡ Some (wrap (with_part f part)))
    → (f : ForcesValue) (ps : List (ℤ × ℤ)) → AllByRecursion LineFits (map push_line ps)
    → progress_over (wrap f) (map line_text (map push_line ps)) ≡ Some (wrap (with_parts f ps))
pushes_run wrap each f [] fits =
    ap (λ xs. Some (wrap (record { scale = f.scale; factor = f.factor; parts = xs })))
    (sym (append-nil f.parts))
pushes_run wrap each f (p ∷ ps) fits =
    one_step (wrap f) (wrap (with_part f p)) _ (push_line p) _ fits.0 (each f p)
    (pushes_run wrap each (with_part f p) ps fits.1
    ∙ ap (λ xs. Some (wrap (record { scale = f.scale; factor = f.factor; parts = xs })))
    (append_assoc f.parts (p ∷ []) ps))

forces_run : (wrap : ForcesValue → Progress)
    → ((f : ForcesValue) (part : ℤ × ℤ) → progress_after (wrap f) (push_line part) ≡ Some (wrap (with_part f part)))
    → (p : Progress) → ((s t : ℤ) → progress_after p (lines.Forces s t) ≡ Some (wrap (no_parts s t)))
    → (f : ForcesValue) → ForcesFit f → progress_over p (map line_text (forces_lines f)) ≡ Some (wrap f)
forces_run wrap each p begin f fits =
    let all = forces_lines_fit f fits in
    one_step p (wrap (no_parts f.scale f.factor)) _ (lines.Forces f.scale f.factor) _ all.0
    (begin f.scale f.factor)
    (pushes_run wrap each (no_parts f.scale f.factor) f.parts all.1)

moves_run : (wrap : MotionValue → Progress)
    → ((m : MotionValue) (move : ℤ × ℤ × ℤ) → progress_after (wrap m) (move_line move) ≡ Some (wrap (m ++ move ∷ [])))
    → (done ms : MotionValue) → AllByRecursion LineFits (map move_line ms)
    → progress_over (wrap done) (map line_text (map move_line ms)) ≡ Some (wrap (done ++ ms))
moves_run wrap each done [] fits = ap (λ ms. Some (wrap ms)) (sym (append-nil done))
moves_run wrap each done (m ∷ ms) fits =
    one_step (wrap done) (wrap (done ++ m ∷ [])) _ (move_line m) _ fits.0 (each done m)
    (moves_run wrap each (done ++ m ∷ []) ms fits.1 ∙ ap (λ xs. Some (wrap xs)) (append_assoc done (m ∷ []) ms))

motion_run : (wrap : MotionValue → Progress)
    → ((m : MotionValue) (move : ℤ × ℤ × ℤ) → progress_after (wrap m) (move_line move) ≡ Some (wrap (m ++ move ∷ [])))
    → (p : Progress) → progress_after p lines.Motion ≡ Some (wrap [])
    → (m : MotionValue) → MotionFits m → progress_over p (map line_text (motion_lines m)) ≡ Some (wrap m)
motion_run wrap each p begin m fits =
    let all = motion_lines_fit m fits in
    one_step p (wrap []) _ lines.Motion _ tt begin (moves_run wrap each [] m all.1)

-- the lines of a certificate bring a text to its end
two_lists : (p q r : Progress) (xs ys : List Line) → progress_over p (map line_text xs) ≡ Some q
    → progress_over q (map line_text ys) ≡ Some r → progress_over p (map line_text (xs ++ ys)) ≡ Some r
two_lists p q r xs ys e f = rw (map-append line_text xs ys) (through p q r _ _ e f)

with_form : (form : CertificateForm) (c : CertificateValue) (ls : List Line)
    → progress_over (formed form) (map line_text ls) ≡ Some (unended c)
    → progress_over start (map line_text (lines.Form form ∷ ls)) ≡ Some (unended c)
with_form form c ls e = one_step start (formed form) (unended c) (lines.Form form) (map line_text ls) tt refl e

open_run : (c : CertificateValue) → CertificateFits c
    → progress_over start (map line_text (open_lines c)) ≡ Some (unended c)
open_run (stands f) fits =
    with_form Stands (stands f) (forces_lines f)
    (forces_run (λ g. unended (stands g)) (λ g part. refl) (formed Stands) (λ s t. refl) f fits)
open_run (collapses m) fits =
    with_form Collapses (collapses m) (motion_lines m)
    (motion_run (λ n. unended (collapses n)) (λ n move. refl) (formed Collapses) refl m fits)
open_run (greatest f m) fits =
    with_form Greatest (greatest f m) (forces_lines f ++ motion_lines m)
    (two_lists (formed Greatest) (before_motion f) _ (forces_lines f) (motion_lines m)
    (forces_run before_motion (λ g part. refl) (formed Greatest) (λ s t. refl) f fits.0)
    (motion_run (λ n. unended (greatest f n)) (λ n move. refl) (before_motion f) refl m fits.1))
open_run (unbounded f r) fits =
    with_form Unbounded (unbounded f r) (forces_lines f ++ forces_lines r)
    (two_lists (formed Unbounded) (before_ray f) _ (forces_lines f) (forces_lines r)
    (forces_run before_ray (λ g part. refl) (formed Unbounded) (λ s t. refl) f fits.0)
    (forces_run (λ g. unended (unbounded f g)) (λ g part. refl) (before_ray f) (λ s t. refl) r fits.1))

pub whole_run : (c : CertificateValue) → CertificateFits c
    → progress_over start (map line_text (lines_of c)) ≡ Some (ended c)
whole_run c fits =
    two_lists start (unended c) (ended c) (open_lines c) (lines.End ∷ []) (open_run c fits)
    (one_step (unended c) (ended c) (ended c) lines.End [] tt refl refl)
