-- The line that some bytes are: line_of finds it, and finds no other.
use Rattle.std.proofs.Common.{◌≡◌, ℕ, suc, ℤ, pos, negsuc, List, [], ◌∷◌, ◌++◌, Bool, true, false, not, ◌&&◌, ◌==◌}
use Rattle.std.proofs.Common.{cond, codes, get_or, refl, sym, ap, ◌∙◌, arith, Option, Some, None, neg_ℤ}
use Rattle.std.specs.Fmt.{decimal, signed_decimal}
use Rattle.std.specs.Str.{bytes_eq}
use Rattle.std.specs.Str.Parse.{digits_value}
use Rattle.std.proofs.lemmas.Fmt.{decimal_is_IsNumeral_wide}
use Rattle.std.proofs.lemmas.List.Folds.{list_all-append}
use Rattle.std.proofs.lemmas.Str.Parse.{not_in_digits}
use Rattle.std.proofs.lemmas.Slice.Eq.{bytes_eq-Decides}
use Rattle.std.proofs.lemmas.Bool.{and_parts}
use Rattle.std.proofs.lemmas.Bool.Decides.{nat_tests}
use Rattle.stack_certificate.specs.declared.line.CertificateForm.TheVariants.{Stands, Collapses, Greatest, Unbounded}
use Rattle.stack_certificate.specs.declared.line.Line.{Line}
use Rattle.stack_certificate.specs.declared.line.Line.TheVariants as lines
use Rattle.stack_whole.specs.Whole.{IsFitting, fits}
use Rattle.stack_certificate.specs.Numbers.{value_of}
use Rattle.stack_certificate.specs.Lines.{lacks, two_text, three_text, body_text, line_text, LineFits, IsLine}
use Rattle.stack_certificate.specs.LineOf.{line_fits, before, behind, two_to, three_to, line_with, likely_line, line_of}
use Rattle.stack_certificate.proofs.CutLines.{lacks_number}
use Rattle.stack_certificate.proofs.Spellings.{own}

pub before_cut : (c : ℕ) (xs ys : List ℕ) → lacks c xs ≡ true → before c (xs ++ c ∷ ys) ≡ xs
before_cut c [] ys free = let h : (c == c) ≡ true = grind (arith, nat_tests) in rw h refl
before_cut c (x ∷ xs) ys free =
    let p = and_parts (not (x == c)) (lacks c xs) free in
    let h : (x == c) ≡ false = grind (arith, nat_tests) in
    rw h (ap (λ bs. x ∷ bs) (before_cut c xs ys p.1))

pub behind_cut : (c : ℕ) (xs ys : List ℕ) → lacks c xs ≡ true → behind c (xs ++ c ∷ ys) ≡ ys
behind_cut c [] ys free = let h : (c == c) ≡ true = grind (arith, nat_tests) in rw h refl
behind_cut c (x ∷ xs) ys free =
    let p = and_parts (not (x == c)) (lacks c xs) free in
    let h : (x == c) ≡ false = grind (arith, nat_tests) in
    rw h (behind_cut c xs ys p.1)

-- the number that a spelling has
value_plain : (bs : List ℕ) (n : ℕ) → digits_value 10 bs ≡ n → (get_or bs 0 0 ≡ 45 → ⊥) → value_of bs ≡ pos n
value_plain [] n is no_sign = ap pos is
value_plain (b ∷ bs) n is no_sign = let h : (b == 45) ≡ false = grind (arith, nat_tests) in rw h (ap pos is)

pub value_spelled : (z : ℤ) → IsFitting z → value_of (signed_decimal z) ≡ z
value_spelled (pos n) small =
    let numeral = decimal_is_IsNumeral_wide n (omega arith) in
    let no_sign = not_in_digits own (decimal n) 45 numeral.0.1 (λ h. omega (arith, h)) 0 numeral.0.0 in
    value_plain (decimal n) n numeral.1 no_sign
value_spelled (negsuc n) small =
    let numeral = decimal_is_IsNumeral_wide (suc n) (omega arith) in
    ap (λ m. neg_ℤ (pos m)) numeral.1

-- the numbers of a line, from its bytes
first_spelled : (a : ℤ) (rest : List ℕ) → IsFitting a → value_of (before 32 (signed_decimal a ++ 32 ∷ rest)) ≡ a
first_spelled a rest x =
    ap value_of (before_cut 32 (signed_decimal a) rest (lacks_number 32 a (omega arith) x)) ∙ value_spelled a x

rest_spelled : (a : ℤ) (rest : List ℕ) → IsFitting a → behind 32 (signed_decimal a ++ 32 ∷ rest) ≡ rest
rest_spelled a rest x = behind_cut 32 (signed_decimal a) rest (lacks_number 32 a (omega arith) x)

two_spelled : (line : ℤ → ℤ → Line) (a b : ℤ) → IsFitting a → IsFitting b → two_to line (two_text a b) ≡ line a b
two_spelled line a b x y =
    ap (λ z. line z (value_of (behind 32 (two_text a b)))) (first_spelled a (signed_decimal b) x)
    ∙ ap (λ z. line a z) (ap value_of (rest_spelled a (signed_decimal b) x) ∙ value_spelled b y)

three_spelled : (line : ℤ → ℤ → ℤ → Line) (a b c : ℤ) → IsFitting a → IsFitting b → IsFitting c
    → three_to line (three_text a b c) ≡ line a b c
three_spelled line a b c x y z =
    ap (λ n. two_to (line n) (behind 32 (three_text a b c))) (first_spelled a (two_text b c) x)
    ∙ (ap (two_to (line a)) (rest_spelled a (two_text b c) x) ∙ two_spelled (line a) b c y z)

-- a line has no line feed but its last byte
two_free : (a b : ℤ) → IsFitting a → IsFitting b → lacks 10 (two_text a b) ≡ true
two_free a b x y =
    list_all-append _ (signed_decimal a) (32 ∷ signed_decimal b)
    ∙ rw (lacks_number 10 a (omega arith) x, lacks_number 10 b (omega arith) y) refl

three_free : (a b c : ℤ) → IsFitting a → IsFitting b → IsFitting c → lacks 10 (three_text a b c) ≡ true
three_free a b c x y z =
    list_all-append _ (signed_decimal a) (32 ∷ two_text b c)
    ∙ rw (lacks_number 10 a (omega arith) x, two_free b c y z) refl

pub body_free : (line : Line) → LineFits line → lacks 10 (body_text line) ≡ true
body_free (lines.Form Stands) fits = refl
body_free (lines.Form Collapses) fits = refl
body_free (lines.Form Greatest) fits = refl
body_free (lines.Form Unbounded) fits = refl
body_free (lines.Forces s f) fits =
    list_all-append (λ b. not (b == 10)) (codes "forces ") (two_text s f) ∙ two_free s f fits.0 fits.1
body_free (lines.Push a b) fits =
    list_all-append (λ b. not (b == 10)) (codes "push ") (two_text a b) ∙ two_free a b fits.0 fits.1
body_free lines.Motion fits = refl
body_free (lines.Move u v r) fits =
    list_all-append (λ b. not (b == 10)) (codes "move ") (three_text u v r)
    ∙ three_free u v r fits.0 fits.1 fits.2
body_free lines.End fits = refl

likely_body : (line : Line) → LineFits line
    → line_with (before 32 (body_text line)) (behind 32 (body_text line)) ≡ line
likely_body (lines.Form Stands) fits = refl
likely_body (lines.Form Collapses) fits = refl
likely_body (lines.Form Greatest) fits = refl
likely_body (lines.Form Unbounded) fits = refl
likely_body (lines.Forces s f) fits = two_spelled lines.Forces s f fits.0 fits.1
likely_body (lines.Push a b) fits = two_spelled lines.Push a b fits.0 fits.1
likely_body lines.Motion fits = refl
likely_body (lines.Move u v r) fits = three_spelled lines.Move u v r fits.0 fits.1 fits.2
likely_body lines.End fits = refl

likely : (line : Line) → LineFits line → likely_line (line_text line) ≡ line
likely line fits =
    ap (λ body. line_with (before 32 body) (behind 32 body))
    (before_cut 10 (body_text line) [] (body_free line fits))
    ∙ likely_body line fits

small_test : (z : ℤ) → IsFitting z → fits z ≡ true
small_test z small = grind (arith, nat_tests)

fits_test : (line : Line) → LineFits line → line_fits line ≡ true
fits_test (lines.Form form) fits = refl
fits_test (lines.Forces s f) fits = rw (small_test s fits.0, small_test f fits.1) refl
fits_test (lines.Push a b) fits = rw (small_test a fits.0, small_test b fits.1) refl
fits_test lines.Motion fits = refl
fits_test (lines.Move u v r) fits = rw (small_test u fits.0, small_test v fits.1, small_test r fits.2) refl
fits_test lines.End fits = refl

test_small : (z : ℤ) → fits z ≡ true → IsFitting z
test_small z test = grind (arith, nat_tests)

test_two : (a b : ℤ) → (fits a && fits b) ≡ true → IsFitting a × IsFitting b
test_two a b test = let p = and_parts (fits a) (fits b) test in (test_small a p.0, test_small b p.1)

test_fits : (line : Line) → line_fits line ≡ true → LineFits line
test_fits (lines.Form form) test = tt
test_fits (lines.Forces s f) test = test_two s f test
test_fits (lines.Push a b) test = test_two a b test
test_fits lines.Motion test = tt
test_fits (lines.Move u v r) test =
    let p = and_parts (fits u && fits v) (fits r) test in
    let q = test_two u v p.0 in
    (q.0, q.1, test_small r p.1)
test_fits lines.End test = tt

-- a line that passes a test is kept
kept : (test : Bool) (line : Line) → test ≡ true → cond test (Some line) None ≡ Some line
kept true line h = refl
kept false line h = cc

kept_if : (test : Bool) (line other : Line) → cond test (Some line) None ≡ Some other
    → (test ≡ true) × (line ≡ other)
kept_if true line other e = (refl, cc)
kept_if false line other e = cc

-- line_of finds the line that the bytes are
pub line_found : (line : Line) (bytes : List ℕ) → IsLine line bytes → line_of bytes ≡ Some line
unfolding line_of
line_found line bytes is =
    let guess = likely_line bytes in
    let same : guess ≡ line = ap likely_line is.1 ∙ likely line is.0 in
    let text : bytes_eq bytes (line_text guess) ≡ true =
    (bytes_eq-Decides bytes (line_text guess)).1 (is.1 ∙ ap line_text (sym same)) in
    let fits : line_fits guess ≡ true = ap line_fits same ∙ fits_test line is.0 in
    kept (line_fits guess && bytes_eq bytes (line_text guess)) guess (rw (fits, text) refl) ∙ ap Some same

-- what line_of finds is the line that the bytes are
pub found_line : (line : Line) (bytes : List ℕ) → line_of bytes ≡ Some line → IsLine line bytes
unfolding line_of
found_line line bytes e =
    let guess = likely_line bytes in
    let k = kept_if (line_fits guess && bytes_eq bytes (line_text guess)) guess line e in
    let p = and_parts (line_fits guess) (bytes_eq bytes (line_text guess)) k.0 in
    let is : bytes ≡ line_text guess = (bytes_eq-Decides bytes (line_text guess)).0 p.1 in
    (test_fits line (ap line_fits (sym k.1) ∙ p.0), is ∙ ap line_text k.1)

-- line_of finds none where the bytes are none
pub no_line_found : (bytes : List ℕ) → ((line : Line) → ¬ IsLine line bytes) → line_of bytes ≡ None
no_line_found bytes none = by_cases (line_of bytes) refl
  where
    by_cases : (found : Option Line) → line_of bytes ≡ found → line_of bytes ≡ None
    by_cases None e = e
    by_cases (Some line) e = absurd (none line (found_line line bytes e))
