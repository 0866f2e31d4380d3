-- The line of a direction, found in its bytes.
use Rattle.std.proofs.Common.{◌≡◌, ℕ, suc, ℤ, pos, negsuc, List, [], ◌∷◌, ◌++◌, Bool, true, false, not, ◌&&◌, ◌==◌}
use Rattle.std.proofs.Common.{cond, codes, get_or, refl, sym, ap, ◌∙◌, subst, arith, Option, Some, None, IfNone, neg_ℤ}
use Rattle.std.proofs.Common.{int_le}
use Rattle.std.specs.Fmt.{decimal, signed_decimal}
use Rattle.std.specs.Str.{bytes_eq}
use Rattle.std.specs.Str.Parse.{digits_value}
use Rattle.std.proofs.lemmas.Fmt.{decimal_is_IsNumeral_wide}
use Rattle.std.proofs.lemmas.List.Folds.{list_all-append}
use Rattle.std.proofs.lemmas.Str.Parse.{not_in_digits}
use Rattle.std.proofs.lemmas.Slice.Eq.{bytes_eq-Decides}
use Rattle.std.proofs.lemmas.Bool.{and_parts}
use Rattle.std.proofs.lemmas.Bool.Decides.{nat_tests, Decides-int_eq}
use Rattle.std.proofs.lemmas.Int.{ints}
use Rattle.std.specs.Ordering.{int_eq}
use Rattle.stack_algebra.specs.IntegerOrder.{◌≼◌}
use Rattle.stack_model.specs.Limits.{is_between}
use Rattle.stack_model.proofs.Limited.{between}
use Rattle.stack_whole.specs.Whole.{IsFitting}
use Rattle.stack_certificate.specs.Numbers.{value_of}
use Rattle.stack_certificate.specs.Lines.{lacks, two_text, IsTwo}
use Rattle.stack_certificate.specs.LineOf.{before, behind}
use Rattle.stack_certificate.proofs.CutLines.{lacks_number}
use Rattle.stack_certificate.proofs.Spellings.{own}
use Rattle.stack_pairs.specs.Directed.{AreFactors}
use Rattle.stack_directions.specs.Directions.{IsDirection, is_direction, direction_body, direction_text}
use Rattle.stack_directions.specs.Directions.{IsDirectionBody}
use Rattle.stack_directions.specs.Directions.{IsDirectionLine, likely_direction, direction_of}

before_cut : (c : ℕ) (xs ys : List ℕ) → lacks c xs ≡ true → before c (xs ++ c ∷ ys) ≡ xs
before_cut c [] ys free = let h : (c == c) ≡ true = grind (arith, nat_tests) in rw h refl
before_cut c (x ∷ xs) ys free =
    let p = and_parts (not (x == c)) (lacks c xs) free in
    let h : (x == c) ≡ false = grind (arith, nat_tests) in
    rw h (ap (λ bs. x ∷ bs) (before_cut c xs ys p.1))

behind_cut : (c : ℕ) (xs ys : List ℕ) → lacks c xs ≡ true → behind c (xs ++ c ∷ ys) ≡ ys
behind_cut c [] ys free = let h : (c == c) ≡ true = grind (arith, nat_tests) in rw h refl
behind_cut c (x ∷ xs) ys free =
    let p = and_parts (not (x == c)) (lacks c xs) free in
    let h : (x == c) ≡ false = grind (arith, nat_tests) in
    rw h (behind_cut c xs ys p.1)

-- the number that a spelling has
value_plain : (bs : List ℕ) (n : ℕ) → digits_value 10 bs ≡ n → (get_or bs 0 0 ≡ 45 → ⊥) → value_of bs ≡ pos n
value_plain [] n is no_sign = ap pos is
value_plain (b ∷ bs) n is no_sign = let h : (b == 45) ≡ false = grind (arith, nat_tests) in rw h (ap pos is)

value_spelled : (z : ℤ) → IsFitting z → value_of (signed_decimal z) ≡ z
value_spelled (pos n) small =
    let numeral = decimal_is_IsNumeral_wide n (omega arith) in
    let no_sign = not_in_digits own (decimal n) 45 numeral.0.1 (λ h. omega (arith, h)) 0 numeral.0.0 in
    value_plain (decimal n) n numeral.1 no_sign
value_spelled (negsuc n) small =
    let numeral = decimal_is_IsNumeral_wide (suc n) (omega arith) in
    ap (λ m. neg_ℤ (pos m)) numeral.1

-- two numbers with one space between them are told by their bytes
first_spelled : (a : ℤ) (rest : List ℕ) → IsFitting a → value_of (before 32 (signed_decimal a ++ 32 ∷ rest)) ≡ a
first_spelled a rest x =
    ap value_of (before_cut 32 (signed_decimal a) rest (lacks_number 32 a (omega arith) x)) ∙ value_spelled a x

second_spelled : (a b : ℤ) → IsFitting a → IsFitting b → value_of (behind 32 (two_text a b)) ≡ b
second_spelled a b x y =
    ap value_of (behind_cut 32 (signed_decimal a) (signed_decimal b) (lacks_number 32 a (omega arith) x))
    ∙ value_spelled b y

two_free : (a b : ℤ) → IsFitting a → IsFitting b → lacks 10 (two_text a b) ≡ true
two_free a b x y =
    list_all-append _ (signed_decimal a) (32 ∷ signed_decimal b)
    ∙ rw (lacks_number 10 a (omega arith) x, lacks_number 10 b (omega arith) y) refl

one_reading : (a b m n : ℤ) (bytes : List ℕ) → IsTwo a b bytes → IsTwo m n bytes → (a ≡ m) × (b ≡ n)
one_reading a b m n bytes p q =
    let same : two_text a b ≡ two_text m n = sym p.2 ∙ q.2 in (
      sym (first_spelled a (signed_decimal b) p.0) ∙ ap (λ t. value_of (before 32 t)) same
          ∙ first_spelled m (signed_decimal n) q.0,
      sym (second_spelled a b p.0 p.1) ∙ ap (λ t. value_of (behind 32 t)) same ∙ second_spelled m n q.0 q.1,
    )

fitting : (m n : ℤ) → AreFactors m n → IsFitting m × IsFitting n
fitting m n h = (grind (arith, ints, h.least_m, h.most_m), grind (arith, ints, h.least_n, h.most_n))

pub not_limited : (r : Option (ℤ × ℤ)) (m n : ℤ) (body rest : List ℕ) → body ≡ codes "dir " ++ rest → IsTwo m n rest →
    IfNone r (¬ IsDirection m n) → IfNone r ((d : ℤ × ℤ) → ¬ IsDirectionBody d body)
not_limited (Some d) m n body rest e two h = tt
not_limited None m n body rest e two h = λ d is.
    let f = fitting d.0 d.1 is.0.limits in
    let same : rest ≡ two_text d.0 d.1 =
    let t : codes "dir " ++ rest ≡ codes "dir " ++ two_text d.0 d.1 = sym e ∙ is.1 in cc in
    let r = one_reading d.0 d.1 m n rest (f.0, f.1, same) two in
    h (subst (λ x. IsDirection x n) r.0 (subst (λ y. IsDirection d.0 y) r.1 is.0))

direction_free : (d : ℤ × ℤ) → IsDirection d.0 d.1 → lacks 10 (direction_body d) ≡ true
direction_free d is = let f = fitting d.0 d.1 is.limits in
    list_all-append (λ b. not (b == 10)) (codes "dir ") (two_text d.0 d.1) ∙ two_free d.0 d.1 f.0 f.1

likely : (d : ℤ × ℤ) → IsDirection d.0 d.1 → likely_direction (direction_text d) ≡ d
likely d is =
    let f = fitting d.0 d.1 is.limits in
    ap (λ body. let numbers = behind 32 body in (value_of (before 32 numbers), value_of (behind 32 numbers)))
    (before_cut 10 (direction_body d) [] (direction_free d is))
    ∙ (λ i. (first_spelled d.0 (signed_decimal d.1) f.0 i, second_spelled d.0 d.1 f.0 f.1 i))

within_test : (z : ℤ) → negsuc 999 ≼ z → z ≼ pos 1000 → is_between (negsuc 999) (pos 1000) z ≡ true
within_test z h g = let a : int_le (negsuc 999) z ≡ true = grind (arith, ints) in
    let b : int_le z (pos 1000) ≡ true = grind (arith, ints) in rw (a, b) refl

not_both : (p q : Bool) → (p ≡ true → q ≡ true → ⊥) → not (p && q) ≡ true
not_both true true h = absurd (h refl refl)
not_both true false h = refl
not_both false q h = refl

both_not : (p q : Bool) → not (p && q) ≡ true → p ≡ true → q ≡ true → ⊥
both_not true true h a b = cc
both_not true false h a b = cc
both_not false q h a b = cc

is_test : (m n : ℤ) → IsDirection m n → is_direction m n ≡ true
is_test m n h =
    let l = h.limits in
    rw (
      within_test m l.least_m l.most_m,
      within_test n l.least_n l.most_n,
      not_both (int_eq m (pos 0)) (int_eq n (pos 0)) (λ a b. h.some (
        (Decides-int_eq m (pos 0)).0 a,
        (Decides-int_eq n (pos 0)).0 b,
      )),
    ) refl

test_is : (m n : ℤ) → is_direction m n ≡ true → IsDirection m n
test_is m n h =
    let p = and_parts (is_between (negsuc 999) (pos 1000) m && is_between (negsuc 999) (pos 1000) n) _ h in
    let q = and_parts (is_between (negsuc 999) (pos 1000) m) (is_between (negsuc 999) (pos 1000) n) p.0 in
    let a = between (negsuc 999) (pos 1000) m q.0 in
    let b = between (negsuc 999) (pos 1000) n q.1 in
    record {
      limits = record { least_m = a.0; most_m = a.1; least_n = b.0; most_n = b.1 };
      some = λ z. both_not (int_eq m (pos 0)) (int_eq n (pos 0)) p.1 ((Decides-int_eq m (pos 0)).1 z.0)
          ((Decides-int_eq n (pos 0)).1 z.1);
    }

-- a direction that passes a test is kept
kept : (test : Bool) (d : ℤ × ℤ) → test ≡ true → cond test (Some d) None ≡ Some d
kept true d h = refl
kept false d h = cc

kept_if : (test : Bool) (d e : ℤ × ℤ) → cond test (Some d) None ≡ Some e → (test ≡ true) × (d ≡ e)
kept_if true d e h = (refl, cc)
kept_if false d e h = cc

-- direction_of finds the direction whose line the bytes are
pub direction_found : (d : ℤ × ℤ) (bytes : List ℕ) → IsDirectionLine d bytes → direction_of bytes ≡ Some d
unfolding direction_of
direction_found d bytes is =
    let guess = likely_direction bytes in
    let same : guess ≡ d = ap likely_direction is.1 ∙ likely d is.0 in
    let text : bytes_eq bytes (direction_text guess) ≡ true =
    (bytes_eq-Decides bytes (direction_text guess)).1 (is.1 ∙ ap direction_text (sym same)) in
    let fits : is_direction guess.0 guess.1 ≡ true = ap (λ e. is_direction e.0 e.1) same ∙ is_test d.0 d.1 is.0 in
    kept (is_direction guess.0 guess.1 && bytes_eq bytes (direction_text guess)) guess (rw (fits, text) refl)
    ∙ ap Some same

-- what direction_of finds is the direction whose line the bytes are
pub found_direction : (d : ℤ × ℤ) (bytes : List ℕ) → direction_of bytes ≡ Some d → IsDirectionLine d bytes
unfolding direction_of
found_direction d bytes e =
    let guess = likely_direction bytes in
    let k = kept_if (is_direction guess.0 guess.1 && bytes_eq bytes (direction_text guess)) guess d e in
    let p = and_parts (is_direction guess.0 guess.1) (bytes_eq bytes (direction_text guess)) k.0 in
    let is : bytes ≡ direction_text guess = (bytes_eq-Decides bytes (direction_text guess)).0 p.1 in
    (test_is d.0 d.1 (ap (λ e. is_direction e.0 e.1) (sym k.1) ∙ p.0), is ∙ ap direction_text k.1)

-- direction_of finds none where the bytes are no direction's line
pub no_direction_found : (bytes : List ℕ) → ((d : ℤ × ℤ) → ¬ IsDirectionLine d bytes) → direction_of bytes ≡ None
no_direction_found bytes none = by_cases (direction_of bytes) refl
  where
    by_cases : (found : Option (ℤ × ℤ)) → direction_of bytes ≡ found → direction_of bytes ≡ None
    by_cases None e = e
    by_cases (Some d) e = absurd (none d (found_direction d bytes e))
