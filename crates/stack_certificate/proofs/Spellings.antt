-- What parsing a number's spelling gives.
use Rattle.std.proofs.Common.{◌≡◌, ℕ, zero, suc, ◌^◌, ◌<◌, ◌≤◌, ℤ, pos, negsuc, List, ◌∷◌, Result, Ok, Err, refl, ap}
use Rattle.std.proofs.Common.{◌∙◌, arith, of_z, to_z, Bool, true, false, SFits, neg_ℤ}
use Rattle.std.specs.Fmt.{decimal, signed_decimal}
use Rattle.std.specs.Str.{IsUtf8, IsAscii, bytes_eq}
use Rattle.std.specs.Str.Parse.{ParsesSigned, digits_value, AllDigits}
use Rattle.std.proofs.lemmas.Fmt.{decimal_is_IsNumeral_wide, IsAscii-decimal_wide}
use Rattle.std.proofs.lemmas.Str.Parse.{IsNumeralModel, numerals_by_value, tells_digits, parse_signed_plain}
use Rattle.std.proofs.lemmas.Str.Parse.{parse_signed_minus, not_in_digits}
use Rattle.std.proofs.lemmas.Str.{IsUtf8-from_ascii}
use Rattle.std.specs.Int.{w128}
use Rattle.std.specs.Result.{OkIff}
use Rattle.std.proofs.lemmas.Int.{to_z-of_z, ints}
use Rattle.std.proofs.lemmas.Slice.Eq.{bytes_eq-Decides}
use Rattle.stack_whole.specs.Whole.{IsFitting}
use Rattle.stack_certificate.specs.Numbers.{IsNumber}

pub own : IsNumeralModel (AllDigits 10) (digits_value 10)
own = numerals_by_value (AllDigits 10) tells_digits

ok_from : {T E : Type 0} (r : Result T E) (P : Type 0) (v : T) → OkIff r P v → P → r ≡ Ok v
ok_from (Ok x) P v h p = ap Ok h.1
ok_from (Err e) P v h p = absurd (h p)

plain : {E : Type 0} (n : ℕ) (r : Result ℤ E) → n < 2 ^ 127 → ParsesSigned w128 10 (decimal n) r
    → r ≡ Ok (pos n)
plain n r small h =
    let numeral = decimal_is_IsNumeral_wide n (omega arith) in
    let plus = not_in_digits own (decimal n) 43 numeral.0.1 (λ h. omega (arith, h)) 0 numeral.0.0 in
    let minus = not_in_digits own (decimal n) 45 numeral.0.1 (λ h. omega (arith, h)) 0 numeral.0.0 in
    let fits : digits_value 10 (decimal n) < 2 ^ 127 = rw numeral.1 small in
    ok_from r _ _ (parse_signed_plain own w128 (decimal n) r h plus minus) (numeral.0.1, numeral.0.0, fits)
    ∙ ap (λ v. Ok (pos v)) numeral.1

minus : {E : Type 0} (n : ℕ) (r : Result ℤ E) → suc n < 2 ^ 127 → ParsesSigned w128 10 (45 ∷ decimal (suc n)) r
    → r ≡ Ok (negsuc n)
minus n r small h =
    let numeral = decimal_is_IsNumeral_wide (suc n) (omega arith) in
    let fits : digits_value 10 (decimal (suc n)) ≤ 2 ^ 127 = rw numeral.1 (omega arith) in
    ok_from r _ _ (parse_signed_minus own w128 (45 ∷ decimal (suc n)) r h refl) (numeral.0.1, numeral.0.0, fits)
    ∙ ap (λ v. Ok (neg_ℤ (pos v))) numeral.1

pub spelled_parses : {E : Type 0} (z : ℤ) (bs : List ℕ) (r : Result ℤ E) → IsNumber z bs
    → ParsesSigned w128 10 bs r → r ≡ Ok z
spelled_parses (pos n) bs r is h = plain n r is.0 (rw is.1 at h)
spelled_parses (negsuc n) bs r is h = minus n r is.0 (rw is.1 at h)

ascii_more : (c : ℕ) (bs : List ℕ) → c < 128 → IsAscii bs → IsAscii (c ∷ bs)
ascii_more c bs h more zero = h
ascii_more c bs h more (suc i) = more i

pub is_ascii : (z : ℤ) → IsFitting z → IsAscii (signed_decimal z)
is_ascii (pos n) small = IsAscii-decimal_wide n (omega arith)
is_ascii (negsuc n) small =
    ascii_more 45 (decimal (suc n)) (omega arith) (IsAscii-decimal_wide (suc n) (omega arith))

pub is_text : (z : ℤ) (bs : List ℕ) → IsNumber z bs → IsUtf8 bs
is_text z bs is = rw is.1 (IsUtf8-from_ascii _ (is_ascii z is.0))

-- the number that was parsed is the one that is spelled
pub is_parsed : {E : Type 0} (z y : ℤ) (bs text : List ℕ) (r : Result ℤ E) → text ≡ bs
    → ParsesSigned w128 10 text r → r ≡ Ok y → IsNumber z bs → y ≡ z
is_parsed z y bs text r same h ok is = let e : r ≡ Ok z = spelled_parses z text r (is.0, same ∙ is.1) h in cc

pub not_parsed : {E : Type 0} (z : ℤ) (e : E) (bs text : List ℕ) (r : Result ℤ E) → text ≡ bs
    → ParsesSigned w128 10 text r → r ≡ Err e → IsNumber z bs → ⊥
not_parsed z e bs text r same h err is = let ok : r ≡ Ok z = spelled_parses z text r (is.0, same ∙ is.1) h in cc

-- no small number is the least of 128 bits
pub not_least : (z : ℤ) → IsFitting z → of_z w128 z ≡ 2 ^ 127 → ⊥
not_least (pos n) small e = omega arith
not_least (negsuc n) small e = omega arith

pub differ : (xs ys : List ℕ) (b : Bool) → b ≡ bytes_eq xs ys → b ≡ false → xs ≡ ys → ⊥
differ xs ys b tested isnt same = let h : bytes_eq xs ys ≡ true = (bytes_eq-Decides xs ys).1 same in cc

pub small_fits : (z : ℤ) → IsFitting z → SFits w128 z
small_fits (pos n) small = omega (arith, ints)
small_fits (negsuc n) small = omega (arith, ints)

pub spelled_through : (y z : ℤ) → IsFitting z → y ≡ z
    → signed_decimal (to_z w128 (of_z w128 y)) ≡ signed_decimal z
spelled_through y z small same = rw same (ap signed_decimal (to_z-of_z w128 z (small_fits z small)))
