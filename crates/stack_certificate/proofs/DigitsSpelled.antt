-- The spelling of a whole number is its digits, and the other way round.
use Rattle.std.proofs.Common.{◌≡◌, ℕ, zero, suc, ◌+◌, ◌*◌, ◌/◌, ◌%◌, ◌<◌, ◌≤◌, ◌^◌, ℤ, pos, negsuc, List, [], ◌∷◌}
use Rattle.std.proofs.Common.{◌++◌, length, get_or, refl, sym, ap, ◌∙◌, append_assoc, arith, rules}
use Rattle.std.specs.Fmt.{decimal, signed_decimal}
use Rattle.std.specs.Char.{digit_value}
use Rattle.std.specs.Str.Parse.{digits_value, digits_value_after, AllDigits}
use Rattle.std.proofs.lemmas.Fmt.{decimal_is_IsNumeral_wide, decimal_by_steps_wide, decimal_step_wide, decimal_digit}
use Rattle.std.proofs.lemmas.List.{append-nil, length-append}
use lib.ListN.{get_or-append}
use Rattle.std.proofs.lemmas.Str.{digit_value_digit}
use Rattle.std.proofs.lemmas.Str.Parse.{IsNumeralModel, numerals_by_fold, digit_from_value}
use Rattle.stack_certificate.specs.Digits.{AreDigits, value_after, IsNatural, IsWritten}
use Rattle.stack_whole.specs.Whole.{IsFitting}

ours : IsNumeralModel AreDigits (value_after 0)
ours = numerals_by_fold _ (search rules) value_after (search rules)

le_value_after : (n : ℕ) (ds : List ℕ) → n ≤ digits_value_after 10 n ds
le_value_after n [] = omega arith
le_value_after n (c ∷ cs) = omega (arith, le_value_after (n * 10 + digit_value c) cs)

decimal_after : (n : ℕ) (ds : List ℕ) → 0 < n → AllDigits 10 ds → digits_value_after 10 n ds < 10 ^ 64
    → decimal (digits_value_after 10 n ds) ≡ decimal n ++ ds
decimal_after n [] some d small = sym (append-nil (decimal n))
decimal_after n (c ∷ cs) some d small =
    let m : ℕ = n * 10 + digit_value c in
    let k = digit_value_digit c (digit_from_value c d.0) in
    let front : m / 10 ≡ n = omega (arith, d.0) in
    let end : 48 + m % 10 ≡ c = omega (arith, d.0) in
    decimal_after m cs (omega arith) d.1 small
    ∙ ap (λ x. x ++ cs)
    (decimal_step_wide m (omega arith) (omega (arith, le_value_after m cs))
    ∙ (λ i. decimal (front i) ++ (end i ∷ [])))
    ∙ append_assoc (decimal n) (c ∷ []) cs

canonical : (ds : List ℕ) → AllDigits 10 ds → 0 < length ds → (get_or ds 0 0 ≡ 48 → length ds ≡ 1)
    → digits_value 10 ds < 10 ^ 64 → decimal (digits_value 10 ds) ≡ ds
canonical [] d some lead small = absurd (omega arith)
canonical (c ∷ []) d some lead small =
    let k = digit_value_digit c (digit_from_value c d.0) in
    decimal_digit (0 * 10 + digit_value c) (omega (arith, d.0)) ∙ ap (λ x. x ∷ []) (omega arith)
canonical (c ∷ e ∷ cs) d some lead small =
    let k = digit_value_digit c (digit_from_value c d.0) in
    let not_zero : c ≡ 48 → ⊥ = λ z. omega (arith, lead z) in
    let is : 48 + (0 * 10 + digit_value c) ≡ c = omega arith in
    decimal_after (0 * 10 + digit_value c) (e ∷ cs) (omega arith) d.1 small
    ∙ ap (λ x. x ++ (e ∷ cs)) (decimal_digit (0 * 10 + digit_value c) (omega (arith, d.0)) ∙ ap (λ x. x ∷ []) is)

first_digit : (n : ℕ) → 0 < n → n < 10 ^ 64 → 48 < get_or (decimal n) 0 0
first_digit n some small =
    let P : ℕ → List ℕ → Type 0 = λ m ds. (0 < length ds) × (0 < m → 48 < get_or ds 0 0) in
    let more : (m : ℕ) (ds : List ℕ) → 10 ≤ m → P (m / 10) ds → P m (ds ++ ((48 + m % 10) ∷ [])) = λ m ds le h. (
      omega (arith, length-append ds ((48 + m % 10) ∷ [])),
      λ a. omega (arith, get_or-append ds ((48 + m % 10) ∷ []) 0 0 h.0, h.1 (omega arith)),
    ) in
    (decimal_by_steps_wide P (λ m lt. (omega arith, λ a. omega arith)) more n small).1 some

alone : (n : ℕ) → n < 10 ^ 64 → get_or (decimal n) 0 0 ≡ 48 → length (decimal n) ≡ 1
alone zero small e = ap length (decimal_digit 0 (omega arith))
alone (suc n) small e = absurd (omega (arith, first_digit (suc n) (omega arith) small))

natural : (n : ℕ) (bytes : List ℕ) → n < 2 ^ 127 → IsNatural n bytes → bytes ≡ decimal n
natural n bytes small is =
    let d = ours.to bytes is.digits in
    let v : digits_value 10 bytes ≡ n = sym (ours.same bytes d) ∙ is.value in
    sym (canonical bytes d is.some is.lead (omega (arith, v))) ∙ ap decimal v

decimal_natural : (n : ℕ) → n < 2 ^ 127 → IsNatural n (decimal n)
decimal_natural n small =
    let numeral = decimal_is_IsNumeral_wide n (omega arith) in
    record {
      digits = ours.from (decimal n) numeral.0.1;
      some = numeral.0.0;
      lead = alone n (omega arith);
      value = ours.same (decimal n) numeral.0.1 ∙ numeral.1;
    }

-- bytes that write a number are its spelling, and its spelling writes it
pub written : (z : ℤ) (bytes : List ℕ) → IsFitting z → IsWritten z bytes → bytes ≡ signed_decimal z
written (pos n) bytes small is = natural n bytes small is
written (negsuc n) bytes small is = is.1 ∙ ap (λ ds. 45 ∷ ds) (natural (suc n) is.0 small is.2)

pub spelling_written : (z : ℤ) → IsFitting z → IsWritten z (signed_decimal z)
spelling_written (pos n) small = decimal_natural n small
spelling_written (negsuc n) small = (decimal (suc n), refl, decimal_natural (suc n) small)
