-- The number that a word spells, and the budget.
use Rattle.std.proofs.Common.{◌≡◌, refl, sym, subst, ◌∙◌, ℕ, ◌<◌, ◌^◌, Bool, true, false, List, Some, None, Result, Ok}
use Rattle.std.proofs.Common.{Err, arith, ◌&&◌, decimal, nat_lt, if◌then◌else◌}
use Rattle.stack_algebra.proofs.Conjunctions.{left_true, right_true}
use Rattle.std.specs.Str.{bytes_eq}
use Rattle.std.specs.Str.Parse.{digits_value, ParsesUnsigned}
use Rattle.std.proofs.lemmas.Bool.{ltb-true, lt-ltb}
use Rattle.std.proofs.lemmas.Fmt.{parse-decimal, decimal_is_IsNumeral}
use Rattle.std.proofs.lemmas.Slice.Eq.{bytes_eq-Decides}
use Rattle.stack_cli.specs.Words.{number_spelled}

both : (s t : Bool) → s ≡ true → t ≡ true → s && t ≡ true
both true t h k = k
both false t h k = absurd cc

chosen : (b : Bool) (n : ℕ) → b ≡ true → (if b then Some n else None) ≡ Some n
chosen true n h = refl
chosen false n h = absurd cc

not_chosen : (b : Bool) (n : ℕ) → (b ≡ true → ⊥) → (if b then Some n else None) ≡ None
not_chosen true n h = absurd (h refl)
not_chosen false n h = refl

-- the test of a number against the word that should spell it
abbrev spells : ℕ → List ℕ → Bool
spells n word = nat_lt n (2 ^ 32) && bytes_eq (decimal n) word

spelled : (n : ℕ) → n < 2 ^ 32 → number_spelled (decimal n) ≡ Some n
spelled n low =
    let value = (decimal_is_IsNumeral n (omega (arith, low))).1 in
    subst (λ m. (if spells m (decimal n) then Some m else None) ≡ Some n) (sym value)
    (chosen (spells n (decimal n)) n
    (both (nat_lt n (2 ^ 32)) (bytes_eq (decimal n) (decimal n)) (lt-ltb _ _ low)
    ((bytes_eq-Decides (decimal n) (decimal n)).1 refl)))

-- a number that is printed as the word is its number
pub is_number : (word : List ℕ) (n : ℕ) → n < 2 ^ 32 → bytes_eq (decimal n) word ≡ true → Some n ≡ number_spelled word
is_number word n low same =
    sym (subst (λ w. number_spelled w ≡ Some n) ((bytes_eq-Decides (decimal n) word).0 same) (spelled n low))

-- where no number is printed as the word, the word spells none
none_is : (word : List ℕ) → ((n : ℕ) → n < 2 ^ 32 → bytes_eq (decimal n) word ≡ true → ⊥) → None ≡ number_spelled word
none_is word h =
    let n = digits_value 10 word in
    sym (not_chosen (spells n word) n (λ all.
    h n (ltb-true _ _ (left_true (nat_lt n (2 ^ 32)) (bytes_eq (decimal n) word) all))
    (right_true (nat_lt n (2 ^ 32)) (bytes_eq (decimal n) word) all)))

module _ {E : Type 0} (word : List ℕ) (r : Result ℕ E) (p : ParsesUnsigned 32 10 word r) where
  pub fits : (m : ℕ) → r ≡ Ok m → m < 2 ^ 32
  fits m is = let h = subst (λ k. ParsesUnsigned 32 10 word k) is p in let low = h.0.1 in let same = h.1 in
      omega (arith, low, same)

  -- a number that is printed as the word is parsed from it
  parsed : (n : ℕ) → n < 2 ^ 32 → bytes_eq (decimal n) word ≡ true → r ≡ Ok n
  parsed n low same = parse-decimal 32 n word r low (omega (arith, low))
      (sym ((bytes_eq-Decides (decimal n) word).0 same)) p

  pub unparsed : (e : E) → r ≡ Err e → None ≡ number_spelled word
  unparsed e is = none_is word (λ n low same. let k = sym is ∙ parsed n low same in absurd cc)

  abbrev or_zero : Result ℕ E → ℕ
  or_zero (Ok n) = n
  or_zero (Err e) = 0

  same_number : (m n : ℕ) → r ≡ Ok m → r ≡ Ok n → m ≡ n
  same_number m n h k = λ i. or_zero ((sym h ∙ k) i)

  pub parsed_other : (m : ℕ) → r ≡ Ok m → bytes_eq (decimal m) word ≡ false → None ≡ number_spelled word
  parsed_other m is other = none_is word (λ n low same.
      let e = same_number m n is (parsed n low same) in
      let f = sym (subst (λ k. bytes_eq (decimal k) word ≡ true) (sym e) same) ∙ other in absurd cc)
