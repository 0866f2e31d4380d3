-- Lines, taken apart.
use Rattle.std.proofs.Common.{◌≡◌, ◌≢◌, ℕ, suc, ◌+◌, ◌<◌, ◌%◌, ◌^◌, ℤ, pos, negsuc, List, [], ◌∷◌, ◌++◌, true, not}
use Rattle.std.proofs.Common.{◌==◌, refl, sym, ◌∙◌, arith, Option, Some, None, IfSome, IfNone, Bor}
use Rattle.std.specs.Option.{MatchOption}
use Rattle.std.specs.Fmt.{decimal, signed_decimal}
use Rattle.std.proofs.lemmas.Fmt.{decimal_by_steps_wide}
use Rattle.std.proofs.lemmas.List.Folds.{list_all-append}
use Rattle.std.proofs.lemmas.Bool.Decides.{nat_tests}
use Rattle.std.proofs.lemmas.Bool.{and_parts}
use Rattle.stack_whole.specs.Whole.{IsFitting}
use Rattle.stack_certificate.specs.Numbers.{IsNumber}
use Rattle.stack_certificate.specs.Lines.{lacks, two_text, IsTwo, IsThreeNumbers}

lacks_digit : (c n : ℕ) → c < 45 → lacks c ((48 + n) ∷ []) ≡ true
lacks_digit c n h = grind (arith, nat_tests)

lacks_decimal : (c n : ℕ) → c < 45 → n < 10 ^ 64 → lacks c (decimal n) ≡ true
lacks_decimal c n h small = decimal_by_steps_wide (λ n ds. lacks c ds ≡ true) (λ n lt. lacks_digit c n h)
    (λ n ds le before.
    list_all-append (λ b. not (b == c)) ds ((48 + n % 10) ∷ [])
    ∙ rw (before, lacks_digit c (n % 10) h) refl) n small

lacks_more : (c b : ℕ) (bs : List ℕ) → c < b → lacks c bs ≡ true → lacks c (b ∷ bs) ≡ true
lacks_more c b bs lt h = grind (arith, nat_tests)

pub lacks_number : (c : ℕ) (z : ℤ) → c < 45 → IsFitting z → lacks c (signed_decimal z) ≡ true
lacks_number c (pos n) h small = lacks_decimal c n h (omega arith)
lacks_number c (negsuc n) h small =
    lacks_more c 45 (decimal (suc n)) h (lacks_decimal c (suc n) h (omega arith))

-- bytes are cut at their first such byte in one way
pub cut_once : (c : ℕ) (xs ys us vs : List ℕ) → lacks c xs ≡ true → lacks c us ≡ true
    → xs ++ c ∷ ys ≡ us ++ c ∷ vs → (xs ≡ us) × (ys ≡ vs)
cut_once c [] ys [] vs lx lu e = (refl, cc)
cut_once c [] ys (u ∷ us) vs lx lu e = let h : c ≡ u = cc in absurd (grind (arith, nat_tests))
cut_once c (x ∷ xs) ys [] vs lx lu e = let h : x ≡ c = cc in absurd (grind (arith, nat_tests))
cut_once c (x ∷ xs) ys (u ∷ us) vs lx lu e =
    let h : x ≡ u = cc in
    let t : xs ++ c ∷ ys ≡ us ++ c ∷ vs = cc in
    let a = and_parts (not (x == c)) (lacks c xs) lx in
    let b = and_parts (not (u == c)) (lacks c us) lu in
    let r = cut_once c xs ys us vs a.1 b.1 t in
    (let e0 : xs ≡ us = r.0 in cc, r.1)

pub two_parts : (a b : ℤ) (bytes first second : List ℕ) → bytes ≡ first ++ 32 ∷ second → lacks 32 first ≡ true
    → IsTwo a b bytes → IsNumber a first × IsNumber b second
two_parts a b bytes first second e free is =
    let free_of_spaces = lacks_number 32 a (omega arith) is.0 in
    let r = cut_once 32 first second (signed_decimal a) (signed_decimal b) free free_of_spaces (sym e ∙ is.2) in
    ((is.0, r.0), (is.1, r.1))

pub three_parts : (a b c : ℤ) (bytes first rest : List ℕ) → bytes ≡ first ++ 32 ∷ rest → lacks 32 first ≡ true
    → IsThreeNumbers a b c bytes → IsNumber a first × IsTwo b c rest
three_parts a b c bytes first rest e free is =
    let free_of_spaces = lacks_number 32 a (omega arith) is.0 in
    let r = cut_once 32 first rest (signed_decimal a) (two_text b c) free free_of_spaces (sym e ∙ is.3) in
    ((is.0, r.0), (is.1, is.2, r.1))

pub after_some : (r : Option (Bor (List ℕ))) (s p : List ℕ)
    → MatchOption r ((rest : List ℕ) → s ≢ p ++ rest) (λ x. s ≡ p ++ x.now) → IfSome r (λ x. s ≡ p ++ x.now)
after_some (Some x) s p h = h
after_some None s p h = tt

pub after_none : (r : Option (Bor (List ℕ))) (s p : List ℕ)
    → MatchOption r ((rest : List ℕ) → s ≢ p ++ rest) (λ x. s ≡ p ++ x.now)
    → IfNone r ((rest : List ℕ) → s ≢ p ++ rest)
after_none (Some x) s p h = tt
after_none None s p h = h
