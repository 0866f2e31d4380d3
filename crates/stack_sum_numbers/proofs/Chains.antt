-- Numbers that are made one after the other: what stands where all fit, and that it is refused where one is too wide.
use Rattle.std.proofs.Common.{◌≡◌, refl, sym, ap, subst, ◌∙◌, ◌⊎◌, inl, inr, ℕ, zero, suc, ◌+◌, ◌<◌, ◌≤◌, ◌^◌, ℤ}
use Rattle.std.proofs.Common.{Bool, true, false, List, [], ◌∷◌, ◌++◌, length, get_or, Result, Ok, Err, arith}
use Rattle.std.specs.Prelude.{IsErr, is_err, if◌then◌else◌}
use Rattle.std.proofs.lemmas.Bool.{cases_lt, lt-ltb, ltb-true, false≢true}
use Rattle.std.proofs.lemmas.List.Elements.{All-nil, All-cons, All-head, All-tail}
use lib.IntN.{nat_abs}
use Rattle.stack_equilibrium.proofs.Common.{IsFitting, Whole, Wide, fits, made, steps, whole, ◌>>=◌}
use Rattle.stack_whole.specs.Whole.{IsTooWide}
use Rattle.stack_sum_numbers.specs.InTurn.{AllFit, OneIsTooWide, OneIsTooWideOrAllFit, lists_in_turn, IsMadeOf}

-- a result after a number, which fits or not
abbrev pub or_wide : {A : Type 0} → Bool → Result A Wide → Result A Wide
or_wide b r = if b then r else Err (record {})

-- the numbers of a list are made in order, and then a value stands
abbrev pub made_all : {A : Type 0} → List ℤ → A → Result A Wide
made_all [] v = Ok v
made_all (n ∷ ns) v = or_wide (fits n) (made_all ns v)

-- a result is made of these numbers in order, and then this value stands
pub record InOrder {A : Type 0} (ns : List ℤ) (v : A) (r : Result A Wide) : Type 0 where
  pub is : r ≡ made_all ns v

-- no number, and the last one
pub none_more : {A : Type 0} (v : A) → InOrder [] v (Ok v)
none_more v = record { is = refl }

pub last_one : (n : ℤ) → InOrder (n ∷ []) (whole n) (made n)
last_one n = record { is = refl }

-- one number, and what is made after it
pub then_one : {A : Type 0} (n : ℤ) (ns : List ℤ) (f : Whole → Result A Wide) (v : A) →
    InOrder ns v (f (whole n)) → InOrder (n ∷ ns) v (made n >>= f)
then_one n ns f v h = record { is = go (fits n) }
  where
    go : (b : Bool) → (or_wide b (Ok (whole n)) >>= f) ≡ or_wide b (made_all ns v)
    go true = h.is
    go false = refl

-- many numbers, and what is made after them
pub after_all : {A B : Type 0} (ns ms : List ℤ) (f : A → Result B Wide) (r : Result A Wide) (v : A) (w : B) →
    InOrder ns v r → InOrder ms w (f v) → InOrder (ns ++ ms) w (r >>= f)
after_all {A} {B} ns ms f r v w e h = record { is = ap (λ t. t >>= f) e.is ∙ along ns }
  where
    along : (ns : List ℤ) → (made_all ns v >>= f) ≡ made_all (ns ++ ms) w
    along [] = h.is
    along (n ∷ ns) = go (fits n) (along ns)
      where
        go : (b : Bool) → (made_all ns v >>= f) ≡ made_all (ns ++ ms) w →
            (or_wide b (made_all ns v) >>= f) ≡ or_wide b (made_all (ns ++ ms) w)
        go true k = k
        go false k = refl

-- a value that is told otherwise
pub told_as : {A B : Type 0} (ns : List ℤ) (g : A → B) (r : Result A Wide) (v : A) → InOrder ns v r →
    InOrder ns (g v) (r >>= λ x. Ok (g x))
told_as {A} {B} ns g r v e = record { is = ap (λ t. t >>= λ x. Ok (g x)) e.is ∙ along ns }
  where
    along : (ns : List ℤ) → (made_all ns v >>= λ x. Ok (g x)) ≡ made_all ns (g v)
    along [] = refl
    along (n ∷ ns) = go (fits n) (along ns)
      where
        go : (b : Bool) → (made_all ns v >>= λ x. Ok (g x)) ≡ made_all ns (g v) →
            (or_wide b (made_all ns v) >>= λ x. Ok (g x)) ≡ or_wide b (made_all ns (g v))
        go true k = k
        go false k = refl

-- a value made item by item: at item k from the k-th of some values to the next, by the k-th of some lists
pub steps_in_turn : {X : Type 0} (f : ℕ → Whole → X → Result Whole Wide) (lists : ℕ → List ℤ) (value : ℕ → ℤ)
    (i : ℕ) (xs : List X) (d : X) →
    ((k : ℕ) → k < length xs →
    InOrder (lists k) (whole (value (suc k))) (f (i + k) (whole (value k)) (get_or xs k d))) →
    InOrder (lists_in_turn (length xs) lists) (whole (value (length xs))) (steps f i (whole (value 0)) xs)
steps_in_turn f lists value i [] d h = none_more (whole (value 0))
steps_in_turn f lists value i (x ∷ xs) d h =
    after_all (lists 0) (lists_in_turn (length xs) (λ k. lists (suc k))) (λ b. steps f (i + 1) b xs)
    (f i (whole (value 0)) x) (whole (value 1)) (whole (value (suc (length xs))))
    (subst (λ n. InOrder (lists 0) (whole (value 1)) (f n (whole (value 0)) x)) here (h 0 (omega arith)))
    (steps_in_turn f (λ k. lists (suc k)) (λ k. value (suc k)) (i + 1) xs d rest)
  where
    here : i + 0 ≡ i
    here = omega arith

    next : (k : ℕ) → i + suc k ≡ i + 1 + k
    next k = omega arith

    rest : (k : ℕ) → k < length xs →
        InOrder (lists (suc k)) (whole (value (suc (suc k)))) (f (i + 1 + k) (whole (value (suc k))) (get_or xs k d))
    rest k l = subst (λ n. InOrder (lists (suc k)) (whole (value (suc (suc k))))
        (f n (whole (value (suc k))) (get_or xs k d))) (next k) (h (suc k) (omega (arith, l)))

-- one is too wide or none is, and not both
pub not_both : (ns : List ℤ) → AllFit ns → OneIsTooWide ns → ⊥
not_both ns all p =
    let h : IsFitting p.1 = subst IsFitting p.3 (all p.0 p.1 p.2) in
    let k : IsTooWide p.1 = p.4 in
    omega (arith, h, k)

pub either : (ns : List ℤ) → AllFit ns ⊎ OneIsTooWide ns
either [] = inl (All-nil IsFitting)
either (n ∷ ns) = go (cases_lt (nat_abs n) (2 ^ 127)) (either ns)
  where
    go : (nat_abs n < 2 ^ 127) ⊎ (2 ^ 127 ≤ nat_abs n) → AllFit ns ⊎ OneIsTooWide ns →
        AllFit (n ∷ ns) ⊎ OneIsTooWide (n ∷ ns)
    go (inr p) rest = inr (0, n, omega arith, refl, p)
    go (inl h) (inl all) = inl (All-cons IsFitting n ns h all)
    go (inl h) (inr p) = let l = p.2 in inr (suc p.0, p.1, omega (arith, l), p.3, p.4)

pub one_too_wide_or_all_fit : OneIsTooWideOrAllFit
one_too_wide_or_all_fit ns = (λ p all. not_both ns all p, λ h. go h (either ns))
  where
    go : (¬ (AllFit ns)) → AllFit ns ⊎ OneIsTooWide ns → OneIsTooWide ns
    go h (inl all) = absurd (h all)
    go h (inr p) = p

-- where one number is too wide and the first fits, one of the rest is too wide
later : (n : ℤ) (ns : List ℤ) (k : ℕ) (x : ℤ) → IsFitting n → k < length (n ∷ ns) → get_or (n ∷ ns) k x ≡ x →
    IsTooWide x → OneIsTooWide ns
later n ns zero x h l e p = let m = ap nat_abs e in absurd (omega (arith, h, m, p))
later n ns (suc k) x h l e p = (k, x, omega (arith, l), e, p)

all_made : {A : Type 0} (ns : List ℤ) (v : A) → AllFit ns → made_all ns v ≡ Ok v
all_made [] v all = refl
all_made (n ∷ ns) v all = ap (λ b. or_wide b (made_all ns v)) (lt-ltb _ _ (All-head IsFitting n ns all))
    ∙ all_made ns v (All-tail IsFitting n ns all)

one_refused : {A : Type 0} (ns : List ℤ) (v : A) → OneIsTooWide ns → IsErr (made_all ns v)
one_refused [] v p = let l = p.2 in absurd (omega (arith, l))
one_refused (n ∷ ns) v p = go (fits n) refl (one_refused ns v)
  where
    go : (b : Bool) → fits n ≡ b → (OneIsTooWide ns → IsErr (made_all ns v)) → IsErr (or_wide b (made_all ns v))
    go true e rest = rest (later n ns p.0 p.1 (ltb-true _ _ e) p.2 p.3 p.4)
    go false e rest = refl

-- one way of each equivalence is enough
pub from_each : {A E : Type 0} (ns : List ℤ) (v : A) (r : Result A E) → (AllFit ns → r ≡ Ok v) →
    (OneIsTooWide ns → IsErr r) → IsMadeOf ns v r
from_each ns v r good bad = record {
  made = (λ e. fit e (either ns), good);
  refused = (λ e. pass e (either ns), bad);
}
  where
    one_answer : r ≡ Ok v → IsErr r → ⊥
    one_answer e h = false≢true (sym (ap is_err e) ∙ h)

    fit : r ≡ Ok v → AllFit ns ⊎ OneIsTooWide ns → AllFit ns
    fit e (inl all) = all
    fit e (inr p) = absurd (one_answer e (bad p))

    pass : IsErr r → AllFit ns ⊎ OneIsTooWide ns → OneIsTooWide ns
    pass h (inl all) = absurd (one_answer (good all) h)
    pass h (inr p) = p

-- what is made one after the other is made of its numbers
pub is_made : {A : Type 0} (ns : List ℤ) (v : A) (r : Result A Wide) → InOrder ns v r → IsMadeOf ns v r
is_made ns v r h = from_each ns v r (λ all. h.is ∙ all_made ns v all) (λ p. ap is_err h.is ∙ one_refused ns v p)
