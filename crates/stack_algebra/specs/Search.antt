-- Searches among the numbers below n, and the indices round a list.
use Rattle.std.specs.Prelude.{ℕ, zero, suc, Bool, true, false, cond, Option, Some, None}
use lib.Dec.{eqb}

-- the first of two items, or the second where there is no first
abbrev pub or_else : {P : Type 0} → Option P → Option P → Option P
or_else (Some p) y = Some p
or_else None y = y

-- the first item among those of f at the indices below n
abbrev pub first : {P : Type 0} → ℕ → (ℕ → Option P) → Option P
first zero f = None
first (suc n) f = or_else (first n f) (f n)

-- x where b holds, else none
abbrev pub only_if : {P : Type 0} → Bool → P → Option P
only_if true x = Some x
only_if false x = None

-- the least index below n that has p
abbrev pub least : ℕ → (ℕ → Bool) → Option ℕ
least n p = first n (λ j. only_if (p j) j)

-- the index after i, round a list of n items
abbrev pub next_round : ℕ → ℕ → ℕ
next_round n i = cond (eqb (suc i) n) 0 (suc i)
