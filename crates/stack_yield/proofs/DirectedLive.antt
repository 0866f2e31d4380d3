-- A directed structure lists live loads.
use Rattle.std.proofs.Common.{◌≡◌, inl, sym, subst, ℕ, zero, suc, ◌+◌, ◌<◌, Bool, true, false, List, [], ◌∷◌, ◌++◌}
use Rattle.std.proofs.Common.{length, get_or, arith, nat_eq, if◌then◌else◌}
use Rattle.std.proofs.lemmas.Bool.{eq-eqb}
use lib.IntN.{ℤ, pos}
use Rattle.stack_equilibrium.proofs.Common.{HasLive, Load, Structure, origin}
use Rattle.stack_pairs.specs.Directed.{times_load, directed_from, directed_structure, ArePair}

abbrev stand_in : Load
stand_in = record { body = 0; live = false; at = origin; fx = pos 0; fy = pos 0 }

abbrev HasLiveIn : List Load → Type 0
HasLiveIn ls = (i : ℕ) × ((i < length ls) × ((get_or ls i stand_in).live ≡ true))

later : (l : Load) (ls : List Load) → HasLiveIn ls → HasLiveIn (l ∷ ls)
later l ls h = (suc h.0, (omega (arith, h.1.0), h.1.1))

live_from : (i j : ℕ) (m n : ℤ) (k x : ℕ) (ls : List Load) → k + x ≡ i → x < length ls →
    (get_or ls x stand_in).live ≡ true → HasLiveIn (directed_from i j m n k ls)
live_from i j m n k x [] e lt live = absurd (omega arith)
live_from i j m n k zero (l ∷ ls) e lt live =
    let here : nat_eq k i ≡ true = eq-eqb k i (omega (arith, e)) in
    subst HasLiveIn (λ r. (if sym live r then (if sym here r then times_load m l ∷ []
    else (if nat_eq k j then times_load n l ∷ [] else [])) else l ∷ []) ++ directed_from i j m n (suc k) ls)
    (0, (omega arith, live))
live_from i j m n k (suc x) (l ∷ ls) e lt live =
    go l.live (nat_eq k i) (nat_eq k j) (live_from i j m n (suc k) x ls (omega (arith, e)) (omega (arith, lt)) live)
  where
    go : (a p q : Bool) → HasLiveIn (directed_from i j m n (suc k) ls) →
        HasLiveIn ((if a then (if p then times_load m l ∷ [] else (if q then times_load n l ∷ [] else [])) else l ∷ [])
        ++ directed_from i j m n (suc k) ls)
    go true true q h = later (times_load m l) (directed_from i j m n (suc k) ls) h
    go true false true h = later (times_load n l) (directed_from i j m n (suc k) ls) h
    go true false false h = h
    go false p q h = later l (directed_from i j m n (suc k) ls) h

pub directed_has_live : (s : Structure) (i j : ℕ) (m n : ℤ) → ArePair s i j → HasLive (directed_structure s i j m n)
directed_has_live s i j m n pair = inl (live_from i j m n 0 i s.loads (omega arith) pair.first.listed pair.first.live)
