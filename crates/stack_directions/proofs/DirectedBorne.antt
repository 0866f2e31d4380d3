-- The loads of a directed structure are within the limits.
use Rattle.std.proofs.Common.{◌≡◌, refl, sym, ◌∙◌, subst, ℕ, suc, ◌+◌, ◌<◌, ◌≤◌, Bool, true, false, arith, List, []}
use Rattle.std.proofs.Common.{◌∷◌, length, get_or, w64, SFits, to_z, of_z, nat_abs, nat_eq, not, if◌then◌else◌}
use Rattle.std.specs.List.{All}
use Rattle.std.proofs.lemmas.Bool.{eqb-true, ne_eqb, eq-eqb}
use Rattle.std.proofs.lemmas.Int.{ints, to_z-of_z}
use Rattle.std.proofs.lemmas.List.{length-append}
use Rattle.std.proofs.lemmas.List.Elements.{All-append, All-nil, All-cons}
use lib.IntN.{ℤ, pos, negsuc, ◌*ℤ◌, neg_ℤ}
use Rattle.stack_algebra.proofs.Integers.{expand, sums}
use Rattle.stack_algebra.proofs.Order.{◌≼◌}
use Rattle.stack_model.specs.Borne.{MayBear}
use Rattle.stack_model.specs.Sound.{IsSound}
use Rattle.stack_model.specs.Structure.{NamedBody, Structure, load_of}
use Rattle.stack_model.specs.declared.types.Load.{Load}
use Rattle.stack_polygon.specs.Corners.{origin}
use Rattle.stack_algebra.proofs.Order.{mul-bounds}
use Rattle.stack_rational.specs.Widths.{signed-keeps}
use Rattle.stack_model.specs.Borne.{IsBorne}
use Rattle.stack_pairs.specs.Directed.{times_load, directed_load, directed_from, IsSlightLive, ArePair, AreFactors}
use Rattle.stack_directions.specs.Directing.{IsSlightForce}

pub record IsLimited (z : ℤ) : Type 0 where
  pub least : negsuc 999999999 ≼ z
  pub most : z ≼ pos 1000000000

pub product_limited : (m z : ℤ) → negsuc 999 ≼ m → m ≼ pos 1000 → negsuc 999999 ≼ z → z ≼ pos 1000000 →
    IsLimited (m *ℤ z)
product_limited m z a b c d =
    let low = mul-bounds m z (pos 1000) (pos 1000000) b (omega (arith, sums)) d (omega (arith, sums)) in
    let high = mul-bounds (neg_ℤ m) z (pos 1000) (pos 1000000) (omega (arith, sums)) (omega (arith, sums)) d
    (omega (arith, sums)) in
    record { least = omega (arith, sums, low); most = omega (arith, sums, simp expand at high) }

limited_fits : (z : ℤ) → IsLimited z → SFits w64 z
limited_fits z h = signed-keeps w64 z (size z h)
  where
    size : (z : ℤ) → IsLimited z → nat_abs z ≤ 9223372036854775807
    size z h = omega (arith, ints, h.least, h.most)

pub cast : (z : ℤ) → IsLimited z → to_z w64 (of_z w64 z) ≡ z
cast z h = to_z-of_z w64 z (limited_fits z h)

-- the product of what 64 bits hold
held_product : (m z : ℤ) → negsuc 999 ≼ m → m ≼ pos 1000 → negsuc 999999 ≼ z → z ≼ pos 1000000 →
    to_z w64 (of_z w64 m) *ℤ to_z w64 (of_z w64 z) ≡ m *ℤ z
held_product m z a b c d =
    λ i. cast m (record { least = omega (arith, sums); most = omega (arith, sums) }) i
    *ℤ cast z (record { least = omega (arith, sums); most = omega (arith, sums) }) i

-- it fits 64 bits
pub product_fits : (m z : ℤ) → negsuc 999 ≼ m → m ≼ pos 1000 → negsuc 999999 ≼ z → z ≼ pos 1000000 →
    SFits w64 (to_z w64 (of_z w64 m) *ℤ to_z w64 (of_z w64 z))
product_fits m z a b c d =
    subst (SFits w64) (sym (held_product m z a b c d)) (limited_fits (m *ℤ z) (product_limited m z a b c d))

-- a product of 64 bits is the product
pub product_cast : (m z : ℤ) → negsuc 999 ≼ m → m ≼ pos 1000 → negsuc 999999 ≼ z → z ≼ pos 1000000 →
    to_z w64 (of_z w64 (to_z w64 (of_z w64 m) *ℤ to_z w64 (of_z w64 z))) ≡ m *ℤ z
product_cast m z a b c d =
    (λ i. to_z w64 (of_z w64 (held_product m z a b c d i))) ∙ cast (m *ℤ z) (product_limited m z a b c d)

times_borne : (bs : List NamedBody) (m : ℤ) (l : Load) → negsuc 999 ≼ m → m ≼ pos 1000 → IsSlightForce l →
    IsBorne bs l → IsBorne bs (times_load m l)
times_borne bs m l a b f h =
    let x = product_limited m l.fx a b f.least_fx f.most_fx in
    let y = product_limited m l.fy a b f.least_fy f.most_fy in
    record {
      carried = record {
        on_body = h.carried.on_body;
        in_range = h.carried.in_range;
        least_fx = x.least;
        most_fx = x.most;
        least_fy = y.least;
        most_fy = y.most;
      };
      free = h.free;
    }

abbrev stand_in : Load
stand_in = record { body = 0; live = false; at = origin; fx = pos 0; fy = pos 0 }

-- what isn't a dead load is a live one
live_is : (b : Bool) → not b ≡ false → b ≡ true
live_is true e = refl
live_is false e = cc

-- what is left of the first load
pub left_first : (i j : ℕ) (m n : ℤ) (k : ℕ) (l x : Load) → not l.live ≡ false → k ≡ i → AreFactors m n
    → x ≡ times_load (to_z w64 (of_z w64 m)) l → x ∷ [] ≡ directed_load i j m n k l
left_first i j m n k l x live here f e =
    let is : l.live ≡ true = live_is l.live live in
    (λ r. e r ∷ []) ∙ (λ r. times_load (cast m (record {
      least = omega (arith, sums, f.least_m);
      most = omega (arith, sums, f.most_m);
    }) r) l ∷ [])
    ∙ (λ r. if sym is r then (if sym (eq-eqb k i here) r then times_load m l ∷ []
    else (if nat_eq k j then times_load n l ∷ [] else [])) else l ∷ [])

-- what is left of the second load
pub left_second : (i j : ℕ) (m n z : ℤ) (k : ℕ) (l x : Load) → not l.live ≡ false → (k ≡ i → ⊥) → k ≡ j →
    AreFactors m n → x ≡ times_load (to_z w64 (of_z w64 n)) l → x ∷ [] ≡ directed_load i j m n k l
left_second i j m n z k l x live other here f e =
    let is : l.live ≡ true = live_is l.live live in
    (λ r. e r ∷ []) ∙ (λ r. times_load (cast n (record {
      least = omega (arith, sums, f.least_n);
      most = omega (arith, sums, f.most_n);
    }) r) l ∷ [])
    ∙ (λ r. if sym is r then (if sym (ne_eqb k i other) r then times_load m l ∷ []
    else (if sym (eq-eqb k j here) r then times_load n l ∷ [] else [])) else l ∷ [])

-- what is left of a load is borne, and is no more than one
left_borne : (bs : List NamedBody) (i j : ℕ) (m n : ℤ) (k : ℕ) (l : Load) → AreFactors m n → IsBorne bs l →
    (k ≡ i → IsSlightForce l) → (k ≡ j → IsSlightForce l) → All (IsBorne bs) (directed_load i j m n k l)
left_borne bs i j m n k l f h si sj =
    go l.live (nat_eq k i) (nat_eq k j) (λ e. si (eqb-true k i e)) (λ e. sj (eqb-true k j e))
  where
    only : (l : Load) → IsBorne bs l → All (IsBorne bs) (l ∷ [])
    only l h = All-cons (IsBorne bs) l [] h (All-nil (IsBorne bs))

    go : (a p q : Bool) → (p ≡ true → IsSlightForce l) → (q ≡ true → IsSlightForce l) → All (IsBorne bs)
        (if a then (if p then times_load m l ∷ [] else (if q then times_load n l ∷ [] else [])) else l ∷ [])
    go true true q u v = only (times_load m l) (times_borne bs m l f.least_m f.most_m (u refl) h)
    go true false true u v = only (times_load n l) (times_borne bs n l f.least_n f.most_n (v refl) h)
    go true false false u v = All-nil (IsBorne bs)
    go false p q u v = only l h

left_few : (i j : ℕ) (m n : ℤ) (k : ℕ) (l : Load) → length (directed_load i j m n k l) ≤ 1
left_few i j m n k l = go l.live (nat_eq k i) (nat_eq k j)
  where
    go : (a p q : Bool) →
        length (if a then (if p then times_load m l ∷ [] else (if q then times_load n l ∷ [] else [])) else l ∷ []) ≤ 1
    go true true q = omega arith
    go true false true = omega arith
    go true false false = omega arith
    go false p q = omega arith

few : (i j : ℕ) (m n : ℤ) (k : ℕ) (ls : List Load) → length (directed_from i j m n k ls) ≤ length ls
few i j m n k [] = omega arith
few i j m n k (l ∷ ls) = omega (
  arith,
  length-append (directed_load i j m n k l) (directed_from i j m n (suc k) ls),
  left_few i j m n k l,
  few i j m n (suc k) ls,
)

all_borne : (bs : List NamedBody) (i j : ℕ) (m n : ℤ) (d : Load) → AreFactors m n → (k : ℕ) (ls : List Load) →
    ((x : ℕ) → x < length ls → IsBorne bs (get_or ls x d)) →
    ((x : ℕ) → x < length ls → k + x ≡ i → IsSlightForce (get_or ls x d)) →
    ((x : ℕ) → x < length ls → k + x ≡ j → IsSlightForce (get_or ls x d)) →
    All (IsBorne bs) (directed_from i j m n k ls)
all_borne bs i j m n d f k [] h si sj = All-nil (IsBorne bs)
all_borne bs i j m n d f k (l ∷ ls) h si sj =
    All-append (IsBorne bs) (directed_load i j m n k l) (directed_from i j m n (suc k) ls)
    (left_borne bs i j m n k l f (h 0 (omega arith)) (λ e. si 0 (omega arith) (omega (arith, e)))
    (λ e. sj 0 (omega arith) (omega (arith, e))))
    (all_borne bs i j m n d f (suc k) ls (λ x lt. h (suc x) (omega (arith, lt)))
    (λ x lt e. si (suc x) (omega (arith, lt)) (omega (arith, e)))
    (λ x lt e. sj (suc x) (omega (arith, lt)) (omega (arith, e))))

slight : (s : Structure) (i x : ℕ) → IsSlightLive s i → 0 + x ≡ i → IsSlightForce (load_of s x)
slight s i x h e = subst (λ k. IsSlightForce (load_of s k)) (same x i e) (record {
  least_fx = h.least_fx;
  most_fx = h.most_fx;
  least_fy = h.least_fy;
  most_fy = h.most_fy;
})
  where
    same : (x i : ℕ) → 0 + x ≡ i → i ≡ x
    same x i e = omega (arith, e)

pub directed_are_borne : (s : Structure) (i j : ℕ) (m n : ℤ) → IsSound s → ArePair s i j → AreFactors m n →
    MayBear s (directed_from i j m n 0 s.loads) (pos 0, pos 0)
directed_are_borne s i j m n sound pair f = record {
  few = omega (arith, few i j m n 0 s.loads, sound.few_loads);
  each = all_borne s.bodies i j m n stand_in f 0 s.loads
      (λ x lt. record { carried = sound.loads x lt; free = sound.free x lt })
      (λ x lt e. slight s i x pair.first e) (λ x lt e. slight s j x pair.second e);
  limits = record {
    least_x = omega (arith, ints);
    most_x = omega (arith, ints);
    least_y = omega (arith, ints);
    most_y = omega (arith, ints);
  };
  of_version = λ other. refl;
}
