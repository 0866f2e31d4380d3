-- Corners in range: the test and the fact, and the list in the other order.
use mathlib.Core.Path.{◌≡◌, refl, sym, ap, subst}
use mathlib.Core.Bool.{Bool, true, false, ◌&&◌}
use mathlib.Core.List.{List, [], ◌∷◌}
use Prim.Native.Nat.{zero, suc, ◌<◌, ◌-◌}
use native.Mathlib.Omega.{arith}
use lib.IntN.{ℤ}
use lib.ListN.{length}
use Rattle.stack_algebra.proofs.Conjunctions.{both_true}
use Rattle.std.proofs.lemmas.Int.{ints}
use Rattle.std.proofs.lemmas.List.{length-reverse, get_or-reverse}
use Rattle.std.proofs.lemmas.List.Folds.{list_all_at}
use Rattle.stack_polygon.specs.declared.point.Point.{Point}
use Rattle.stack_polygon.specs.Corners.{origin, corner_of, reversed}
use Rattle.stack_polygon.specs.Limits.{IsNear, IsInRange, is_near, is_in_range, are_in_range, AreInRange}

near : (z : ℤ) → is_near z ≡ true → IsNear z
near z h = record { low = grind (arith, ints); high = grind (arith, ints) }

pub in_range : (c : Point) → is_in_range c ≡ true → IsInRange c
in_range c h = let p = both_true (is_near c.x) (is_near c.y) h in record { x = near c.x p.0; y = near c.y p.1 }

-- a coordinate in range passes the test
to_near : (z : ℤ) → IsNear z → is_near z ≡ true
to_near z h = let low = h.low in let high = h.high in grind (arith, ints)

pub to_range : (c : Point) → IsInRange c → is_in_range c ≡ true
to_range c h = λ i. to_near c.x h.x i && to_near c.y h.y i

pub to_all_in_range : (ps : List Point) → AreInRange ps → are_in_range ps ≡ true
to_all_in_range [] h = refl
to_all_in_range (p ∷ ps) h = λ i. to_range p (h 0 (omega arith)) i && to_all_in_range ps
    (λ j l. h (suc j) (omega arith)) i

pub all_in_range : (ps : List Point) → are_in_range ps ≡ true → AreInRange ps
all_in_range ps h i lt = go (is_in_range (corner_of ps i)) refl
  where
    go : (b : Bool) → is_in_range (corner_of ps i) ≡ b → IsInRange (corner_of ps i)
    go true e = in_range (corner_of ps i) e
    go false e = let f = list_all_at is_in_range ps i origin lt e in absurd (cc)

pub length-reversed : (ps : List Point) → length (reversed ps) ≡ length ps
length-reversed [] = refl
length-reversed (p ∷ ps) = ap suc (length-reverse ps)

pub range-reversed : (ps : List Point) → AreInRange ps → AreInRange (reversed ps)
range-reversed [] h = h
range-reversed (p ∷ ps) h = go
  where
    go : AreInRange (reversed (p ∷ ps))
    go zero l = h zero (omega arith)
    go (suc k) l = let below : k < length ps = omega (arith, length-reverse ps) in
        subst IsInRange (sym (get_or-reverse ps k origin below)) (h (suc (length ps - 1 - k)) (omega arith))
