-- A structure has one survey: its lists of contacts are told by their items, and their items by their points.
use Rattle.std.proofs.Common.{arith, Some, slice_get, Ok, Err}
use mathlib.Core.Path.{◌≡◌, refl, sym, ap, ◌∙◌, subst}
use mathlib.Core.Logic.{◌⊎◌, inl, inr}
use mathlib.Core.List.{List}
use Prim.Native.Nat.{ℕ, ◌<◌, ◌≤◌}
use lib.IntN.{ℤ, pos, ◌*ℤ◌}
use lib.ListN.{length}
use Rattle.std.proofs.lemmas.Int.{ints}
use Rattle.stack_polygon.specs.declared.point.Point.{Point}
use Rattle.stack_polygon.specs.Plane.{IsAt}
use Rattle.stack_overlap.proofs.Identities.{place}
use Rattle.stack_model.specs.Structure.{Structure}
use Rattle.stack_contact.specs.declared.types.Bearing.{Bearing}
use Rattle.stack_contact.specs.declared.types.Touch.{Touch}
use Rattle.stack_contact.specs.declared.types.SurveyError.TheVariants.{Overlap, TooManyBearings, Memory}
use Rattle.stack_contact.specs.ContactLists.{friction_between, PairBefore, AreBearings, AreTouches}
use Rattle.stack_contact.specs.Surveyed.{IsFirstOverlap}
use Rattle.stack_contact.specs.OneSurvey.{StructuresHaveOneSurvey}
use Rattle.stack_contact.proofs.SameLists.{same-list}

place-at : (c : Point) → IsAt (place c) c
place-at c = record { x = one c.x; y = one c.y }
  where
    one : (x : ℤ) → x ≡ x *ℤ pos 1
    one x = omega (arith, ints)

same-point : (a b : Point) → IsAt (place a) b → a ≡ b
same-point a b h = λ i. record { x = (h.x ∙ one b.x) i; y = (h.y ∙ one b.y) i }
  where
    one : (x : ℤ) → x *ℤ pos 1 ≡ x
    one x = omega (arith, ints)

module _ (s : Structure) where
  bearings-within : (zs ws : List Bearing) → AreBearings s zs → AreBearings s ws
      → (k : ℕ) (z : Bearing) → slice_get zs k ≡ Some z → (m : ℕ) × (slice_get ws m ≡ Some z)
  bearings-within zs ws h g k z e =
      let b = h.each k z e in
      let r = g.all z.first z.second z.frame (place z.at) b.pair (b.bears (place z.at) (place-at z.at)) in (
        r.0,
        subst (λ y. slice_get ws r.0 ≡ Some y) (same r.1 z r.2.1.first r.2.1.second r.2.1.along
            (sym (same-point z.at (r.1).at r.2.1.at)) (g.each r.0 r.1 r.2.0).friction b.friction) r.2.0,
      )
    where
      same : (w z : Bearing) → w.first ≡ z.first → w.second ≡ z.second → w.frame ≡ z.frame → w.at ≡ z.at
          → w.cone ≡ friction_between s w.first w.second → z.cone ≡ friction_between s z.first z.second → w ≡ z
      same w z a b c d e f = λ i. record {
        first = a i;
        second = b i;
        at = d i;
        frame = c i;
        cone = (e ∙ (λ j. friction_between s (a j) (b j)) ∙ sym f) i;
      }

  one-bearings : (zs ws : List Bearing) → AreBearings s zs → AreBearings s ws → zs ≡ ws
  one-bearings zs ws h g = same-list (λ (z : Bearing). z.first) (λ z. z.second) (λ z. z.at) zs ws h.in_order
      g.in_order (bearings-within zs ws h g) (bearings-within ws zs g h)

  touches-within : (zs ws : List Touch) → AreTouches s zs → AreTouches s ws
      → (k : ℕ) (z : Touch) → slice_get zs k ≡ Some z → (m : ℕ) × (slice_get ws m ≡ Some z)
  touches-within zs ws h g k z e =
      let b = h.each k z e in
      let r = g.all z.first z.second (place z.at) b.pair (b.touches (place z.at) (place-at z.at)) in (
        r.0,
        subst (λ y. slice_get ws r.0 ≡ Some y) (same r.1 z r.2.1.first r.2.1.second
            (sym (same-point z.at (r.1).at r.2.1.at))) r.2.0,
      )
    where
      same : (w z : Touch) → w.first ≡ z.first → w.second ≡ z.second → w.at ≡ z.at → w ≡ z
      same w z a b c = λ i. record { first = a i; second = b i; at = c i }

  one-touches : (zs ws : List Touch) → AreTouches s zs → AreTouches s ws → zs ≡ ws
  one-touches zs ws h g = same-list (λ (z : Touch). z.first) (λ z. z.second) (λ z. z.at) zs ws h.in_order
      g.in_order (touches-within zs ws h g) (touches-within ws zs g h)

compare-pairs : (i j k l : ℕ) → PairBefore i j k l ⊎ (PairBefore k l i j ⊎ ((i ≡ k) × (j ≡ l)))
compare-pairs i j k l = grind arith

too-many : (n c : ℕ) (m : ℕ) → n ≡ m → m ≡ c → n ≤ 1024 → 1024 < c → ⊥
too-many n c m e f l h = omega arith

one-overlap : (s : Structure) (i j k l : ℕ) → IsFirstOverlap s i j → IsFirstOverlap s k l → (i ≡ k) × (j ≡ l)
one-overlap s i j k l h g = go (compare-pairs i j k l)
  where
    go : PairBefore i j k l ⊎ (PairBefore k l i j ⊎ ((i ≡ k) × (j ≡ l))) → (i ≡ k) × (j ≡ l)
    go (inl p) = absurd (h.overlaps (g.first i j h.pair p))
    go (inr (inl p)) = absurd (g.overlaps (h.first k l g.pair p))
    go (inr (inr e)) = e

pub one-survey : StructuresHaveOneSurvey
one-survey s (Err Memory) b h g = inl refl
one-survey s (Ok v) (Err Memory) h g = inr (inl refl)
one-survey s (Err (Overlap i j)) (Err Memory) h g = inr (inl refl)
one-survey s (Err (TooManyBearings c)) (Err Memory) h g = inr (inl refl)
one-survey s (Ok v) (Ok w) h g = inr (inr (λ i. Ok (record {
  structure = (h.structure ∙ sym g.structure) i;
  bearings = one-bearings s v.bearings w.bearings h.bearings g.bearings i;
  touches = one-touches s v.touches w.touches h.touches g.touches i;
})))
one-survey s (Ok v) (Err (Overlap i j)) h g = absurd (g.overlaps (h.apart i j g.pair))
one-survey s (Ok v) (Err (TooManyBearings c)) h g = absurd (too-many (length v.bearings) c (length g.bearings)
    (ap length (one-bearings s v.bearings g.bearings h.bearings g.are_all)) g.counted h.few g.many)
one-survey s (Err (Overlap i j)) (Ok v) h g = absurd (h.overlaps (g.apart i j h.pair))
one-survey s (Err (Overlap i j)) (Err (Overlap k l)) h g = let e = one-overlap s i j k l h g in
    inr (inr (λ n. Err (Overlap (e.0 n) (e.1 n))))
one-survey s (Err (Overlap i j)) (Err (TooManyBearings c)) h g = absurd (h.overlaps (g.apart i j h.pair))
one-survey s (Err (TooManyBearings c)) (Ok v) h g = absurd (too-many (length v.bearings) c (length h.bearings)
    (ap length (one-bearings s v.bearings h.bearings g.bearings h.are_all)) h.counted g.few h.many)
one-survey s (Err (TooManyBearings c)) (Err (Overlap i j)) h g = absurd (g.overlaps (h.apart i j g.pair))
one-survey s (Err (TooManyBearings c)) (Err (TooManyBearings d)) h g =
    inr (inr (λ n. Err (TooManyBearings ((sym h.counted ∙ ap length (one-bearings s h.bearings g.bearings
    h.are_all g.are_all) ∙ g.counted) n))))
