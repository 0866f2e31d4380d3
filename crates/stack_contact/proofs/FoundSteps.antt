-- What is found grows pair by pair.
use mathlib.Core.Path.{◌≡◌}
use mathlib.Core.Logic.{◌⊎◌, inl, inr}
use mathlib.Core.List.{List, []}
use Prim.Native.Nat.{ℕ, suc, ◌<◌, ◌≤◌}
use native.Mathlib.Omega.{arith}
use native.Mathlib.Decide.{ℕ_discrete}
use lib.ListN.{length}
use Rattle.stack_polygon.specs.Limits.{IsPolygon}
use Rattle.stack_model.specs.Structure.{Structure}
use Rattle.stack_contact.specs.declared.types.Bearing.{Bearing}
use Rattle.stack_contact.specs.declared.types.Touch.{Touch}
use Rattle.stack_contact.specs.ContactLists.{corners_of, IsPair, PairBefore}
use Rattle.stack_contact.specs.Found.{AreFound, AreAllFound}
use Rattle.stack_contact.specs.NearPairs.{AreFar}
use Rattle.stack_contact.proofs.FarBodies.{far-separated, far-clear}

-- what is found stays so to another place: each pair before it was done, or has nothing in common
pub skipped : (s : Structure) → ((i : ℕ) → i < length s.bodies → IsPolygon (corners_of s i)) → (k l m n : ℕ)
    → ((i j : ℕ) → IsPair s i j → PairBefore i j k l → PairBefore i j m n)
    → ((i j : ℕ) → IsPair s i j → PairBefore i j m n → PairBefore i j k l ⊎ AreFar s i j)
    → (zs : List Bearing) (ts : List Touch)
    → AreFound s k l zs ts → AreFound s m n zs ts
skipped s polygons k l m n there back zs ts h = record {
  apart = λ i j p b. elim (back i j p b) [
    | inl d ↦ h.apart i j p d
    | inr f ↦ far-separated s i j (polygons i (let o = p.in_order in let w = p.is_body in omega arith))
        (polygons j p.is_body) f
  ];
  clear = λ i j p b. elim (back i j p b) [ inl d ↦ h.clear i j p d | inr f ↦ far-clear s i j f ];
  bearings = record {
    each = λ a z e. let r = h.bearings.each a z e in (r.0, there z.first z.second r.0.pair r.1);
    all = λ i j t X p b c. elim (back i j p b) [
      | inl d ↦ h.bearings.all i j t X p d c
      | inr f ↦ absurd (f X c.is_end.is_in)
    ];
    in_order = h.bearings.in_order;
  };
  touches = record {
    each = λ a z e. let r = h.touches.each a z e in (r.0, there z.first z.second r.0.pair r.1);
    all = λ i j X p b c. elim (back i j p b) [
      | inl d ↦ h.touches.all i j X p d c
      | inr f ↦ absurd (f X c.lone.common)
    ];
    in_order = h.touches.in_order;
  };
}

-- the pairs before the next one are those before this one, and this one
pub before-next : (a b i j : ℕ) → PairBefore a b i (suc j) → PairBefore a b i j ⊎ ((a ≡ i) × (b ≡ j))
before-next a b i j (inl l) = inl (inl l)
before-next a b i j (inr (e, l)) = go (split b j l)
  where
    split : (b j : ℕ) → b < suc j → (b < j) ⊎ (b ≡ j)
    split b j l = elim (ℕ_discrete b j) [ yes e ↦ inr e | no n ↦ inl (omega (arith, n)) ]

    go : (b < j) ⊎ (b ≡ j) → PairBefore a b i j ⊎ ((a ≡ i) × (b ≡ j))
    go (inl m) = inl (inr (e, m))
    go (inr f) = inr (e, f)

pub later : (a b i j : ℕ) → PairBefore a b i j → PairBefore a b i (suc j)
later a b i j (inl l) = inl l
later a b i j (inr (e, l)) = inr (e, omega arith)

pub this : (a b i j : ℕ) → a ≡ i → b ≡ j → PairBefore a b i (suc j)
this a b i j e f = inr (e, omega (arith, f))

-- at first nothing is found
pub start-found : (s : Structure) → AreFound s 0 1 [] []
start-found s = record {
  apart = λ i j p b. absurd (none i j p b);
  clear = λ i j p b. absurd (none i j p b);
  bearings = record {
    each = λ n z e. absurd (cc e);
    all = λ i j t X p b r. absurd (none i j p b);
    in_order = λ m n y z l e f. absurd (cc e);
  };
  touches = record {
    each = λ n z e. absurd (cc e);
    all = λ i j X p b r. absurd (none i j p b);
    in_order = λ m n y z l e f. absurd (cc e);
  };
}
  where
    none : (i j : ℕ) → IsPair s i j → PairBefore i j 0 1 → ⊥
    none i j p (inl l) = omega arith
    none i j p (inr (e, l)) = let o = p.in_order in omega arith

-- past the last body all is found
pub all-found : (s : Structure) (k l : ℕ) → (n : ℕ) → n ≡ length s.bodies → n ≤ k
    → (zs : List Bearing) (ts : List Touch) → AreFound s k l zs ts
    → AreAllFound s zs ts
all-found s k l n g m zs ts h = record {
  apart = λ i j p. h.apart i j p (before i j p);
  clear = λ i j p. h.clear i j p (before i j p);
  bearings = record {
    each = λ n z e. (h.bearings.each n z e).0;
    all = λ i j t X p r. h.bearings.all i j t X p (before i j p) r;
    in_order = h.bearings.in_order;
  };
  touches = record {
    each = λ n z e. (h.touches.each n z e).0;
    all = λ i j X p r. h.touches.all i j X p (before i j p) r;
    in_order = h.touches.in_order;
  };
}
  where
    before : (i j : ℕ) → IsPair s i j → PairBefore i j k l
    before i j p = let o = p.in_order in let w = p.is_body in inl (omega (arith, m))
