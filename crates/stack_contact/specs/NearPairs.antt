-- The pairs that the survey looks at: those that a sweep along x meets. The other pairs have no point in common.
use Rattle.std.specs.Prelude.{◌≡◌, ℕ, ◌<◌, ◌≤◌, ◌⊎◌, pos, List, length, get_or}
use Rattle.std.specs.List.{All, Contains}
use Rattle.stack_algebra.specs.IntegerOrder.{◌≼◌}
use Rattle.stack_polygon.specs.Plane.{Triple}
use Rattle.stack_polygon.specs.Corners.{corner_of}
use Rattle.stack_polygon.specs.Limits.{IsPolygon}
use Rattle.stack_polygon.specs.Spans.{IsLeast}
use Rattle.stack_overlap.specs.Separation.{IsCommon}
use Rattle.stack_model.specs.Structure.{Structure}
use Rattle.stack_contact.specs.declared.sweeping.Placed.{Placed}
use Rattle.stack_contact.specs.declared.sweeping.Pair.{Pair}
use Rattle.stack_contact.specs.ContactLists.{corners_of, IsPair, PairBefore}

-- a body with the least x of its corners
pub record IsPlacedBody (s : Structure) (b : Placed) : Type 0 where
  pub is_body : b.body < length s.bodies
  pub polygon : IsPolygon (corners_of s b.body)
  pub begins : IsLeast (length (corners_of s b.body)) (λ j. (corner_of (corners_of s b.body) j).x) b.x0

-- item k of a list of placed bodies; past the end stands one that means nothing
abbrev pub placed_at : List Placed → ℕ → Placed
placed_at bs k = get_or bs k (record { x0 = pos 0; body = 0 })

-- the number of the body at index k
abbrev pub placed_body : List Placed → ℕ → ℕ
placed_body bs k = (placed_at bs k).body

-- all bodies, by the least x of their corners
pub record AreFromLeft (s : Structure) (bs : List Placed) : Type 0 where
  pub each : All (IsPlacedBody s) bs
  pub all : (i : ℕ) → i < length s.bodies → (k : ℕ) × ((k < length bs) × (placed_body bs k ≡ i))
  pub rising : (k m : ℕ) → k ≤ m → m < length bs → (placed_at bs k).x0 ≼ (placed_at bs m).x0

-- no point is common to two bodies
abbrev pub AreFar : Structure → ℕ → ℕ → Type 0
AreFar s i j = (X : Triple) → ¬ (IsCommon (corners_of s i) (corners_of s j) X)

-- a pair of two bodies, in order
pub record IsPairOf (one other : ℕ) (p : Pair) : Type 0 where
  pub in_order : p.first < p.second
  pub bodies : ((p.first ≡ one) × (p.second ≡ other)) ⊎ ((p.first ≡ other) × (p.second ≡ one))

-- bodies i and j, in this order
abbrev pub pair : ℕ → ℕ → Pair
pair i j = record { first = i; second = j }

-- the bodies are no pair, or have nothing in common, or stand in the list
abbrev pub IsListed : Structure → List Pair → ℕ → ℕ → Type 0
IsListed s ps i j = IsPair s i j → AreFar s i j ⊎ Contains ps (pair i j)

-- each item is two bodies in order, not both fixed
abbrev pub ArePairs : Structure → List Pair → Type 0
ArePairs s ps = All (λ (p : Pair). IsPair s p.first p.second) ps

-- the list qs is ps with the pair of two bodies, where they may meet
pub record IsSwept (s : Structure) (one other : ℕ) (ps qs : List Pair) : Type 0 where
  pub pairs : ArePairs s ps → ArePairs s qs
  pub keeps : (p : Pair) → Contains ps p → Contains qs p
  pub forth : IsListed s qs one other
  pub back : IsListed s qs other one

-- the sweep has looked at the bodies a, b from the left with a below k, or a = k and b below m
pub record AreSwept (s : Structure) (bs : List Placed) (k m : ℕ) (ps : List Pair) : Type 0 where
  pub pairs : ArePairs s ps
  pub forth : (a b : ℕ) → a < b → b < length bs → PairBefore a b k m
      → IsListed s ps (placed_body bs a) (placed_body bs b)
  pub back : (a b : ℕ) → a < b → b < length bs → PairBefore a b k m
      → IsListed s ps (placed_body bs b) (placed_body bs a)

-- all pairs but those that have nothing in common
pub record AreNearPairs (s : Structure) (ps : List Pair) : Type 0 where
  pub pairs : ArePairs s ps
  pub all : (i j : ℕ) → IsListed s ps i j

-- the pairs stand by first and second body, each once
abbrev pub IsOrdered : List Pair → Type 0
IsOrdered ps = (m n : ℕ) (d : Pair) → m < n → n < length ps →
    PairBefore (get_or ps m d).first (get_or ps m d).second (get_or ps n d).first (get_or ps n d).second
