-- Amounts of the edges of the bearings' cones: of q*normal + p*tangent and of q*normal - p*tangent.
use Rattle.std.specs.Prelude.{◌≡◌, ℕ, ◌<◌, ℤ, pos, ◌+ℤ◌, ◌-ℤ◌, ◌*ℤ◌, Bool, true, false}
use Rattle.stack_algebra.specs.Sums.{sum_to}
use Rattle.stack_algebra.specs.IntegerOrder.{◌≼◌}
use Rattle.stack_statics.specs.declared.wrench.Wrench.{Wrench}
use Rattle.stack_statics.specs.Scene.{SceneBearing, BearingPart, Scene, IsProper}
use Rattle.stack_statics.specs.Balance.{bearing_side, force_x_of, force_y_of, moment_of, edge_of_cone}
use Rattle.stack_statics.specs.Balance.{exerted_on, IsAdmissible}

-- an amount of each edge at each bearing
pub record Amounts : Type 0 where
  pub plus : ℕ → ℤ
  pub minus : ℕ → ℤ

-- no amount of an edge is negative
pub record ArePushes (s : Scene) (x : Amounts) : Type 0 where
  pub plus : (k : ℕ) → k < s.bearings → pos 0 ≼ x.plus k
  pub minus : (k : ℕ) → k < s.bearings → pos 0 ≼ x.minus k

-- what an edge of bearing k exerts on body i
abbrev pub edge_on : Scene → Bool → ℕ → ℕ → Wrench
edge_on s plus k i = exerted_on s i (s.bearing k) (edge_of_cone (s.bearing k) plus)

-- a part of what all edges in these amounts exert on body i: its force along x or y, or its moment
abbrev pub edges_sum : (Wrench → ℤ) → Scene → Amounts → ℕ → ℤ
edges_sum share s x i = sum_to s.bearings
    (λ k. x.plus k *ℤ share (edge_on s true k i) +ℤ x.minus k *ℤ share (edge_on s false k i))

-- w of the one edge and v of the other together
abbrev pub part_between : SceneBearing → ℤ → ℤ → BearingPart
part_between z w v = record { a = z.q *ℤ (w +ℤ v); b = z.p *ℤ (w -ℤ v) }

-- what bearing k bears, by the amounts of its two edges
abbrev pub part_from : Scene → Amounts → ℕ → BearingPart
part_from s x k = part_between (s.bearing k) (x.plus k) (x.minus k)

-- the sums of the edges are the contact part of the three sums of body i, for the parts between them
pub record IsExerted (s : Scene) (x : Amounts) (i : ℕ) : Type 0 where
  pub along_x : edges_sum (λ w. w.fx) s x i
      ≡ sum_to s.bearings (λ k. bearing_side i (s.bearing k) *ℤ force_x_of (s.bearing k) (part_from s x k))
  pub along_y : edges_sum (λ w. w.fy) s x i
      ≡ sum_to s.bearings (λ k. bearing_side i (s.bearing k) *ℤ force_y_of (s.bearing k) (part_from s x k))
  pub about : edges_sum (λ w. w.m) s x i
      ≡ sum_to s.bearings (λ k. bearing_side i (s.bearing k) *ℤ moment_of (s.body i) (s.bearing k) (part_from s x k))

-- on each body all edges together exert what the parts between them do
abbrev pub EdgesExertTheirPart : Type 0
EdgesExertTheirPart = (s : Scene) (x : Amounts) (i : ℕ) → IsExerted s x i

-- in a proper scene amounts that aren't negative make parts that push and stay within their cones
abbrev pub PartsBetweenEdgesAreAdmissible : Type 0
PartsBetweenEdgesAreAdmissible = (s : Scene) (x : Amounts) → IsProper s → ArePushes s x →
    IsAdmissible s (part_from s x)
