-- The loads of a body, as wrenches about its first corner, in sixths of a unit of force: in sixths every
-- weight is whole.
-- A body's weight is summed over the triangles that its first corner makes with its other edges, with their
-- signs.
use mathlib.Core.List.{List, [], ◌∷◌}
use Prim.Native.Nat.{ℕ}
use lib.IntN.{ℤ, pos, ◌+ℤ◌, ◌-ℤ◌, ◌*ℤ◌, neg_ℤ}
use Rattle.stack_algebra.specs.Sums.{sum_to}
use Rattle.stack_polygon.specs.declared.point.Point.{Point}
use Rattle.stack_polygon.specs.Plane.{triangle_of}
use Rattle.stack_statics.specs.declared.wrench.Wrench.{Wrench}

-- neither a force nor a moment
abbrev pub no_load : Wrench
no_load = record { fx = pos 0; fy = pos 0; m = pos 0 }

-- two wrenches together, about one point
abbrev pub wrench_sum : Wrench → Wrench → Wrench
wrench_sum v w = record { fx = v.fx +ℤ w.fx; fy = v.fy +ℤ w.fy; m = v.m +ℤ w.m }

-- a wrench times a number
abbrev pub wrench_times : ℤ → Wrench → Wrench
wrench_times c w = record { fx = c *ℤ w.fx; fy = c *ℤ w.fy; m = c *ℤ w.m }

-- the sum of n wrenches about one point
abbrev pub total_of : ℕ → (ℕ → Wrench) → Wrench
total_of n w = record {
  fx = sum_to n (λ k. (w k).fx);
  fy = sum_to n (λ k. (w k).fy);
  m = sum_to n (λ k. (w k).m);
}

-- the x distances of p and q from o
abbrev pub distances_of : Point → Point → Point → ℤ
distances_of o p q = (p.x -ℤ o.x) +ℤ (q.x -ℤ o.x)

-- a number of each triangle (o, p, q), summed over the edges (p, q) of a chain of corners
abbrev pub sum_of_triangles : (Point → Point → Point → ℤ) → Point → List Point → ℤ
sum_of_triangles f o [] = pos 0
sum_of_triangles f o (p ∷ []) = pos 0
sum_of_triangles f o (p ∷ q ∷ rest) = f o p q +ℤ sum_of_triangles f o (q ∷ rest)

-- six times the moment of a triangle's weight, of one unit per area, about o: its area is half of
-- triangle_of, and its centroid lies a third of distances_of right of o
abbrev pub moment_of_triangle : Point → Point → Point → ℤ
moment_of_triangle o p q = triangle_of o p q *ℤ distances_of o p q

-- the weight of a body with these corners and this weight per unit of area, about its first corner
abbrev pub weight_of : ℤ → List Point → Wrench
weight_of w [] = no_load
weight_of w (o ∷ rest) = record {
  fx = pos 0;
  fy = neg_ℤ (pos 3 *ℤ (w *ℤ sum_of_triangles triangle_of o rest));
  m = neg_ℤ (w *ℤ sum_of_triangles moment_of_triangle o rest);
}

-- six times the wrench about o of the force (f, g) at a point
abbrev pub load_wrench : Point → Point → ℤ → ℤ → Wrench
load_wrench o at f g = record {
  fx = pos 6 *ℤ f;
  fy = pos 6 *ℤ g;
  m = pos 6 *ℤ ((at.x -ℤ o.x) *ℤ g -ℤ (at.y -ℤ o.y) *ℤ f);
}

-- a wrench about c, as a wrench about o
abbrev pub moved : Point → Point → Wrench → Wrench
moved c o w = record { fx = w.fx; fy = w.fy; m = w.m +ℤ ((c.x -ℤ o.x) *ℤ w.fy -ℤ (c.y -ℤ o.y) *ℤ w.fx) }
