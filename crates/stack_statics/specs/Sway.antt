-- The sway of a body: a live load of its weight times the sway, at its centroid, in sixths of a unit of force. It is
-- summed over the triangles that the first corner makes with the other edges, as the weight is.
use Rattle.std.specs.Prelude.{ℤ, pos, ◌+ℤ◌, ◌-ℤ◌, ◌*ℤ◌, List, [], ◌∷◌}
use Rattle.stack_polygon.specs.declared.point.Point.{Point}
use Rattle.stack_polygon.specs.Plane.{triangle_of}
use Rattle.stack_statics.specs.declared.wrench.Wrench.{Wrench}
use Rattle.stack_statics.specs.Loads.{no_load, sum_of_triangles, moment_of_triangle}

-- the y distances of p and q from o
abbrev pub heights_of : Point → Point → Point → ℤ
heights_of o p q = (p.y -ℤ o.y) +ℤ (q.y -ℤ o.y)

-- six times the first moment of a triangle's area about the level line through o: its centroid lies a third of
-- heights_of above o
abbrev pub level_moment_of_triangle : Point → Point → Point → ℤ
level_moment_of_triangle o p q = triangle_of o p q *ℤ heights_of o p q

-- the load of the sway (s.0, s.1) on a body with these corners and this weight per unit of area, about its first
-- corner
abbrev pub sway_load : ℤ × ℤ → ℤ → List Point → Wrench
sway_load s w [] = no_load
sway_load s w (o ∷ rest) = record {
  fx = pos 3 *ℤ (w *ℤ sum_of_triangles triangle_of o rest) *ℤ s.0;
  fy = pos 3 *ℤ (w *ℤ sum_of_triangles triangle_of o rest) *ℤ s.1;
  m = w *ℤ sum_of_triangles moment_of_triangle o rest *ℤ s.1
      -ℤ w *ℤ sum_of_triangles level_moment_of_triangle o rest *ℤ s.0;
}

-- the load by twice the area and six times the first moments about the lines through the first corner
abbrev pub sway_by : ℤ × ℤ → ℤ → ℤ → ℤ → ℤ → Wrench
sway_by s w twice_area about_y about_x = record {
  fx = w *ℤ (pos 3 *ℤ twice_area) *ℤ s.0;
  fy = w *ℤ (pos 3 *ℤ twice_area) *ℤ s.1;
  m = w *ℤ about_y *ℤ s.1 -ℤ w *ℤ about_x *ℤ s.0;
}
