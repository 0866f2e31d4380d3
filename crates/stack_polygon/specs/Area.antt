-- Area and first moments, as sums over the fan of triangles from the first corner.
use mathlib.Core.List.{List}
use Prim.Native.Nat.{◌+◌, ◌-◌}
use lib.IntN.{ℤ, ◌+ℤ◌, ◌*ℤ◌}
use lib.ListN.{length}
use Rattle.stack_algebra.specs.Sums.{sum_to}
use Rattle.stack_polygon.specs.declared.point.Point.{Point}
use Rattle.stack_polygon.specs.Plane.{triangle_of}
use Rattle.stack_polygon.specs.Corners.{corner_of}

-- the sum of g over the triangles (O, P_i, P_(i+1)), where O is the first corner
abbrev pub fan_of : (Point → Point → Point → ℤ) → List Point → ℤ
fan_of g ps = sum_to (length ps - 2) (λ i. g (corner_of ps 0) (corner_of ps (i + 1)) (corner_of ps (i + 2)))

-- twice the area of a polygon whose corners are listed counter-clockwise
abbrev pub twice_area_of : List Point → ℤ
twice_area_of ps = fan_of triangle_of ps

-- six times the first moment about the y axis of a triangle is twice its area times the sum of its corners' x
abbrev pub moment_about_y_of : Point → Point → Point → ℤ
moment_about_y_of o p q = triangle_of o p q *ℤ (o.x +ℤ p.x +ℤ q.x)

-- six times the first moment about the x axis of a triangle is twice its area times the sum of its corners' y
abbrev pub moment_about_x_of : Point → Point → Point → ℤ
moment_about_x_of o p q = triangle_of o p q *ℤ (o.y +ℤ p.y +ℤ q.y)

-- six times the first moments of a polygon, about the y axis and about the x axis
abbrev pub six_moments_of : List Point → ℤ × ℤ
six_moments_of ps = (fan_of moment_about_y_of ps, fan_of moment_about_x_of ps)
