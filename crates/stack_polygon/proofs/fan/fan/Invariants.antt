use Rattle.std.proofs.Common.{◌≡◌}
use Rattle.stack_polygon.specs.Plane.{triangle_of}
use Rattle.stack_polygon.specs.Area.{moment_about_y_of, moment_about_x_of}
use Rattle.stack_polygon.specs.Sizes.{AreTriangleSums}
use Rattle.stack_polygon.proofs.Fans.{fan_to}
use Rattle.stack_polygon.proofs.fan.fan.Given as goal

abbrev pub invariant-loop-i : goal.invariant-loop-i
invariant-loop-i l = record {
  area : l.sums.area ≡ fan_to triangle_of l.corners l.i;
  about_y : l.sums.about_y ≡ fan_to moment_about_y_of l.corners l.i;
  about_x : l.sums.about_x ≡ fan_to moment_about_x_of l.corners l.i;
  size : AreTriangleSums l.i l.sums;
}
