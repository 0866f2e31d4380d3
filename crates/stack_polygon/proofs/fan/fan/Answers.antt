use Rattle.stack_polygon.specs.Plane.{triangle_of}
use Rattle.stack_polygon.specs.Area.{moment_about_y_of, moment_about_x_of}
use Rattle.stack_polygon.proofs.Fans.{fan_more}
use Rattle.stack_polygon.proofs.fan.fan.Goals as goal

pub loop-i-preserved : goal.loop-i-preserved
loop-i-preserved c =
    let so_far = c.loop-i.invariant in
    let one = c.of_triangle-one.ensures in
    let more = c.plus-sums.ensures in record {
      area = fan_more triangle_of c.args.corners.now c.loop-i.i _ _ _ so_far.area one.area more.area;
      about_y = fan_more moment_about_y_of c.args.corners.now c.loop-i.i _ _ _ so_far.about_y one.about_y more.about_y;
      about_x = fan_more moment_about_x_of c.args.corners.now c.loop-i.i _ _ _ so_far.about_x one.about_x more.about_x;
      size = more.size;
    }
