use Rattle.std.proofs.Common.{sym, subst, rules, SFits, to_z-of_z, w64}
use Rattle.stack_polygon.specs.Limits.{IsNear}
use Rattle.stack_equilibrium.proofs.force.arm_of.Goals as goal

pub returns-clause-size : goal.returns-clause-size
returns-clause-size c =
    let at_x : SFits w64 c.args.at.x = search rules in
    let at_y : SFits w64 c.args.at.y = search rules in
    let corner_x : SFits w64 c.args.corner.x = search rules in
    let corner_y : SFits w64 c.args.corner.y = search rules in
    record {
      lx = c.step.ensures.size (subst IsNear (sym (to_z-of_z at_x)) c.requires.at.x)
          (subst IsNear (sym (to_z-of_z corner_x)) c.requires.corner.x);
      ly = c.step-2.ensures.size (subst IsNear (sym (to_z-of_z at_y)) c.requires.at.y)
          (subst IsNear (sym (to_z-of_z corner_y)) c.requires.corner.y);
    }
