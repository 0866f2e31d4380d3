use Rattle.std.proofs.Common.{rules, ◌*ℤ◌, ◌-ℤ◌, SFits, to_z-of_z, w64}
use Rattle.stack_rows.proofs.Casts.{left, right, small_step_fits}
use Rattle.stack_rows.proofs.Combined.{over_one}
use Rattle.stack_rows.proofs.ways.SmallStepWordWay.quotient.Goals as goal

pub overflow_sub-result : goal.overflow_sub-result
overflow_sub-result c =
    let a = c.args.number in
    let b = c.args.other in
    let s = c.args.self.now in
    let times : SFits w64 s.times = search rules in
    let less : SFits w64 s.less = search rules in
    rw (
      to_z-of_z c.ranges.number,
      to_z-of_z times,
      to_z-of_z less,
      to_z-of_z c.ranges.other,
      to_z-of_z (left a b s.times s.less c.requires),
      to_z-of_z (right a b s.times s.less c.requires),
    )
    (small_step_fits a b s.times s.less c.requires)

pub returns : goal.returns
returns c =
    let a = c.args.number in
    let b = c.args.other in
    let s = c.args.self.now in
    let times : SFits w64 s.times = search rules in
    let less : SFits w64 s.less = search rules in
    rw (
      to_z-of_z c.ranges.number,
      to_z-of_z times,
      to_z-of_z less,
      to_z-of_z c.ranges.other,
      to_z-of_z (left a b s.times s.less c.requires),
      to_z-of_z (right a b s.times s.less c.requires),
      to_z-of_z (small_step_fits a b s.times s.less c.requires),
    ) (over_one (a *ℤ s.times -ℤ s.less *ℤ b))
