use Rattle.std.proofs.Common.{◌≡◌, ◌≤◌, length, arith, rules, pos, SFits, to_z-of_z, w64}
use Rattle.stack_rows.specs.EntriesSeen.{entries_of}
use Rattle.stack_rows.proofs.Stepped.{all_divided, all_within}
use Rattle.stack_rows.proofs.entries.Entries.step_small.Goals as goal

pub returns-then-step-eq1-clause-divided : goal.returns-then-step-eq1-clause-divided
returns-then-step-eq1-clause-divided c = λ j.
    let one : c.args.step.now.times ≡ pos 1 = search rules in
    let less : SFits w64 c.args.step.now.less = search rules in
    rw one (rw (to_z-of_z less) at (c.step_listed-top.ensures.divided j))

pub returns-then-count-reached-clause-divided : goal.returns-then-count-reached-clause-divided
returns-then-count-reached-clause-divided c =
    let made = c.step_marked-reached in
    let own : length (entries_of made.new.self) ≤ made.result.end = omega (
      arith,
      c.count-count.ensures.count,
      c.if-count-reached.true,
    ) in
    let other : length (entries_of c.args.pivot.now.row.entries) ≤ made.result.end = omega (
      arith,
      own,
      c.requires.width,
      made.ensures.width,
    ) in
    all_divided (entries_of c.args.self.now) (entries_of c.args.pivot.now.row.entries) (entries_of made.new.self) _ _ _
    made.result.end other own made.ensures.stepped.written

pub returns-then-count-reached-clause-top : goal.returns-then-count-reached-clause-top
returns-then-count-reached-clause-top c =
    let made = c.step_marked-reached in
    let own : length (entries_of made.new.self) ≤ made.result.end = omega (
      arith,
      c.count-count.ensures.count,
      c.if-count-reached.true,
    ) in
    all_within (entries_of made.new.self) made.result.end made.result.size own made.ensures.stepped.topped
