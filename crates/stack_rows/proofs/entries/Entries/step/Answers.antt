use Rattle.std.proofs.Common.{◌≤◌, length, arith, rules, SFits, to_z-of_z}
use Rattle.stack_rational.proofs.Common.{w128}
use Rattle.stack_rows.specs.EntriesSeen.{entries_of}
use Rattle.stack_rows.proofs.Stepped.{all_divided}
use Rattle.stack_rows.proofs.entries.Entries.step.Goals as goal

pub returns-then-count-reached-clause-ok : goal.returns-then-count-reached-clause-ok
returns-then-count-reached-clause-ok c =
    let made = c.step_words-reached in
    let by : SFits w128 c.args.s.now.divider.by = search rules in
    let own : length (entries_of made.new.self) ≤ made.result.end = omega (
      arith,
      c.count-count.ensures.count,
      c.if-count-reached.true,
    ) in
    let other : length (entries_of c.args.other.now) ≤ made.result.end = omega (
      arith,
      own,
      c.requires.width,
      made.ensures.width,
    ) in
    rw (to_z-of_z by)
    (all_divided (entries_of c.args.self.now) (entries_of c.args.other.now) (entries_of made.new.self) _ _ _
    made.result.end other own made.ensures.stepped.written)
