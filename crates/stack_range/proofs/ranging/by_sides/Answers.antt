use Rattle.stack_range.specs.Ranged.{between, end_view}
use Rattle.stack_range.proofs.Printable.{printable}
use Rattle.stack_range.proofs.Sides.{never_falls, both_ends, least_refused}
use Rattle.stack_range.proofs.ranging.by_sides.Goals as goal

pub unreachable-requires : goal.unreachable-requires
unreachable-requires c = never_falls c.range_laws.ensures.reversal c.args.s.now
    c.in_ok-other.other c.in-Ok-Ends.field-0 c.in-Ok-Falls-judge_side.field-0 c.in-Ok-Ends.end
    c.in-Ok-Falls-judge_side.field-0-0 c.in-Ok-Ends.field-0-is c.in-Ok-Falls-judge_side.field-0-is
    c.in_ok-other.ensures c.in-Ok-Ends.ensures.judged c.in-Ok-Falls-judge_side.ensures.judged

pub returns-in-Ok-Ends-judge_side-clause-exact : goal.returns-in-Ok-Ends-judge_side-clause-exact
returns-in-Ok-Ends-judge_side-clause-exact c = both_ends c.range_laws.ensures.exact c.args.s.now c.in_ok-other.other
    c.in-Ok-Ends.field-0 c.in-Ok-Ends-judge_side.field-0 c.in-Ok-Ends.end c.in-Ok-Ends-judge_side.least
    c.in-Ok-Ends.field-0-is c.in-Ok-Ends-judge_side.field-0-is c.in_ok-other.ensures c.in-Ok-Ends.ensures.judged
    c.in-Ok-Ends-judge_side.ensures.judged

pub returns-in-Err-judge_side-clause-by_sides : goal.returns-in-Err-judge_side-clause-by_sides
returns-in-Err-judge_side-clause-by_sides c = least_refused c.args.s.now c.in_ok-other.other c.args.budget
    c.in-Ok-Ends.field-0 c.in-Ok-Ends.end c.in-Err-judge_side.error c.in-Ok-Ends.field-0-is c.in_ok-other.ensures
    c.in-Ok-Ends.ensures.judges c.in-Err-judge_side.ensures.judges

pub returns-in-Ok-Ends-judge_side-clause-printable : goal.returns-in-Ok-Ends-judge_side-clause-printable
returns-in-Ok-Ends-judge_side-clause-printable c = printable c.args.s.now
    (between (end_view c.in-Ok-Ends-judge_side.least) (end_view c.in-Ok-Ends.end))
    (returns-in-Ok-Ends-judge_side-clause-exact c)
