use Rattle.std.proofs.Common.{sym, ◌∙◌, arith}
use Rattle.stack_directions.proofs.DirectionLists.{begun, read_on, too_many, stopped, closed, empty, is_read, faulty}
use Rattle.stack_directions.proofs.directions.read_directions.Goals as goal

pub returns-then-is_empty-clause-gives : goal.returns-then-is_empty-clause-gives
returns-then-is_empty-clause-gives c = empty _ (sym c.is_empty.ensures ∙ c.if-is_empty.true)

pub returns-then-is_empty-clause-reads : goal.returns-then-is_empty-clause-reads
returns-then-is_empty-clause-reads c = faulty _ _ (returns-then-is_empty-clause-gives c)

pub loop-rest-init : goal.loop-rest-init
loop-rest-init c = (
  begun _ _ c.new-directions.ensures.items (sym c.is_empty.ensures ∙ c.if-is_empty.false),
  omega arith,
)

pub returns-then-number-gt-MOST_DIRECTIONS-clause-gives : goal.returns-then-number-gt-MOST_DIRECTIONS-clause-gives
returns-then-number-gt-MOST_DIRECTIONS-clause-gives c =
    too_many _ _ _ _ c.if-number-gt-MOST_DIRECTIONS.true (sym c.is_empty-in-loop-rest.ensures ∙ c.loop-rest-test.true)
    c.loop-rest.invariant.0

pub returns-then-number-gt-MOST_DIRECTIONS-clause-reads : goal.returns-then-number-gt-MOST_DIRECTIONS-clause-reads
returns-then-number-gt-MOST_DIRECTIONS-clause-reads c =
    faulty _ _ (returns-then-number-gt-MOST_DIRECTIONS-clause-gives c)

pub returns-in-None-clause-gives : goal.returns-in-None-clause-gives
returns-in-None-clause-gives c =
    stopped _ _ _ _ _ _ c.if-number-gt-MOST_DIRECTIONS.false c.cut_line.ensures.cut c.in-None.ensures.none
    c.loop-rest.invariant.0

pub returns-in-None-clause-reads : goal.returns-in-None-clause-reads
returns-in-None-clause-reads c = faulty _ _ (returns-in-None-clause-gives c)

pub loop-rest-preserved : goal.loop-rest-preserved
loop-rest-preserved c =
    let read = read_on _ _ _ _ _ _ c.in-Some.direction c.if-number-gt-MOST_DIRECTIONS.false c.cut_line.ensures.cut
    c.in-Some.ensures.some c.loop-rest.invariant.0 in
    (rw c.in_ok-push-in-Some.ensures.items read, omega (arith, c.loop-rest.invariant.1, c.cut_line.ensures.shorter))

pub returns-clause-gives : goal.returns-clause-gives
returns-clause-gives c = closed _ _ _ _ (sym c.is_empty-in-loop-rest.ensures ∙ c.loop-rest-test.false)
    c.loop-rest.invariant.0

pub returns-clause-reads : goal.returns-clause-reads
returns-clause-reads c = is_read _ _ (returns-clause-gives c)
