use Rattle.std.proofs.Common.{◌≡◌, ◌≤◌, length, arith, rules, SFits, to_z-of_z}
use Rattle.stack_rational.proofs.Common.{w128}
use Rattle.stack_rows.specs.RowForm.{IsPartTopped}
use Rattle.stack_rows.proofs.Divided.{divided_on}
use Rattle.stack_rows.proofs.InWord.{beside_now}
use Rattle.stack_rows.proofs.Stepped.{still, joined_parts, joined_tops, all_divided, all_within}
use Rattle.stack_rows.proofs.stepping.divide.Goals as goal
use Rattle.stack_rows.proofs.stepping.divide.Goals.{After-divide_by-reached}

-- a top of all numbers that are made
topped : (c : After-divide_by-reached) → IsPartTopped 0 c.divide_by-reached.result.end c.divide_by-reached.new.numbers
    c.divide_by-reached.result.size
topped c =
    let s = c.divide_by-reached.ensures.stepped in
    joined_tops c.args.numbers.now c.divide_by-reached.new.numbers c.args.from.end c.divide_by-reached.result.end
    c.args.from.size c.divide_by-reached.result.size s.larger c.requires.topped s.written.before s.topped

pub divide_on-requires-clause-beside : goal.divide_on-requires-clause-beside
divide_on-requires-clause-beside c = beside_now _ _ _ _ _ _ _ _ c.requires.beside _ _ _ c.divide_by-reached.auto.numbers
    c.divide_by-reached.ensures.stepped

pub divide_on-requires-clause-fit : goal.divide_on-requires-clause-fit
divide_on-requires-clause-fit c = λ e j l.
    let s = c.divide_by-reached.ensures.stepped in
    rw (s.written.after j l) (c.requires.fit e j (omega (arith, l, s.begun)))

pub returns-then-count-reached-clause-ok : goal.returns-then-count-reached-clause-ok
returns-then-count-reached-clause-ok c = λ old w.
    let s = c.divide_by-reached.ensures.stepped in
    let n = c.divide_by-reached.result.end in
    let b = c.requires.beside in
    let by : SFits w128 c.args.s.now.divider.by = search rules in
    let long : length c.divide_by-reached.new.numbers ≤ n = omega (arith, c.divide_by-reached.auto.numbers) in
    rw (to_z-of_z by)
    (all_divided old c.args.other.now c.divide_by-reached.new.numbers _ _ _ n (omega (arith, b.width, long)) long
    (joined_parts old c.args.other.now c.args.numbers.now c.divide_by-reached.new.numbers _ _ _ c.args.from.end n
    s.begun w s.written))

pub returns-then-count-reached-clause-top : goal.returns-then-count-reached-clause-top
returns-then-count-reached-clause-top c = all_within c.divide_by-reached.new.numbers c.divide_by-reached.result.end
    c.divide_by-reached.result.size (omega (arith, c.divide_by-reached.auto.numbers, c.if-count-reached.true))
    (topped (goal.at.returns-then-count-reached-clause-top c).After-divide_by-reached)

pub returns-then-count-reached-clause-marked : goal.returns-then-count-reached-clause-marked
returns-then-count-reached-clause-marked c = still _ _ _ _ _ _ _ _ _ _ _ c.divide_by-reached.ensures.stepped
    c.divide_by-reached.auto.numbers c.requires.beside.own

pub returns-clause-ok : goal.returns-clause-ok
returns-clause-ok c = λ old w.
    let s = c.divide_by-reached.ensures.stepped in
    let b = c.requires.beside in
    let made = c.divide_by-reached.new.numbers in
    let n = length made in
    let by : SFits w128 c.in_ok-by.by = search rules in
    let long : n ≡ length c.args.numbers.now = omega (arith, c.divide_by-reached.auto.numbers) in
    rw (to_z-of_z by)
    (divided_on old c.args.other.now made c.divide_on.new.numbers _ _ _ _ c.divide_by-reached.result.end n
    (joined_parts old c.args.other.now c.args.numbers.now made _ _ _ c.args.from.end c.divide_by-reached.result.end
    s.begun w s.written)
    c.in_ok-by.ensures.ok (omega arith) (omega (arith, b.width, long)) (omega arith)
    (omega (arith, c.divide_on.auto.numbers)))

pub returns-clause-top : goal.returns-clause-top
returns-clause-top c = all_within c.divide_on.new.numbers (length c.divide_on.new.numbers) _ (omega arith)
    (λ j a b. c.top_of-top.ensures j a (omega (arith, b)))
