use Rattle.std.proofs.Common.{◌≡◌, ap, ◌∙◌, ◌/◌, suc, length, arith, rules, ◌*ℤ◌, SFits, to_z, of_z, to_z-of_z}
use Rattle.stack_rational.proofs.Common.{w128}
use Rattle.stack_rows.specs.RowForm.{number_at, IsDividedOn, AreMarked, AreBeside}
use Rattle.stack_rows.proofs.Divided.{turned}
use Rattle.stack_rows.proofs.Stepped.{still}
use Rattle.stack_rows.proofs.stepping.divide_on.Goals as goal
use Rattle.stack_rows.proofs.stepping.divide_on.Goals.{After-of-step, After-divide_by-j}

-- the numbers that are multiplied stand beside the other row as before
beside : (c : After-of-step) → AreBeside c.multiply_before.new.numbers c.args.other.now c.args.marks.now
beside c =
    let old = c.requires.beside in
    let more = c.multiply_before.new.numbers in
    let long : length more ≡ length c.args.numbers.now = omega (
      arith,
      c.multiply_before.auto.numbers,
      c.loop.auto.numbers,
    ) in
    record {
      width = omega (arith, old.width, long);
      few = omega (arith, old.few, long);
      long = old.long ∙ ap (λ n. suc (n / 64)) (omega (arith, long));
      own = record {
        nothing = λ j z. c.multiply_before.ensures.kept j (c.loop.invariant.marked.nothing j z);
        within = λ j l. old.own.within j (omega (arith, l, long));
      };
      other = old.other;
    }

pub divide_by-j-requires-clause-beside : goal.divide_by-j-requires-clause-beside
divide_by-j-requires-clause-beside c = beside (goal.at.divide_by-j-requires-clause-beside c).After-of-step

pub divide_by-j-requires-clause-fit : goal.divide_by-j-requires-clause-fit
divide_by-j-requires-clause-fit c = λ e j l.
    let same : number_at c.multiply_before.new.numbers j ≡ number_at c.args.numbers.now j =
    c.in_ok-multiply_before.ensures.numbers.after j l ∙ c.loop.invariant.divided.after j l in
    rw (same, c.of-step.ensures.factors) (c.requires.fit e j (omega (arith, l, c.loop.invariant.begun)))

-- the numbers after one turn more
after : (c : After-divide_by-j) → IsDividedOn c.args.numbers.now c.args.other.now c.args.s.now.factors.times
    c.args.s.now.factors.less c.args.s.now.divider.by (to_z w128 (of_z w128 c.lesser-lesser.result)) c.args.from
    c.divide_by-j.result.end c.divide_by-j.new.numbers
after c =
    let s = c.args.s.now in
    let lesser = to_z w128 (of_z w128 c.lesser-lesser.result) in
    let by = to_z w128 c.loop.by-bits in
    let made = c.divide_by-j.ensures.stepped in
    let part : SFits w128 c.in_ok-exact.field-0 = search rules in
    let whole : to_z w128 (of_z w128 c.in_ok-exact.field-0) *ℤ lesser ≡ by = cc (
      to_z-of_z part,
      c.in_ok-exact.ensures,
    ) in
    turned c.args.numbers.now c.args.other.now c.loop.numbers c.multiply_before.new.numbers
    c.divide_by-j.new.numbers s.factors.times s.factors.less s.divider.by by
    (to_z w128 (of_z w128 c.in_ok-exact.field-0)) lesser whole c.loop.invariant.begun made.begun
    c.loop.invariant.divided c.in_ok-multiply_before.ensures.numbers
    (rw (c.of-step.ensures.factors, c.of-step.ensures.by) at made.written)

-- and their marks
marked : (c : After-divide_by-j) → AreBeside c.multiply_before.new.numbers c.args.other.now c.args.marks.now →
    AreMarked c.divide_by-j.new.numbers c.args.marks.now
marked c b = still _ _ _ _ _ _ _ _ _ _ _ c.divide_by-j.ensures.stepped c.divide_by-j.auto.numbers b.own

pub loop-preserved : goal.loop-preserved
loop-preserved c =
    let p = (goal.at.loop-preserved c).After-divide_by-j in
    record {
      begun = omega arith;
      room = omega arith;
      divided = after p;
      marked = marked p (beside (goal.at.loop-preserved c).After-of-step);
    }

pub returns-then-count-j-clause-ok : goal.returns-then-count-j-clause-ok
returns-then-count-j-clause-ok c =
    let end : c.divide_by-j.result.end ≡ length c.args.numbers.now = omega arith in
    rw end at (after (goal.at.returns-then-count-j-clause-ok c).After-divide_by-j)
