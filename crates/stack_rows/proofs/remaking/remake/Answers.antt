use Rattle.std.proofs.Common.{◌≡◌, ◌<◌, length, arith, rules, ℤ, ◌*ℤ◌, ◌-ℤ◌, SFits, to_z, of_z, to_z-of_z}
use Rattle.stack_rational.proofs.Common.{w128, dec_lt}
use Rattle.stack_rows.specs.RowForm.{number_at}
use Rattle.stack_rows.proofs.Numbers.{at-past}
use Rattle.stack_rows.proofs.Written.{written_more}
use Rattle.stack_rows.proofs.Apart.{nothing}
use Rattle.stack_rows.proofs.remaking.remake.Goals as goal

pub loop-j-preserved : goal.loop-j-preserved
loop-j-preserved g c =
    let s = c.args.cells.now in
    let i = c.loop-j.invariant in
    let j = c.loop-j.j in
    let xs = c.loop-j.numbers in
    let x : ℤ = to_z w128 (of_z w128 c.in_ok-numbers.field-0) in
    let room : j < length xs = omega (arith, c.loop-j-test.true, c.loop-j.auto.numbers) in
    let own : SFits w128 (number_at xs j) = search rules in
    let other : SFits w128 (number_at c.args.pivot.now j) = search rules in
    let number : SFits w128 c.in_ok-numbers.field-0 = search rules in
    let here : x *ℤ g.C.Cells.over s ≡ (number_at c.args.numbers.now j *ℤ g.C.Cells.times s
    -ℤ g.C.Cells.less s *ℤ number_at c.args.pivot.now j) *ℤ to_z w128 (of_z w128 c.args.common) = cc (
      to_z-of_z own,
      to_z-of_z other,
      to_z-of_z number,
      i.after j (omega arith),
      c.in_ok-numbers.ensures,
    ) in
    written_more xs x (omega arith) room i here

pub returns : goal.returns
returns g c = λ j. elim (dec_lt j (length c.args.numbers.now)) [
  | yes l ↦ rw (to_z-of_z c.ranges.common) at (c.loop-j.invariant.part j (omega arith)
      (omega (arith, l, c.loop-j-test.false)))
  | no l ↦ nothing _ _ _ _ _ _ _ (at-past c.loop-j.numbers j (omega (arith, l, c.loop-j.auto.numbers)))
      (at-past c.args.numbers.now j (omega (arith, l))) (at-past c.args.pivot.now j (omega (arith, l, c.requires)))
]
