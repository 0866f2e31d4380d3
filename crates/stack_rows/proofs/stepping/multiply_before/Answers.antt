use Rattle.std.proofs.Common.{◌≡◌, sym, ap, ◌∙◌, ◌<◌, length, set, arith, rules, ℤ, ◌*ℤ◌, SFits}
use Rattle.std.proofs.Common.{to_z, of_z, to_z-of_z}
use lib.IntN.{zero-*ℤ}
use Rattle.stack_rational.proofs.Common.{w128, ℕ_discrete}
use Rattle.stack_rows.specs.RowForm.{number_at}
use Rattle.stack_rows.proofs.Numbers.{at-set_same, at-set_other}
use Rattle.stack_rows.proofs.Written.{written_more}
use Rattle.stack_rows.proofs.stepping.multiply_before.Goals as goal

pub loop-j-preserved : goal.loop-j-preserved
loop-j-preserved c =
    let i = c.loop-j.invariant in
    let j = c.loop-j.j in
    let xs = c.loop-j.numbers in
    let x : ℤ = to_z w128 (of_z w128 c.in_ok-numbers.field-0) in
    let by : ℤ = to_z w128 (of_z w128 c.args.by) in
    let room : j < length xs = omega (arith, c.loop-j-test.true, c.loop-j.auto.numbers, c.requires) in
    let own : SFits w128 (number_at xs j) = search rules in
    let number : SFits w128 c.in_ok-numbers.field-0 = search rules in
    let here : x ≡ number_at c.args.numbers.now j *ℤ by = cc (
      to_z-of_z own,
      to_z-of_z number,
      i.written.after j (omega arith),
      c.in_ok-numbers.ensures.1,
    ) in
    record {
      written = written_more xs x (omega arith) room i.written here;
      kept = λ k z. elim (ℕ_discrete k j) [
        | yes e ↦ ap (number_at (set xs j x)) e ∙ at-set_same xs j x room ∙ here
            ∙ ap (λ n. n *ℤ by) (ap (number_at c.args.numbers.now) (sym e) ∙ z) ∙ zero-*ℤ by
        | no d ↦ at-set_other xs j k x d ∙ i.kept k z
      ];
    }
