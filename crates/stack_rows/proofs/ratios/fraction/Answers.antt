use Rattle.std.proofs.Common.{sym, rules, ◌∙◌, pos, ◌<ℤ◌, arith, SFits, to_z-of_z}
use Rattle.stack_rational.proofs.Common.{ints, of, mul, inv, of-over}
use Rattle.std.specs.Int.{w128}
use Rattle.stack_rows.proofs.RatioSigns.{ratio_over}
use Rattle.stack_rows.proofs.ratios.fraction.Goals as goal

pub returns-in-Ok-quotient : goal.returns-in-Ok-quotient
returns-in-Ok-quotient c =
    let n : SFits w128 c.args.q.number = search rules in
    let d : SFits w128 c.args.q.under = search rules in
    let p : pos 0 <ℤ c.args.q.under = search rules in (
      p,
      c.in-Ok-quotient.ensures.ok
          ∙ (λ i. mul (inv (c.in-Ok-from_whole.ensures.ok i)) (c.in-Ok.ensures.ok i))
          ∙ (λ i. mul (inv (of (to_z-of_z d i))) (of (to_z-of_z n i)))
          ∙ (λ i. mul (inv (sym (of-over c.args.q.under) i)) (sym (of-over c.args.q.number) i))
          ∙ ratio_over c.args.q.number c.args.q.under (pos 1) (omega (arith, ints)) p,
    )
