use Rattle.std.proofs.lemmas.Nat.Gcd.{IsGcd-from_zero}
use Rattle.stack_rational.proofs.OddDivisors.{odd_lesser, odd_step, step_falls}
use Rattle.stack_rational.proofs.halves.divisor_of_odd.Goals as goal

pub steps-preserved : goal.steps-preserved
steps-preserved c = (
  odd_lesser c.steps.x c.odd_part-part.result _ c.steps.invariant.0 c.odd_part-part.ensures.odd c.min-x.ensures,
  λ n is. c.steps.invariant.1 n (odd_step c.steps.x c.steps.y c.odd_part-part.result _ _ _ n c.steps.invariant.0
      c.odd_part-part.ensures.product c.min-x.ensures c.abs_diff-y.ensures is),
)

pub steps-smaller : goal.steps-smaller
steps-smaller c = step_falls c.steps.x c.steps.y c.odd_part-part.result _ _ _ c.steps.invariant.0
    c.odd_part-part.ensures.odd c.odd_part-part.ensures.product c.min-x.ensures c.abs_diff-y.ensures

pub returns : goal.returns
returns c = c.steps.invariant.1 c.steps.x (IsGcd-from_zero c.steps.x c.steps.y c.steps-test.false)
