use Rattle.std.proofs.Common.{subst, sym, ℕ}
use Rattle.stack_rational.proofs.Common.{IsGcd}
use Rattle.std.proofs.lemmas.Nat.Gcd.{IsGcd-from_zero}
use Rattle.stack_rational.proofs.OddDivisors.{odd_lesser, odd_step, step_falls}
use Rattle.stack_rational.proofs.halves.broad_divisor_of_odd.Goals as goal

pub steps-preserved : goal.steps-preserved
steps-preserved c = (
  odd_lesser c.steps.x c.broad_odd_part-part.result _ c.steps.invariant.0 c.broad_odd_part-part.ensures.odd
      c.min-x.ensures,
  λ n is. c.steps.invariant.1 n (odd_step c.steps.x c.steps.y c.broad_odd_part-part.result _ _ _ n c.steps.invariant.0
      c.broad_odd_part-part.ensures.product c.min-x.ensures c.abs_diff-y.ensures is),
)

pub steps-smaller : goal.steps-smaller
steps-smaller c = step_falls c.steps.x c.steps.y c.broad_odd_part-part.result _ _ _ c.steps.invariant.0
    c.broad_odd_part-part.ensures.odd c.broad_odd_part-part.ensures.product c.min-x.ensures c.abs_diff-y.ensures

pub returns-then-y-eq0 : goal.returns-then-y-eq0
returns-then-y-eq0 c = c.steps.invariant.1 c.steps.x (IsGcd-from_zero c.steps.x c.steps.y c.if-y-eq0.true)

pub returns : goal.returns
returns c = c.steps.invariant.1 c.from-2.result
    (subst (λ (n : ℕ). IsGcd c.steps.x c.steps.y n) (sym c.from-2.ensures) c.divisor_of_odd.ensures)
