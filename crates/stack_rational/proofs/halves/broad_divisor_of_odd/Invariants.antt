use Rattle.std.proofs.Common.{◌≡◌, ◌%◌, ◌+◌, ℕ}
use Rattle.stack_rational.proofs.Common.{IsGcd}
use Rattle.stack_rational.proofs.halves.broad_divisor_of_odd.Given as goal

abbrev pub invariant-steps : goal.invariant-steps
invariant-steps l = (l.x % 2 ≡ 1) × ((n : ℕ) → IsGcd l.x l.y n → IsGcd l.fn.odd l.fn.other n)

abbrev pub decreases-steps : goal.decreases-steps
decreases-steps l = l.x + l.y
