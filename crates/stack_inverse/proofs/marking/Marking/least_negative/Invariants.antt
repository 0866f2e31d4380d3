use Rattle.std.proofs.Common.{◌≡◌, ℕ, ◌-◌, ◌<◌, ◌≤◌, false}
use Rattle.stack_algebra.specs.Ordered.{sign_of}
use Rattle.stack_bland.specs.Choice.{is_negative_sign}
use Rattle.stack_inverse.specs.RowsSeen.{seen_at, number_in_row}
use Rattle.stack_inverse.specs.Marking.{AreMarks}
use Rattle.stack_inverse.proofs.marking.Marking.least_negative.Given as goal

abbrev pub invariant-loop-j : goal.invariant-loop-j
invariant-loop-j l = record {
  marks : AreMarks l.first (seen_at l.rows) l.self;
  within : l.j ≤ l.end;
  none : (k : ℕ) → k < l.j →
      is_negative_sign (sign_of (number_in_row l.first (seen_at l.rows l.first.rows) k)) ≡ false;
}

abbrev pub decreases-loop-j : goal.decreases-loop-j
decreases-loop-j l = l.end - l.j
