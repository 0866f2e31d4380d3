use Rattle.std.proofs.Common.{ap, arith, nat_abs, pos}
use Rattle.std.proofs.lemmas.List.{length_push}
use Rattle.stack_rows.specs.EntriesSeen.{entries_of}
use Rattle.stack_rows.proofs.Sided.{topped, zeros_sided}
use Rattle.stack_rows.proofs.row.Row.zeros.Goals as goal

pub invariant_of-result-clause-topped : goal.invariant_of-result-clause-topped
invariant_of-result-clause-topped c = topped (entries_of c.in_ok-entries.entries) _ 0
    (λ j. omega (arith, ap nat_abs (c.in_ok-entries.ensures.zeros j)))

pub returns-clause-width : goal.returns-clause-width
returns-clause-width c = omega (
  arith,
  c.in_ok-entries.ensures.long,
  c.requires,
  length_push (entries_of c.in_ok-entries.entries) (pos 0),
)

pub returns-clause-zeros : goal.returns-clause-zeros
returns-clause-zeros c = zeros_sided (entries_of c.in_ok-entries.entries) c.in_ok-entries.ensures.zeros
