use Rattle.std.proofs.Common.{◌≡◌, ℕ, ◌<◌, map, length, get_or, [], false}
use Rattle.stack_inverse.specs.Columns.{cells_at}
use Rattle.stack_inverse.specs.FirstTable.{HasCosts}
use Rattle.stack_inverse.proofs.building.contact_columns.Given as goal

abbrev pub invariant-loop-j : goal.invariant-loop-j
invariant-loop-j l = record {
  long : length l.columns.items ≡ l.j;
  costs : (k : ℕ) → k < l.j → HasCosts (length l.p.right.items) l.p.right.items false
      (get_or (map (λ c. c.entries.items) l.p.contact.items) k []) (cells_at l.columns.items k);
}
