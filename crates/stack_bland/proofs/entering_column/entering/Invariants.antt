use Rattle.std.proofs.Common.{◌≡◌, None}
use Rattle.stack_rational.proofs.Common.{ordered_fractions}
use Rattle.stack_table.specs.Seen.{shape_of_table, table_of}
use Rattle.stack_bland.specs.Choice.{entering}
use Rattle.stack_bland.proofs.entering_column.entering.Given as goal

abbrev pub invariant-loop-j : goal.invariant-loop-j
invariant-loop-j g l = entering ordered_fractions (shape_of_table l.t) (table_of l.t) l.j ≡ None
