use Rattle.std.proofs.Common.{refl, add-one, length}
use Rattle.stack_inverse.proofs.TurnedColumns.{with_last}
use Rattle.stack_inverse.proofs.building.factor_cells.Goals as goal

pub returns : goal.returns
returns c = with_last (length c.args.right.now) c.args.right.now c.args.entries.now c.in_ok-cells.cells.items
    c.push.new.self.items _ c.in_ok-cells.ensures (add-one (length c.args.right.now)) refl c.in_ok-push.ensures.items
