use Rattle.std.proofs.Common.{refl, true}
use Rattle.stack_rows.specs.RowSeen.{numbers_of}
use Rattle.stack_inverse.proofs.PutRow.{put_is}
use Rattle.stack_inverse.proofs.pivoting.put_pivot.Goals as goal

pub returns : goal.returns
returns c =
    let q = c.args.pivot.now in
    put_is c.args.rows.now c.args.i _ c.requires.row_in (numbers_of q) q.under true c.copy_from.ensures.numbers
    c.copy_from.ensures.under refl
