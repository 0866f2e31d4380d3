use Rattle.std.proofs.Common.{refl, ◌∙◌, false, to_z-of_z}
use Rattle.stack_inverse.proofs.PutRow.{put_is}
use Rattle.stack_inverse.proofs.pivoting.put_row.Goals as goal

pub returns : goal.returns
returns c =
    put_is c.args.rows.now c.args.i _ c.requires.row_in c.args.numbers.now c.args.under false c.put.ensures.numbers
    (c.put.ensures.under ∙ to_z-of_z c.ranges.under) refl
