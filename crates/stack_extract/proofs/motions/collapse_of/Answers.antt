use Rattle.std.proofs.Common.{length, ap, ◌∙◌}
use Rattle.stack_rational.proofs.Common.{length_listed}
use Rattle.stack_extract.specs.WrittenLists.{collapse_number}
use Rattle.stack_extract.proofs.motions.collapse_of.Goals as goal

pub from_list-requires-clause-listed : goal.from_list-requires-clause-listed
from_list-requires-clause-listed g c = ap length (c.deref.ensures.value ∙ c.in_ok-list.ensures.ok)
    ∙ length_listed (g.L.LastTable.shape c.args.t.now).rows
    (collapse_number (g.L.LastTable.shape c.args.t.now) (g.L.LastTable.table c.args.t.now))
    ∙ c.requires
