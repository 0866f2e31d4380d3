use Rattle.std.proofs.Common.{sym, subst, ◌∙◌, List}
use Rattle.stack_rational.proofs.Common.{Fraction}
use Rattle.stack_extract.specs.WholeLists.{whole_list, NonePulls}
use Rattle.stack_extract.proofs.Made.{few_contacts, forces_list_is, forces_length, forces_push}
use Rattle.stack_extract.proofs.forces.forces_at.Goals as goal

pub forces_numbers-requires : goal.forces_numbers-requires
forces_numbers-requires g c = few_contacts c.requires.end.1 c.within.ensures.survey.few

pub from_list-requires-clause-count : goal.from_list-requires-clause-count
from_list-requires-clause-count g c = forces_length (g.L.LastTable.table c.args.t.now) c.requires.end.1
    c.deref.result.now (c.deref.ensures.value ∙ c.in_ok-list.ensures)

pub from_list-requires-clause-pushes : goal.from_list-requires-clause-pushes
from_list-requires-clause-pushes g c =
    let T = g.L.LastTable.table c.args.t.now in
    subst (λ (xs : List Fraction). NonePulls (whole_list xs))
    (sym (forces_list_is T c.requires.end.1 c.deref.result.now (c.deref.ensures.value ∙ c.in_ok-list.ensures)))
    (forces_push T c.args.kind c.certified_laws.ensures.pushes c.requires.end.1 c.requires.forces)
