use Rattle.std.proofs.Common.{sym, subst, ◌∙◌, List}
use Rattle.stack_rational.proofs.Common.{Fraction}
use Rattle.stack_extract.specs.WholeLists.{whole_list, NonePulls}
use Rattle.stack_extract.proofs.Made.{few_contacts, ray_list_is, ray_length, rates_push}
use Rattle.stack_extract.proofs.forces.ray_at.Goals as goal

pub ray_numbers-requires-clause-few : goal.ray_numbers-requires-clause-few
ray_numbers-requires-clause-few g c = few_contacts c.requires.end.1 c.within.ensures.survey.few

pub from_list-requires-clause-count : goal.from_list-requires-clause-count
from_list-requires-clause-count g c = ray_length (g.L.LastTable.table c.args.t.now) c.args.column c.requires.end.1
    c.deref.result.now (c.deref.ensures.value ∙ c.in_ok-list.ensures)

pub from_list-requires-clause-pushes : goal.from_list-requires-clause-pushes
from_list-requires-clause-pushes g c =
    let T = g.L.LastTable.table c.args.t.now in
    subst (λ (xs : List Fraction). NonePulls (whole_list xs))
    (sym (ray_list_is T c.args.column c.requires.end.1 c.deref.result.now
    (c.deref.ensures.value ∙ c.in_ok-list.ensures)))
    (rates_push T c.args.column c.certified_laws.ensures.pushes c.requires.end.1)
