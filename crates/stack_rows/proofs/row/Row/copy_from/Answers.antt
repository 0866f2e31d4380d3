use Rattle.std.proofs.Common.{List, ℤ, [], ◌∷◌, ◌++◌, sym, subst, rules, SFits, to_z-of_z}
use Rattle.stack_rational.proofs.Common.{w128}
use Rattle.stack_rows.specs.RowForm.{AreWithinTop}
use Rattle.stack_rows.specs.EntriesSeen.{entries_of}
use Rattle.stack_rows.proofs.Sided.{topped, within_top, without_sides}
use Rattle.stack_rows.proofs.row.Row.copy_from.Goals as goal

pub copy_from-requires : goal.copy_from-requires
copy_from-requires c =
    let s = c.args.self.now in
    let o = c.args.other.now in
    without_sides (entries_of s.entries) (entries_of o.entries) s.right o.right c.requires

pub invariant_of-self-clause-topped : goal.invariant_of-self-clause-topped
invariant_of-self-clause-topped c =
    let o = c.args.other.now in
    topped (entries_of c.copy_from.new.self) _ o.top
    (subst (λ (xs : List ℤ). AreWithinTop xs o.top) (sym c.copy_from.ensures)
    (within_top (entries_of o.entries) o.right o.top o.topped))

pub returns-clause-numbers : goal.returns-clause-numbers
returns-clause-numbers c =
    let right : SFits w128 c.args.other.now.right = search rules in
    λ i. c.copy_from.ensures i ++ to_z-of_z right i ∷ []
