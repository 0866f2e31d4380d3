use Rattle.std.proofs.Common.{sym, subst, ◌∙◌, ◌<◌, arith}
use Rattle.stack_rational.proofs.Common.{get_or_default}
use Rattle.stack_table.specs.Block.{shape_of}
use Rattle.stack_table.specs.Table.{columns}
use Rattle.stack_table.proofs.table.Table.basic.Goals as goal

pub index-requires : goal.index-requires
index-requires g c = let s = c.args.self.now in omega (arith, c.requires, s.basics, s.basic.ok.0)

pub returns-clause-value : goal.returns-clause-value
returns-clause-value g c =
    let s = c.args.self.now in
    c.index.ensures ∙ get_or_default s.basic.items c.args.i c.index.result.now 0 (omega (arith, c.requires, s.basics))

pub returns-clause-below : goal.returns-clause-below
returns-clause-below g c =
    let s = c.args.self.now in
    subst (λ n. n < columns (shape_of s.rows s.contacts s.has_factor)) (sym (returns-clause-value g c))
    (s.basics_in c.args.i c.requires)
