use Rattle.std.proofs.Common.{sym, ap, ◌∙◌, set, cond, eq-eqb, ne_eqb}
use Rattle.stack_rational.proofs.Common.{ℕ_discrete}
use Rattle.stack_table.specs.Block.{item_value}
use Rattle.stack_table.proofs.Blocks.{value_at-set_same, value_at-set_other, block_set}
use Rattle.stack_table.proofs.objective.set_cell.Goals as goal

pub returns-clause-block : goal.returns-clause-block
returns-clause-block g c =
    block_set g.S.Exact.exact g.S.Exact.MAX c.args.cells.now c.args.marks.now c.args.column c.args.cell
    c.is_zero.result
    c.requires.column_in c.requires.block c.is_zero.ensures c.requires.fits

pub returns-clause-ok : goal.returns-clause-ok
returns-clause-ok g c = λ j. elim (ℕ_discrete j c.args.column) [
  | yes d ↦ ap (item_value g.S.Exact.exact (set c.args.cells.now c.args.column c.args.cell)) d
      ∙ value_at-set_same g.S.Exact.exact c.args.cells.now c.args.column c.args.cell c.requires.column_in
      ∙ sym (ap (λ b. cond b (g.S.Exact.exact c.args.cell) (item_value g.S.Exact.exact c.args.cells.now j))
      (eq-eqb j c.args.column d))
  | no d ↦ value_at-set_other g.S.Exact.exact c.args.cells.now c.args.column j c.args.cell d
      ∙ sym (ap (λ b. cond b (g.S.Exact.exact c.args.cell) (item_value g.S.Exact.exact c.args.cells.now j))
      (ne_eqb j c.args.column d))
]
