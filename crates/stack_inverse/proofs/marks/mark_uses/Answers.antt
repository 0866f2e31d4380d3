use Rattle.std.proofs.Common.{◌≢◌, ◌<◌, sym, subst, subst₂, ◌∙◌, ℕ, List, below_more}
use Rattle.std.specs.List.{AllByRecursion}
use Rattle.stack_inverse.specs.declared.columns.Cell.{Cell}
use Rattle.stack_inverse.specs.Columns.{cells_at}
use Rattle.stack_inverse.specs.Marks.{mark_at}
use Rattle.stack_inverse.proofs.Made.{cells_lent}
use Rattle.stack_inverse.proofs.Marked.{all_have}
use Rattle.stack_inverse.proofs.marks.mark_uses.Goals as goal

pub mark_use-requires-clause-rows : goal.mark_use-requires-clause-rows
mark_use-requires-clause-rows c =
    let j = c.loop-j.j in
    let cells = c.as_slice.ensures.value
    ∙ cells_lent c.args.columns.now j c.index-columns-j.result c.loop-j-test.true in
    subst₂ (λ (n : ℕ) (xs : List Cell). AllByRecursion (λ x. x.row < n) xs) (sym c.loop-j.auto.uses) (sym cells)
    (c.requires.rows j c.loop-j-test.true)

pub loop-j-preserved : goal.loop-j-preserved
loop-j-preserved c =
    let i = c.loop-j.invariant in
    let j = c.loop-j.j in
    let new = c.mark_use.new.uses in
    let cells = c.as_slice.ensures.value
    ∙ cells_lent c.args.columns.now j c.index-columns-j.result c.loop-j-test.true in
    record {
      wide = c.mark_use.ensures.wide;
      marked = below_more _ _
          (λ k l. all_have (λ r. mark_at c.loop-j.uses r k ≢ 0) (λ r. mark_at new r k ≢ 0)
          (cells_at c.args.columns.now k) (λ r. c.mark_use.ensures.kept r k) (i.marked k l))
          (subst (λ (xs : List Cell). AllByRecursion (λ x. mark_at new x.row j ≢ 0) xs) cells
          c.mark_use.ensures.marked);
    }
