use Rattle.std.proofs.Common.{ap, ◌∙◌, ◌≤◌, arith}
use borrow.Author.Count.{below_more}
use Rattle.stack_inverse.specs.Columns.{cells_at}
use Rattle.stack_inverse.specs.FirstTable.{sizes_in}
use Rattle.stack_inverse.proofs.Made.{cells_lent}
use Rattle.stack_inverse.proofs.building.column_top.Goals as goal

pub loop-j-preserved : goal.loop-j-preserved
loop-j-preserved c =
    let columns = c.args.columns.now in
    let larger = c.larger-top.ensures in
    let sizes = ap sizes_in (c.as_slice.ensures.value
    ∙ cells_lent columns c.loop-j.j c.index-columns-j.result c.loop-j-test.true) in
    record {
      some = omega (arith, c.loop-j.invariant.some, larger.own);
      top = below_more (λ k. sizes_in (cells_at columns k) ≤ c.larger-top.result) c.loop-j.j
          (λ k l. omega (arith, c.loop-j.invariant.top k l, larger.own))
          (omega (arith, sizes, c.in_ok-sizes_of.ensures, larger.other));
    }
