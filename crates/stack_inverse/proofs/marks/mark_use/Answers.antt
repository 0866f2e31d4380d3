use Rattle.std.proofs.Common.{◌≢◌, sym, ap, ◌∙◌, get_or, pos, arith}
use Rattle.std.proofs.lemmas.List.{get_or_default}
use Rattle.std.proofs.lemmas.List.Elements.{recursion_from_All}
use Rattle.stack_rational.proofs.Common.{ℕ_discrete}
use Rattle.stack_inverse.specs.declared.columns.Cell.{Cell}
use Rattle.stack_inverse.specs.Marks.{mark_at}
use Rattle.stack_inverse.proofs.marks.mark_use.Goals as goal

pub loop-cell-preserved : goal.loop-cell-preserved
loop-cell-preserved c =
    let i = c.loop-cell.invariant in
    let told = c.mark_place.ensures in
    let cells = c.args.cells.now in
    record {
      wide = told.wide _ i.wide;
      kept = λ k n was. told.kept k n (i.kept k n was);
      marked = λ k d f l. elim (ℕ_discrete k c.loop-cell.cell-index) [
        | yes e ↦ λ z. told.marked
            (ap (λ (x : Cell). mark_at c.mark_place.new.lists x.row c.args.j)
            (get_or_default cells c.loop-cell.cell-index (record { row = 0; value = pos 0 }) d c.loop-cell-test.true
            ∙ ap (λ q. get_or cells q d) (sym e)) ∙ z)
        | no n ↦ told.kept _ c.args.j (i.marked k d f (omega (arith, l, n)))
      ];
    }

pub returns-clause-marked : goal.returns-clause-marked
returns-clause-marked c = recursion_from_All (λ (x : Cell). mark_at c.loop-cell.uses x.row c.args.j ≢ 0)
    c.args.cells.now
    (λ k d l. c.loop-cell.invariant.marked k d (omega arith) (omega (arith, l, c.loop-cell-test.false)))
