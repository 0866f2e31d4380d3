use Rattle.std.proofs.Common.{◌<◌, sym, ap, subst₂, ℕ, List, length, arith}
use Rattle.std.specs.List.{AllByRecursion}
use Rattle.stack_inverse.specs.declared.columns.FirstColumn.{FirstColumn}
use Rattle.stack_inverse.specs.Columns.{multipliers, cells_at}
use Rattle.stack_inverse.proofs.Entered.{rises_of, cells_below}
use Rattle.stack_inverse.proofs.marks.uses_of.Goals as goal

pub mark_uses-requires-clause-rows : goal.mark_uses-requires-clause-rows
mark_uses-requires-clause-rows c = λ j l.
    let f = c.args.first.now in
    let columns = c.as_slice.ensures.value in
    subst₂ (λ (n : ℕ) (cs : List FirstColumn). AllByRecursion (λ x. x.row < n) (cells_at cs j))
    (omega (
      arith,
      ap length c.as_mut_slice.ensures.value,
      c.loop.invariant.long,
      c.loop-test.false,
      c.loop.auto.counter-end,
    ))
    (sym columns)
    (cells_below (multipliers f.rows) 0 (cells_at f.columns.items j)
    (rises_of (multipliers f.rows) 0 _ (f.first.rising j (omega (arith, l, ap length columns)))))
