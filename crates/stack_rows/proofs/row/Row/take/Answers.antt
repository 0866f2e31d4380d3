use Rattle.std.proofs.Common.{arith}
use Rattle.stack_rows.proofs.Casts.{lesser_small}
use Rattle.stack_rows.proofs.row.Row.take.Goals as goal

pub take_small_over-requires-clause-small : goal.take_small_over-requires-clause-small
take_small_over-requires-clause-small c = λ j l.
    let f = c.args.factors in
    let row = c.args.self.now.topped j (omega (arith, l)) in
    let pivot = c.args.pivot.now.row.topped j (omega (arith, l, c.requires)) in
    rw (c.in-Some.ensures.times, c.in-Some.ensures.less)
    (lesser_small f.times f.less row pivot c.in-Some.ensures.small)
