use Rattle.std.proofs.Common.{◌≡◌, ◌<◌, refl, ap, length, arith}
use Rattle.stack_rows.specs.Marks.{mark_in}
use Rattle.stack_inverse.proofs.Marked.{list_lent, list_put, wide_put}
use Rattle.stack_inverse.proofs.marks.fill_lists.Goals as goal

pub loop-r-preserved : goal.loop-r-preserved
loop-r-preserved c =
    let i = c.loop-r.invariant in
    let lists = c.loop-r.lists in
    let r = c.loop-r.r in
    let d = c.index-lists-r.result in
    let new = c.fill.new.self in
    let lt : r < length lists = omega (arith, c.loop-r-test.true, c.loop-r.auto.lists) in
    record {
      wide = λ w h. wide_put lists r d new lt c.fill.ensures.long refl w (i.wide w h);
      each = λ w k j h l b. list_put lists r d new lt c.fill.ensures.long refl (λ _ m. mark_in m j ≡ 1) k
          (λ n. i.each w k j h (omega (arith, l, n)) b)
          (c.fill.ensures.each j (omega (arith, b, ap length (list_lent lists r d lt), i.wide w h r lt)));
    }

pub returns-clause-each : goal.returns-clause-each
returns-clause-each c = λ w r j h l. c.loop-r.invariant.each w r j h (omega (arith, l, c.loop-r-test.false))
