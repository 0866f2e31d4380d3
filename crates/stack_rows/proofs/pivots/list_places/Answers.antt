use Rattle.std.proofs.Common.{arith}
use Rattle.stack_rows.proofs.Listed.{further_listing, skipped_listing}
use Rattle.stack_rows.proofs.pivots.list_places.Goals as goal

pub loop-j-preserved : goal.loop-j-preserved
loop-j-preserved c =
    let i = c.loop-j.invariant.listing in
    let next = c.next-j-in-loop-j.ensures in
    record {
      within = next.within;
      listing = skipped_listing
          (further_listing i (omega (arith, i.room, c.loop-j-test.true, c.loop-j.auto.list, c.requires.room)))
          c.next-j-in-loop-j.result next.later (λ k a b. c.requires.marked.nothing k (next.none k a b));
    }
