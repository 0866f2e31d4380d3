use Rattle.std.proofs.Common.{ℕ, ◌+◌, ◌<◌, ◌≤◌, arith}
use Rattle.stack_rational.proofs.RunningMultiple.{held}
use Rattle.stack_extract.proofs.WrittenPlaces.{told, scale_too_wide, kept_scale, scale_stands, one_more, passes_here}
use Rattle.stack_extract.proofs.WrittenPlaces.{all_whole}
use Rattle.stack_extract.proofs.wholes.whole_numbers.Goals as goal

next : (i n : ℕ) → i < n → i + 1 ≤ n
next i n l = omega (arith, l)

pub returns-in-Err-clause-wide : goal.returns-in-Err-clause-wide
returns-in-Err-clause-wide c = told c.too_wide.result _ _ c.too_wide.ensures
    (scale_too_wide c.args.which c.args.list.now c.in-Err.e.index c.in-Err.ensures.wide)

pub scaled-requires : goal.scaled-requires
scaled-requires c = scale_stands c.args.which c.args.list.now _
    (kept_scale c.args.which c.args.list.now c.in-Ok.scale c.in-Ok.ensures.ok c.in-Ok.ensures.fits)
    c.in-Ok.ensures.fits

pub returns-in-None-clause-wide : goal.returns-in-None-clause-wide
returns-in-None-clause-wide c = told c.too_wide-in-None.result _ _ c.too_wide-in-None.ensures
    (passes_here c.args.which c.args.list.now c.loop-index.index c.loop-index.numbers.items
    c.index-list-index.result _
    c.loop-index-test.true c.index-list-index.is
    (kept_scale c.args.which c.args.list.now c.in-Ok.scale c.in-Ok.ensures.ok c.in-Ok.ensures.fits)
    c.in-None.ensures c.in-Ok.ensures.fits c.loop-index.invariant.0)

pub loop-index-preserved : goal.loop-index-preserved
loop-index-preserved c = (
  one_more c.args.which c.args.list.now c.loop-index.index c.loop-index.numbers.items
      c.in_ok-numbers-in-Some.numbers.items c.index-list-index.result _ _ c.loop-index-test.true
      c.index-list-index.is
      (kept_scale c.args.which c.args.list.now c.in-Ok.scale c.in-Ok.ensures.ok c.in-Ok.ensures.fits)
      c.in-Some.ensures.0 (held _ c.in-Some.number c.in-Some.ensures.0 c.in-Some.ensures.1)
      c.in_ok-numbers-in-Some.ensures c.loop-index.invariant.0,
  next c.loop-index.index _ c.loop-index-test.true,
)

pub returns-clause-ok : goal.returns-clause-ok
returns-clause-ok c = all_whole c.args.which c.args.list.now c.loop-index.index c.loop-index.numbers.items _
    c.loop-index-test.false c.loop-index.invariant.1
    (kept_scale c.args.which c.args.list.now c.in-Ok.scale c.in-Ok.ensures.ok c.in-Ok.ensures.fits)
    c.in-Ok.ensures.fits c.loop-index.invariant.0
