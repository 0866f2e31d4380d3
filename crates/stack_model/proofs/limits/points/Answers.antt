use Rattle.std.proofs.Common.{◌+◌, drop, map, ap, sym, ◌∙◌}
use Rattle.std.proofs.Math.ListN.{drop_of_length-le}
use Rattle.stack_model.specs.Raw.{numbers_view}
use Rattle.stack_model.specs.Limits.{point_of, points_of, with_first}
use Rattle.stack_model.proofs.Collected.{collects, stops, collected, mapped_from}
use Rattle.stack_model.proofs.limits.points.Goals as goal

pub loop-numbers-preserved : goal.loop-numbers-preserved
loop-numbers-preserved c =
    let lists = c.args.lists.now in
    let i = c.loop-numbers.numbers-index in
    let rest = points_of (map numbers_view (drop (i + 1) lists)) in
    collects c.loop-numbers.found.items c.push.new.self.items c.in-Some.corner rest _ _
    c.in_ok-push-in-Some.ensures.items
    (ap points_of (mapped_from numbers_view lists i c.numbers-item.result c.loop-numbers-test.true c.numbers-item.is)
    ∙ ap (λ p. with_first p rest) (sym (c.in-Some.ensures ∙ ap point_of c.as_slice.ensures.value)))
    c.loop-numbers.invariant

pub returns-in-None : goal.returns-in-None
returns-in-None c =
    let lists = c.args.lists.now in
    let i = c.loop-numbers.numbers-index in
    let rest = points_of (map numbers_view (drop (i + 1) lists)) in
    stops c.loop-numbers.found.items _ _
    (ap points_of (mapped_from numbers_view lists i c.numbers-item.result c.loop-numbers-test.true c.numbers-item.is)
    ∙ ap (λ p. with_first p rest) (sym (c.in-None.ensures ∙ ap point_of c.as_slice.ensures.value)))
    c.loop-numbers.invariant

pub returns : goal.returns
returns c = collected c.loop-numbers.found.items _ _
    (ap (λ ls. points_of (map numbers_view ls)) (drop_of_length-le c.args.lists.now c.loop-numbers-test.false))
    c.loop-numbers.invariant
