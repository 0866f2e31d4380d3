use Rattle.std.proofs.Common.{◌+◌, drop, map, option_map, sym, ap, ◌∙◌}
use Rattle.std.proofs.lemmas.List.{map_push}
use Rattle.std.proofs.Math.ListN.{drop_of_length-le}
use Rattle.toml.specs.View.{items_view}
use Rattle.stack_model.specs.Limits.{with_first}
use Rattle.stack_model.specs.Raw.{lists_view, numbers_view}
use Rattle.stack_reader.specs.Forms.{lists_of_items}
use Rattle.stack_model.proofs.Collected.{collects, stops, collected}
use Rattle.stack_reader.proofs.Collected.{items_from}
use Rattle.stack_reader.proofs.field.lists.Goals as goal

pub loop-item-preserved : goal.loop-item-preserved
loop-item-preserved c =
    let items = c.args.items.now in
    let i = c.loop-item.item-index in
    let rest = lists_of_items (items_view (drop (i + 1) items)) in
    let here = sym c.in_ok-numbers.ensures ∙ ap (option_map numbers_view) c.in-Some.is in
    collects (lists_view c.loop-item.found) (lists_view c.push.new.self) _ rest _ _
    (ap (map numbers_view) c.in_ok-push-in-Some.ensures.items ∙ map_push numbers_view c.loop-item.found.items _)
    (ap lists_of_items (items_from items i c.item-item.result c.loop-item-test.true c.item-item.is)
    ∙ (λ j. with_first (here j) rest)) c.loop-item.invariant

pub returns-in-None : goal.returns-in-None
returns-in-None c =
    let items = c.args.items.now in
    let i = c.loop-item.item-index in
    let rest = lists_of_items (items_view (drop (i + 1) items)) in
    let here = sym c.in_ok-numbers.ensures ∙ ap (option_map numbers_view) c.in-None.is in
    stops (lists_view c.loop-item.found) _ _
    (ap lists_of_items (items_from items i c.item-item.result c.loop-item-test.true c.item-item.is)
    ∙ (λ j. with_first (here j) rest)) c.loop-item.invariant

pub returns : goal.returns
returns c = collected (lists_view c.loop-item.found) _ _
    (ap (λ vs. lists_of_items (items_view vs)) (drop_of_length-le c.args.items.now c.loop-item-test.false))
    c.loop-item.invariant
