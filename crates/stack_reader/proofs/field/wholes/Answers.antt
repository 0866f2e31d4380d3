use Rattle.std.proofs.Common.{◌≡◌, ◌+◌, drop, [], ◌∷◌, ◌++◌, refl, sym, ap, ◌∙◌, rules, SFits, to_z-of_z}
use mir.Syntax.{w64}
use Rattle.std.proofs.Math.ListN.{drop_of_length-le}
use Rattle.toml.specs.Data.{Data, string, integer, float, boolean, datetime, array, table, Items, item, as_integer}
use Rattle.toml.specs.View.{view, items_view}
use Rattle.stack_model.specs.Limits.{with_first}
use Rattle.stack_reader.specs.Forms.{wholes_of_items}
use Rattle.stack_model.proofs.Collected.{collects, stops, collected}
use Rattle.stack_reader.proofs.Collected.{items_from}
use Rattle.stack_reader.proofs.field.wholes.Goals as goal

-- the numbers of items, by the first of them
by_first : (d : Data) (rest : Items) → wholes_of_items (item d rest) ≡ with_first (as_integer d) (wholes_of_items rest)
by_first (string s) rest = refl
by_first (integer z) rest = refl
by_first (float x) rest = refl
by_first (boolean b) rest = refl
by_first (datetime t) rest = refl
by_first (array items) rest = refl
by_first (table ms) rest = refl

pub loop-item-preserved : goal.loop-item-preserved
loop-item-preserved c =
    let items = c.args.items.now in
    let i = c.loop-item.item-index in
    let v = c.item-item.result in
    let rest = items_view (drop (i + 1) items) in
    let fits : SFits w64 c.in-Some.number = search rules in
    collects c.loop-item.numbers.items c.push.new.self.items c.in-Some.number (wholes_of_items rest) _ _
    (c.in_ok-push-in-Some.ensures.items ∙ (λ j. c.loop-item.numbers.items ++ to_z-of_z fits j ∷ []))
    (ap wholes_of_items (items_from items i v c.loop-item-test.true c.item-item.is) ∙ by_first (view v) rest
    ∙ (λ j. with_first (sym c.in-Some.ensures j) (wholes_of_items rest))) c.loop-item.invariant

pub returns-in-None : goal.returns-in-None
returns-in-None c =
    let items = c.args.items.now in
    let i = c.loop-item.item-index in
    let v = c.item-item.result in
    let rest = items_view (drop (i + 1) items) in
    stops c.loop-item.numbers.items _ _
    (ap wholes_of_items (items_from items i v c.loop-item-test.true c.item-item.is) ∙ by_first (view v) rest
    ∙ (λ j. with_first (sym c.in-None.ensures j) (wholes_of_items rest))) c.loop-item.invariant

pub returns : goal.returns
returns c = collected c.loop-item.numbers.items _ _
    (ap (λ vs. wholes_of_items (items_view vs)) (drop_of_length-le c.args.items.now c.loop-item-test.false))
    c.loop-item.invariant
