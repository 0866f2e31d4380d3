use Rattle.std.proofs.Common.{◌∙◌, rules, w32}
use Rattle.std.proofs.lemmas.Int.{to_z-of_z}
use Rattle.stack_polygon.proofs.Sides.{end-below, side-sign}
use Rattle.stack_polygon.proofs.polygon.Polygon.side.Goals as goal

pub corner-requires-2 : goal.corner-requires-2
corner-requires-2 c = end-below _ _ _ _ c.len.ensures.value c.next-end.ensures c.requires.index

pub returns : goal.returns
returns c = to_z-of_z w32 _ (search rules) ∙ side-sign c.args.self.now _ c.args.i _ _ _ c.args.at _ _
    c.len.ensures.value c.next-end.ensures c.corner.ensures.value c.corner-2.ensures.value
    c.triangle.ensures.value c.triangle.ensures.size c.sign.ensures
