use Rattle.std.proofs.Common.{rules, SFits}
use mir.Syntax.{w128}
use Rattle.stack_polygon.proofs.Stored.{moment-is, three-stored, near-kept, twice-kept, three-kept}
use Rattle.stack_polygon.proofs.fan.of_triangle.Goals as goal

pub returns-clause-about_y : goal.returns-clause-about_y
returns-clause-about_y c =
    let f : SFits w128 c.moment.result = search rules in
    moment-is _ _ _ _ _ f c.moment.ensures.value c.triangle-area.ensures.size c.three.ensures.size
    c.triangle-area.ensures.value
    (three-stored c.args.o.x c.args.p.x c.args.q.x _ c.requires.o.x c.requires.p.x c.requires.q.x c.three.ensures.value)

pub returns-clause-about_x : goal.returns-clause-about_x
returns-clause-about_x c =
    let f : SFits w128 c.moment-2.result = search rules in
    moment-is _ _ _ _ _ f c.moment-2.ensures.value c.triangle-area.ensures.size c.three-2.ensures.size
    c.triangle-area.ensures.value
    (three-stored c.args.o.y c.args.p.y c.args.q.y _ c.requires.o.y c.requires.p.y c.requires.q.y
    c.three-2.ensures.value)

pub three-requires-clause-x : goal.three-requires-clause-x
three-requires-clause-x c = near-kept _ c.requires.o.x

pub three-requires-clause-y : goal.three-requires-clause-y
three-requires-clause-y c = near-kept _ c.requires.p.x

pub three-requires-clause-z : goal.three-requires-clause-z
three-requires-clause-z c = near-kept _ c.requires.q.x

pub three-requires-2-clause-x : goal.three-requires-2-clause-x
three-requires-2-clause-x c = near-kept _ c.requires.o.y

pub three-requires-2-clause-y : goal.three-requires-2-clause-y
three-requires-2-clause-y c = near-kept _ c.requires.p.y

pub three-requires-2-clause-z : goal.three-requires-2-clause-z
three-requires-2-clause-z c = near-kept _ c.requires.q.y

pub moment-requires-clause-area : goal.moment-requires-clause-area
moment-requires-clause-area c = twice-kept _ c.triangle-area.ensures.size

pub moment-requires-clause-sum : goal.moment-requires-clause-sum
moment-requires-clause-sum c = three-kept _ c.three.ensures.size

pub moment-requires-2-clause-area : goal.moment-requires-2-clause-area
moment-requires-2-clause-area c = twice-kept _ c.triangle-area.ensures.size

pub moment-requires-2-clause-sum : goal.moment-requires-2-clause-sum
moment-requires-2-clause-sum c = three-kept _ c.three-2.ensures.size
