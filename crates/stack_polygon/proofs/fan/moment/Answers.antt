use Rattle.std.proofs.Common.{◌∙◌, w64}
use Rattle.std.proofs.lemmas.Int.{to_z-of_z}
use Rattle.stack_polygon.proofs.Stored.{moment-stored}
use Rattle.stack_polygon.proofs.fan.moment.Goals as goal

pub returns-clause-size : goal.returns-clause-size
returns-clause-size c = moment-stored c.args.area c.args.sum c.from.result c.from-2.result
    (c.from.ensures ∙ to_z-of_z w64 _ c.ranges.area) (c.from-2.ensures
    ∙ to_z-of_z w64 _ c.ranges.sum) c.requires.area c.requires.sum
