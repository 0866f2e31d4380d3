use Rattle.std.proofs.Common.{rules, SFits, to_z-of_z}
use mir.Syntax.{w128}
use Rattle.stack_frame.proofs.MadeNumbers.{decided}
use Rattle.stack_frame.proofs.cone.Cone.admits.Goals as goal

pub returns-clause-admits : goal.returns-clause-admits
returns-clause-admits c = let fits : SFits w128 c.args.a.value = search rules in
    (decided c.args.self _ _ _ _ (to_z-of_z fits) c.if-a-lt0.false c.holds.ensures).admits

pub returns-clause-wide : goal.returns-clause-wide
returns-clause-wide c = let fits : SFits w128 c.args.a.value = search rules in
    (decided c.args.self _ _ _ _ (to_z-of_z fits) c.if-a-lt0.false c.holds.ensures).wide
