use Rattle.std.proofs.Common.{◌≡◌, false, rules}
use Rattle.stack_model.specs.Structure.{body_at}
use Rattle.stack_equilibrium.specs.SurveyScene.{scene_of}
use Rattle.stack_posing.specs.Edges.{edge_on}
use Rattle.stack_posing.proofs.TwoBodies.{free_answer}
use Rattle.stack_posing.proofs.posing.with_body.Goals as goal

pub returns : goal.returns
returns c = let free : (body_at c.args.s.now.structure.bodies c.args.i).fixed ≡ false = search rules in
    free_answer c.args.s.now (edge_on (scene_of c.args.s.now) c.args.plus c.args.k) c.args.i c.free_number-b.result
    c.args.entries.items c.column.result c.with_wrench.result c.requires.is_body free c.free_number-b.ensures.value
    c.column.ensures.value c.column.ensures.size c.with_wrench.ensures c.requires.before
