use Rattle.std.proofs.Common.{◌<◌, subst}
use Rattle.stack_equilibrium.specs.SurveyScene.{scene_of}
use Rattle.stack_posing.specs.ByNumber.{live_on}
use Rattle.stack_posing.proofs.PosedParts.{next_block}
use Rattle.stack_posing.proofs.posing.live_column.Goals as goal

pub loop-b-preserved : goal.loop-b-preserved
loop-b-preserved c =
    next_block c.args.s.now (live_on (scene_of c.args.s.now)) c.loop-b.b _ _ c.live.result
    (subst (λ n. c.loop-b.b < n) c.free_count-b-end.ensures.value c.loop-b-test.true) c.live.ensures.value
    c.live.ensures.size c.in_ok-entries.ensures c.loop-b.invariant
