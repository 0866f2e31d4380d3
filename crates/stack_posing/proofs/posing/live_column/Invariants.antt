use Rattle.std.proofs.Common.{◌*◌}
use Rattle.stack_equilibrium.specs.SurveyScene.{scene_of}
use Rattle.stack_posing.specs.ByNumber.{live_on}
use Rattle.stack_posing.specs.Posed.{row_share}
use Rattle.stack_posing.specs.Entries.{AreEntries}
use Rattle.stack_posing.proofs.posing.live_column.Given as goal

abbrev pub invariant-loop-b : goal.invariant-loop-b
invariant-loop-b l = AreEntries (3 * l.b) (row_share (scene_of l.s) (live_on (scene_of l.s))) l.entries.items
