use Rattle.std.proofs.Common.{◌≡◌, subst₂, w64, IfOk}
use Rattle.std.proofs.lemmas.Int.{to_z-of_z}
use Rattle.stack_contact.specs.Surveyed.{Surveyed}
use Rattle.stack_pairs.specs.Directed.{directed_survey}
use Rattle.stack_directions.proofs.directing.directed.Goals as goal

pub returns : goal.returns
returns c = subst₂ (λ a b. IfOk c.survey_towards.result
    (λ (t : Surveyed). t ≡ directed_survey c.args.s.now c.args.i c.args.j a b))
    (to_z-of_z w64 c.args.m c.ranges.m) (to_z-of_z w64 c.args.n c.ranges.n) c.survey_towards.ensures
