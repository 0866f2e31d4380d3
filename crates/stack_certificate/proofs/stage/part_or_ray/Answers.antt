use Rattle.std.proofs.Common.{refl, SFits, rules}
use Rattle.std.specs.Int.{w128}
use Rattle.stack_certificate.specs.Certificate.{forces_view}
use Rattle.stack_certificate.proofs.Pushed.{part_pushed, no_ray}
use Rattle.stack_certificate.proofs.stage.part_or_ray.Goals as goal

pub returns-in_ok-push-in-Push : goal.returns-in_ok-push-in-Push
returns-in_ok-push-in-Push c =
    let a : SFits w128 c.in-Push.a = search rules in
    let b : SFits w128 c.in-Push.b = search rules in
    rw (c.in-Push.is, part_pushed _ a b c.in_ok-push-in-Push.ensures.items) refl

pub returns-in_default : goal.returns-in_default
returns-in_default c = no_ray (forces_view c.args.forces) c.args.line c.in_default.not-Push c.in_default.not-Forces
