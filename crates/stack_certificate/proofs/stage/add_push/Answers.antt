use Rattle.std.proofs.Common.{refl}
use Rattle.stack_certificate.proofs.Pushed.{part_pushed, no_push}
use Rattle.stack_certificate.proofs.stage.add_push.Goals as goal

pub returns-in-Stands : goal.returns-in-Stands
returns-in-Stands c =
    let parts = part_pushed _ c.ranges.a c.ranges.b c.in_ok-push-in-Stands.ensures.items in
    rw (c.in-Stands.is, parts) refl

pub returns-in-Unbounded : goal.returns-in-Unbounded
returns-in-Unbounded c =
    let parts = part_pushed _ c.ranges.a c.ranges.b c.in_ok-push-in-Unbounded.ensures.items in
    rw (c.in-Unbounded.is, parts) refl

pub returns : goal.returns
returns c = no_push c.args.certificate _ c.in_default.not-Stands c.in_default.not-Unbounded
