use Rattle.std.proofs.Common.{refl}
use Rattle.stack_certificate.proofs.Pushed.{move_pushed, no_move}
use Rattle.stack_certificate.proofs.stage.add_move.Goals as goal

pub returns-in-Collapses : goal.returns-in-Collapses
returns-in-Collapses c =
    let moves = move_pushed _ c.ranges.u c.ranges.v c.ranges.r c.in_ok-push-in-Collapses.ensures.items in
    rw (c.in-Collapses.is, moves) refl

pub returns-in-Greatest : goal.returns-in-Greatest
returns-in-Greatest c =
    let moves = move_pushed _ c.ranges.u c.ranges.v c.ranges.r c.in_ok-push-in-Greatest.ensures.items in
    rw (c.in-Greatest.is, moves) refl

pub returns : goal.returns
returns c = no_move c.args.certificate _ c.in_default.not-Collapses c.in_default.not-Greatest
