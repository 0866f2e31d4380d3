use Rattle.std.proofs.Common.{get_or, pos, ap}
use Rattle.stack_certificate.specs.declared.line.Line.TheVariants as lines
use Rattle.stack_certificate.specs.CertificateText.{move_line}
use Rattle.stack_certificate.proofs.WrittenLists.{one_more, all_put}
use Rattle.stack_certificate.proofs.writing.put_motion.Goals as goal

pub loop-velocity-preserved : goal.loop-velocity-preserved
loop-velocity-preserved c =
    let moves = c.args.motion.now.moves.items in
    one_more lines.Motion move_line moves c.loop-velocity.velocity-index (pos 0, pos 0, pos 0) _ _ _ _
    (rw c.deref-velocity-items.ensures.value at c.loop-velocity-test.true)
    (ap (λ xs. get_or xs c.loop-velocity.velocity-index (pos 0, pos 0, pos 0))
    c.deref-velocity-items.ensures.value)
    c.loop-velocity.invariant c.in_ok-put_move.ensures

pub loop-velocity-init : goal.loop-velocity-init
loop-velocity-init c = c.in_ok-put_line.ensures

pub returns : goal.returns
returns c = all_put lines.Motion move_line c.args.motion.now.moves.items c.loop-velocity.velocity-index _ _
    (rw c.deref-velocity-items.ensures.value at c.loop-velocity-test.false) c.loop-velocity.invariant
