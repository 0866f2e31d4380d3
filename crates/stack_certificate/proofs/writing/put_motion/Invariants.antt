use Rattle.std.proofs.Common.{◌≡◌, ◌++◌}
use Rattle.stack_certificate.specs.declared.line.Line.TheVariants as lines
use Rattle.stack_certificate.specs.CertificateText.{move_line, text_of}
use Rattle.stack_certificate.proofs.WrittenLists.{front}
use Rattle.stack_certificate.proofs.writing.put_motion.Given as goal

abbrev pub invariant-loop-velocity : goal.invariant-loop-velocity
invariant-loop-velocity l =
    l.out.items ≡ l.fn.out.items ++ text_of (front lines.Motion move_line l.motion.moves.items l.velocity-index)
