use Rattle.std.proofs.Common.{◌≡◌, ◌++◌}
use Rattle.stack_certificate.specs.declared.line.Line.TheVariants as lines
use Rattle.stack_certificate.specs.CertificateText.{push_line, text_of}
use Rattle.stack_certificate.proofs.WrittenLists.{front}
use Rattle.stack_certificate.proofs.writing.put_forces.Given as goal

abbrev pub invariant-loop-part : goal.invariant-loop-part
invariant-loop-part l =
    let first = lines.Forces l.forces.scale l.forces.factor in
    l.out.items ≡ l.fn.out.items ++ text_of (front first push_line l.forces.parts.items l.part-index)
