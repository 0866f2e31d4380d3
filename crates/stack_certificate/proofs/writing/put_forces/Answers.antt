use Rattle.std.proofs.Common.{get_or, pos, ap}
use Rattle.stack_certificate.specs.declared.line.Line.TheVariants as lines
use Rattle.stack_certificate.specs.CertificateText.{push_line}
use Rattle.stack_certificate.proofs.WrittenLists.{one_more, all_put}
use Rattle.stack_certificate.proofs.writing.put_forces.Goals as goal

pub loop-part-preserved : goal.loop-part-preserved
loop-part-preserved c =
    let forces = c.args.forces.now in
    one_more (lines.Forces forces.scale forces.factor) push_line forces.parts.items
    c.loop-part.part-index (pos 0, pos 0) _ _ _ _
    (rw c.deref-part-items.ensures.value at c.loop-part-test.true)
    (ap (λ xs. get_or xs c.loop-part.part-index (pos 0, pos 0)) c.deref-part-items.ensures.value)
    c.loop-part.invariant c.in_ok-put_part.ensures

pub returns : goal.returns
returns c =
    let forces = c.args.forces.now in
    all_put (lines.Forces forces.scale forces.factor) push_line forces.parts.items c.loop-part.part-index _ _
    (rw c.deref-part-items.ensures.value at c.loop-part-test.false) c.loop-part.invariant
