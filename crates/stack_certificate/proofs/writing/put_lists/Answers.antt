use Rattle.std.proofs.lemmas.Result.{on_ok_weaker}
use Rattle.stack_certificate.specs.declared.line.CertificateForm.TheVariants.{Greatest, Unbounded}
use Rattle.stack_certificate.specs.declared.line.Line.TheVariants as lines
use Rattle.stack_certificate.specs.Certificate.{forces_view, motion_view}
use Rattle.stack_certificate.specs.CertificateText.{forces_lines, motion_lines}
use Rattle.stack_certificate.proofs.WrittenLists.{two_put}
use Rattle.stack_certificate.proofs.writing.put_lists.Goals as goal

pub returns-in_ok-put_forces-in-Greatest : goal.returns-in_ok-put_forces-in-Greatest
returns-in_ok-put_forces-in-Greatest c =
    let xs = forces_lines (forces_view c.in-Greatest.forces) in
    let ys = motion_lines (motion_view c.in-Greatest.motion) in
    on_ok_weaker c.put_motion-in-Greatest.result
    (λ put. rw c.in-Greatest.is (two_put (lines.Form Greatest) xs ys _ _ _ _
    c.in_ok-put_line-in-Greatest.ensures c.in_ok-put_forces-in-Greatest.ensures put))
    c.put_motion-in-Greatest.ensures

pub returns-in_ok-put_forces-in-Unbounded : goal.returns-in_ok-put_forces-in-Unbounded
returns-in_ok-put_forces-in-Unbounded c =
    let xs = forces_lines (forces_view c.in-Unbounded.forces) in
    let ys = forces_lines (forces_view c.in-Unbounded.ray) in
    on_ok_weaker c.put_forces-in-Unbounded-2.result
    (λ put. rw c.in-Unbounded.is (two_put (lines.Form Unbounded) xs ys _ _ _ _
    c.in_ok-put_line-in-Unbounded.ensures c.in_ok-put_forces-in-Unbounded.ensures put))
    c.put_forces-in-Unbounded-2.ensures
