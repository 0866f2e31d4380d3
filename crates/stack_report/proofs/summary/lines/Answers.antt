use Rattle.std.proofs.Common.{◌++◌, refl, ap, ◌∙◌}
use Rattle.stack_certificate.specs.Certificate.{certificate_view}
use Rattle.stack_report.specs.Summary.{counts_text, verdict_line, greatest_line, narrow_line}
use Rattle.stack_report.proofs.Texts.{text_after}
use Rattle.stack_report.proofs.summary.lines.Goals as goal

pub returns : goal.returns
returns c =
    let v = certificate_view c.args.c.now in
    let counts = counts_text c.args.number c.args.s.now in
    let narrow = narrow_line c.args.narrow in
    text_after c.with_width.result counts (verdict_line v) (greatest_line v ++ narrow) (counts ++ verdict_line v) refl
    (text_after c.with_width.result (counts ++ verdict_line v) (greatest_line v) narrow _
    (c.in_ok-with_greatest.ensures ∙ ap (λ l. l ++ greatest_line v)
    (c.in_ok-text.ensures ∙ ap (λ l. l ++ verdict_line v) c.in_ok-counts.ensures)) c.with_width.ensures)
