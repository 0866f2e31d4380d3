use Rattle.std.proofs.Common.{◌≡◌, length, ◌++◌, IfOk, string_bytes, refl, ap, subst, ◌∙◌}
use Rattle.std.specs.Prelude.{codes}
use Rattle.stack_contact.specs.FreeBlocks.{frees_of}
use Rattle.stack_report.specs.ContactTable.{count_line}
use Rattle.stack_report.proofs.Texts.{text_after}
use Rattle.stack_report.proofs.summary.counts.Goals as goal

pub returns : goal.returns
returns c =
    let v = c.args.s.now in
    let sample = count_line (codes "sample") c.args.number in
    let blocks = count_line (codes "blocks") (length (frees_of v.structure.bodies)) in
    let bearings = count_line (codes "bearings") (length v.bearings) in
    let touches = count_line (codes "touches") (length v.touches) in
    let first = c.in_ok-text.ensures ∙ ap (λ l. l ++ sample) c.new.ensures.bytes in
    let second = c.in_ok-text-2.ensures
    ∙ (λ i. first i ++ count_line (codes "blocks") (c.free_count.ensures.value i)) in
    let third = c.in_ok-text-3.ensures
    ∙ (λ i. second i ++ count_line (codes "bearings") (length (c.bearings.ensures.value i))) in
    text_after c.with_count-4.result sample blocks (bearings ++ touches) (sample ++ blocks) refl
    (text_after c.with_count-4.result (sample ++ blocks) bearings touches (string_bytes c.in_ok-text-3.text) third
    (subst (λ xs. IfOk c.with_count-4.result (λ t. string_bytes t
    ≡ string_bytes c.in_ok-text-3.text ++ count_line (codes "touches") (length xs))) c.touches.ensures
    c.with_count-4.ensures))
