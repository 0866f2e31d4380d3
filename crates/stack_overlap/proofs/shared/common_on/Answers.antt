use Rattle.std.proofs.Common.{sym, ◌∙◌, inl, inr}
use Rattle.stack_overlap.proofs.Finding.{none-answer, past-answer, segment-answer, back-answer, corner-answer}
use Rattle.stack_overlap.proofs.Finding.{on-answer, untrue}
use Rattle.stack_overlap.proofs.shared.common_on.Goals as goal

pub returns-in-None : goal.returns-in-None
returns-in-None c =
    none-answer c.args.p.now c.args.q.now c.len.ensures.polygon c.stretch_along.ensures.polygon c.args.i c.requires
    c.corner-a.result c.corner-b.result c.corner-a.ensures.value c.corner-b.ensures.value c.next.ensures
    c.len.ensures.value c.in-None.ensures.reach

pub returns-then-precedes : goal.returns-then-precedes
returns-then-precedes c =
    past-answer c.args.p.now c.args.q.now c.len.ensures.polygon c.stretch_along.ensures.polygon c.args.i c.requires
    c.corner-a.result c.corner-b.result c.corner-a.ensures.value c.corner-b.ensures.value c.next.ensures
    c.len.ensures.value c.in-Some.r c.clipped-s.result c.in-Some.ensures.reach c.clipped-s.ensures
    (c.precedes.ensures.0 c.if-precedes.true)

pub returns-then-is_before : goal.returns-then-is_before
returns-then-is_before c =
    segment-answer c.args.p.now c.args.q.now c.len.ensures.polygon c.stretch_along.ensures.polygon c.args.i c.requires
    c.corner-a.result c.corner-b.result c.corner-a.ensures.value c.corner-b.ensures.value c.next.ensures
    c.len.ensures.value c.in-Some.r c.clipped-s.result c.in-Some.ensures.reach c.clipped-s.ensures
    (c.precedes-else-precedes.ensures.0 c.if-precedes-2.true) (c.is_before.ensures.0 c.if-is_before.true)

pub returns-else-is_before : goal.returns-else-is_before
returns-else-is_before c =
    back-answer c.args.p.now c.args.q.now c.len.ensures.polygon c.stretch_along.ensures.polygon c.args.i c.requires
    c.corner-a.result c.corner-b.result c.corner-a.ensures.value c.corner-b.ensures.value c.next.ensures
    c.len.ensures.value c.in-Some.r c.clipped-s.result c.in-Some.ensures.reach c.clipped-s.ensures
    (c.precedes-else-precedes.ensures.0 c.if-precedes-2.true)
    (untrue _ c.is_before.ensures c.if-is_before.false)

pub returns-then-is_at_either : goal.returns-then-is_at_either
returns-then-is_at_either c =
    corner-answer c.args.p.now c.args.q.now c.len.ensures.polygon c.stretch_along.ensures.polygon c.args.i c.requires
    c.corner-a.result c.corner-b.result c.corner-a.ensures.value c.corner-b.ensures.value c.next.ensures
    c.len.ensures.value c.in-Some.r c.clipped-s.result c.in-Some.ensures.reach c.clipped-s.ensures
    (untrue _ c.precedes.ensures c.if-precedes.false)
    (untrue _ c.precedes-else-precedes.ensures c.if-precedes-2.false)
    (elim (c.is_at_either.ensures.0 c.if-is_at_either.true) [
      | inl e ↦ inl e
      | inr e ↦ inr
          (e ∙ c.mark_of-end.ensures.place)
    ])

pub returns-else-is_at_either : goal.returns-else-is_at_either
returns-else-is_at_either c =
    on-answer c.args.p.now c.args.q.now c.len.ensures.polygon c.stretch_along.ensures.polygon c.args.i c.requires
    c.corner-a.result c.corner-b.result c.corner-a.ensures.value c.corner-b.ensures.value c.next.ensures
    c.len.ensures.value c.in-Some.r c.clipped-s.result c.in-Some.ensures.reach c.clipped-s.ensures
    (untrue _ c.precedes.ensures c.if-precedes.false)
    (untrue _ c.precedes-else-precedes.ensures c.if-precedes-2.false)
    (λ e. untrue _ c.is_at_either.ensures c.if-is_at_either.false (inl e))
    (λ e. untrue _ c.is_at_either.ensures c.if-is_at_either.false (inr (e ∙ sym c.mark_of-end.ensures.place)))
