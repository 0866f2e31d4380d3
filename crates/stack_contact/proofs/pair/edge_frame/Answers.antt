use mathlib.Core.Path.{ap, ◌∙◌}
use Rattle.stack_algebra.specs.Search.{next_round}
use Rattle.stack_polygon.specs.Corners.{corner_of}
use Rattle.stack_contact.proofs.StoredDirections.{edge-apart}
use Rattle.stack_contact.proofs.pair.edge_frame.Goals as goal

pub frame_from-requires-clause-apart : goal.frame_from-requires-clause-apart
frame_from-requires-clause-apart c = (edge-apart c.args.p.now c.len.ensures.polygon c.args.i c.requires
    c.corner-a.result c.corner-b.result c.corner-a.ensures.value
    (c.corner-b.ensures.value ∙ ap (corner_of c.args.p.now) (c.next.ensures
    ∙ ap (λ n. next_round n c.args.i) c.len.ensures.value))).1

pub frame_from-requires-else-back-clause-apart : goal.frame_from-requires-else-back-clause-apart
frame_from-requires-else-back-clause-apart c =
    (edge-apart c.args.p.now c.len.ensures.polygon c.args.i c.requires
    c.corner-a.result c.corner-b.result c.corner-a.ensures.value
    (c.corner-b.ensures.value ∙ ap (corner_of c.args.p.now) (c.next.ensures
    ∙ ap (λ n. next_round n c.args.i) c.len.ensures.value))).0
