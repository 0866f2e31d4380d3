use Rattle.std.proofs.Common.{rules}
use mathlib.Core.Path.{◌≡◌, sym, ap, ◌∙◌, subst}
use Prim.Native.Nat.{◌<◌, ◌+◌}
use lib.ListN.{length}
use Rattle.stack_overlap.specs.Forms.{at_corner, line, along}
use Rattle.stack_overlap.proofs.Reaches.{IsReached, reached-past, reached-more}
use Rattle.stack_overlap.proofs.Finding.{untrue}
use Rattle.stack_overlap.proofs.shared.stretch_along.Goals as goal
use Rattle.stack_overlap.proofs.shared.stretch_along.Goals.{then-is_on_line, else-is_on_line}

pub loop-j-preserved : goal.loop-j-preserved
loop-j-preserved c = elim c.if-is_on_line.branch [
  | then-is_on_line w ↦
      let below : c.loop-j.j < length c.args.q.now = search rules in
      let marks = w.mark_of.ensures in
      subst (IsReached c.args.a c.args.b c.args.q.now (c.loop-j.j + 1)) (sym w.best-is)
      (reached-more c.args.a c.args.b c.args.q.now c.loop-j.j c.loop-j.best w.mark_of.result w.wider.result below
      (marks.at ∙ c.corner-at.ensures.value)
      (record {
        on_line = ap (λ d. at_corner (line c.args.a c.args.b) d) marks.at
            ∙ c.is_on_line.ensures.0 w.if-is_on_line.true;
        place = ap (λ d. at_corner (along c.args.a c.args.b) d) marks.at ∙ sym marks.place;
      }) w.wider.ensures c.loop-j.invariant)
  | else-is_on_line w ↦
      subst (IsReached c.args.a c.args.b c.args.q.now (c.loop-j.j + 1)) (sym w.best-is)
      (reached-past c.args.a c.args.b c.args.q.now c.loop-j.j c.loop-j.best
      (λ z. untrue _ c.is_on_line.ensures w.if-is_on_line.false
      (ap (λ d. at_corner (line c.args.a c.args.b) d) c.corner-at.ensures.value ∙ z)) c.loop-j.invariant)
]

pub returns-clause-reach : goal.returns-clause-reach
returns-clause-reach c = let same : c.loop-j.j ≡ length c.args.q.now = search rules in
    subst (λ n. IsReached c.args.a c.args.b c.args.q.now n c.loop-j.best) same c.loop-j.invariant
