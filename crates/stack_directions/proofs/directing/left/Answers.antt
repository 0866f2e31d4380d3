use Rattle.std.proofs.Common.{◌≡◌, ap, ◌∙◌, subst, w64, to_z, of_z, not, false}
use Rattle.stack_pairs.specs.Directed.{times_load}
use Rattle.stack_model.specs.declared.types.Load.{Load}
use Rattle.stack_directions.proofs.DirectedBorne.{left_first, left_second}
use Rattle.stack_directions.proofs.directing.left.Goals as goal

pub returns-then-k-t : goal.returns-then-k-t
returns-then-k-t c = left_first c.args.t.i c.args.t.j c.args.t.m c.args.t.n c.args.k _ c.times.result
    (subst (λ (l : Load). not l.live ≡ false) c.load-load.ensures.value c.if-not-load.false) c.if-k-t.true
    c.requires.factors
    (c.times.ensures ∙ ap (times_load (to_z w64 (of_z w64 c.args.t.m))) c.load-load.ensures.value)

pub returns-then-k-t-2 : goal.returns-then-k-t-2
returns-then-k-t-2 c = left_second c.args.t.i c.args.t.j c.args.t.m c.args.t.n c.args.t.m c.args.k _
    c.times-then-k-t-2.result
    (subst (λ (l : Load). not l.live ≡ false) c.load-load.ensures.value c.if-not-load.false) c.if-k-t.false
    c.if-k-t-2.true c.requires.factors
    (c.times-then-k-t-2.ensures ∙ ap (times_load (to_z w64 (of_z w64 c.args.t.n))) c.load-load.ensures.value)
