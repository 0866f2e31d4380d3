use Rattle.std.proofs.Common.{rules, below_more, IsTrue, arith}
use Rattle.stack_overlap.specs.Separation.{Separates}
use Rattle.stack_overlap.proofs.separating.first_separating.Goals as goal

pub loop-i-preserved : goal.loop-i-preserved
loop-i-preserved c = below_more (λ k. ¬ (Separates c.args.p.now k c.args.q.now)) _ c.loop-i.invariant
    (λ s. let t : IsTrue c.separates.result = c.separates.ensures.value.1 s in search rules)

pub returns-clause-first : goal.returns-clause-first
returns-clause-first c = λ k s. c.loop-i.invariant k (omega (arith, s.is_edge)) s
