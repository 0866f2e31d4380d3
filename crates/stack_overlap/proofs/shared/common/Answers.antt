use mathlib.Core.Path.{sym, subst}
use Rattle.stack_overlap.specs.CommonPoints.{IsCommonOf}
use Rattle.stack_overlap.proofs.Ends.{ends-of}
use Rattle.stack_overlap.proofs.Swaps.{of-swapped}
use Rattle.stack_overlap.proofs.shared.common.Goals as goal

pub returns-in-First-clause-ends : goal.returns-in-First-clause-ends
returns-in-First-clause-ends c = ends-of c.args.p.now c.args.q.now c.common_on.result c.common_on.ensures

pub returns-in-Second-clause-points : goal.returns-in-Second-clause-points
returns-in-Second-clause-points c = subst (λ v. IsCommonOf c.args.p.now c.args.q.now v) (sym c.swap_common.ensures)
    (of-swapped c.args.q.now c.args.p.now c.common_on-in-Second.result c.common_on-in-Second.ensures)

pub returns-in-Second-clause-ends : goal.returns-in-Second-clause-ends
returns-in-Second-clause-ends c = ends-of c.args.p.now c.args.q.now c.swap_common.result
    (returns-in-Second-clause-points c)
