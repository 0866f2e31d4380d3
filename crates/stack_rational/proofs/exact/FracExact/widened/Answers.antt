use Rattle.std.proofs.Common.{◌∙◌, rules}
use Rattle.stack_rational.proofs.Common.{over, over_own}
use Rattle.stack_rational.proofs.OverParts.{is_held}
use Rattle.stack_rational.proofs.exact.FracExact.widened.Goals as goal

pub returns : goal.returns
returns g c =
    let n = is_held c.parts-n.result.0 (search rules) in
    let d = is_held c.parts-n.result.1 (search rules) in
    c.over.ensures
    ∙ (λ i. over ((n ∙ c.parts-n.ensures.num) i) ((d ∙ c.parts-n.ensures.den) i)) ∙ over_own c.args.self
