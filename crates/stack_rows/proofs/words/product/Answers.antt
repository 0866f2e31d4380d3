use Rattle.std.proofs.Common.{sym, ap, ◌∙◌, rules, ◌*ℤ◌, SFits, to_z, of_z, to_z-of_z, w64}
use Rattle.stack_rational.proofs.Common.{w128}
use Rattle.stack_rows.proofs.words.product.Goals as goal

pub returns-then-word-number : goal.returns-then-word-number
returns-then-word-number c =
    let word : SFits w128 (to_z w64 (of_z w64 c.low-word.result)) = search rules in
    let product : SFits w128 c.product_of-product.result = search rules in
    let is = sym (to_z-of_z word) ∙ ap (to_z w128) c.if-word-number.true ∙ to_z-of_z c.ranges.number in
    to_z-of_z product ∙ c.product_of-product.ensures ∙ (λ i. is i *ℤ to_z-of_z c.ranges.by i)
