use Rattle.std.proofs.Common.{rules, ap, ◌≡◌, ◌∙◌, ◌*ℤ◌, ◌-ℤ◌, SFits, to_z, of_z, to_z-of_z, w64}
use lib.IntN.{*ℤ_comm}
use Rattle.stack_rational.proofs.Common.{w128}
use Rattle.stack_rows.proofs.Casts.{fit_left, fit_right, fit_step}
use Rattle.stack_rows.proofs.ways.FitStep.made.Goals as goal
use Rattle.stack_rows.proofs.ways.FitStep.made.Goals.{After-fit_product-2}

-- both products
products : (c : After-fit_product-2) →
    to_z w128 (of_z w128 c.fit_product.result) -ℤ to_z w128 (of_z w128 c.fit_product-2.result)
    ≡ c.args.number *ℤ c.args.self.now.word.times -ℤ c.args.other *ℤ c.args.self.now.word.less
products c =
    let s = c.args.self.now.word in
    let times : SFits w64 s.times = search rules in
    let less : SFits w64 s.less = search rules in
    let left : SFits w128 c.fit_product.result = search rules in
    let right : SFits w128 c.fit_product-2.result = search rules in
    cc (
      to_z-of_z times,
      to_z-of_z less,
      to_z-of_z left,
      to_z-of_z right,
      to_z-of_z c.ranges.number,
      to_z-of_z c.ranges.other,
      c.fit_product.ensures,
      c.fit_product-2.ensures,
    )

pub fit_product-requires : goal.fit_product-requires
fit_product-requires c =
    let s = c.args.self.now.word in
    let times : SFits w64 s.times = search rules in
    rw (to_z-of_z c.ranges.number, to_z-of_z times) (fit_left c.args.number c.args.other s.times s.less c.requires)

pub fit_product-requires-2 : goal.fit_product-requires-2
fit_product-requires-2 c =
    let s = c.args.self.now.word in
    let less : SFits w64 s.less = search rules in
    rw (to_z-of_z c.ranges.other, to_z-of_z less) (fit_right c.args.number c.args.other s.times s.less c.requires)

pub overflow_sub-result : goal.overflow_sub-result
overflow_sub-result c =
    let s = c.args.self.now.word in
    rw (products (goal.at.overflow_sub-result c).After-fit_product-2)
    (fit_step c.args.number c.args.other s.times s.less c.requires)

pub returns : goal.returns
returns c =
    let s = c.args.self.now.word in
    ap (λ z. to_z w128 (of_z w128 z)) (products (goal.at.returns c).After-fit_product-2)
    ∙ to_z-of_z (fit_step c.args.number c.args.other s.times s.less c.requires)
    ∙ ap (λ z. c.args.number *ℤ s.times -ℤ z) (*ℤ_comm c.args.other s.less)
