use Rattle.std.proofs.Common.{◌≡◌, rules, ◌∙◌, ◌+ℤ◌, ◌*ℤ◌, neg_ℤ}
use Rattle.stack_whole.specs.Whole.{whole}
use Rattle.stack_equilibrium.specs.Columns.{lean_of}
use Rattle.stack_equilibrium.proofs.columns.edge_force.Goals as goal

pub returns-clause-value : goal.returns-clause-value
returns-clause-value c =
    let z = c.args.z.now in
    let q : c.denominator-q.result ≡ whole z.cone.q = search rules in
    let lean : c.lean-lean.result ≡ whole (lean_of z.cone c.args.plus) = search rules in
    let tx : c.widened-tx.result ≡ whole z.frame.tx = search rules in
    let ty : c.widened-ty.result ≡ whole z.frame.ty = search rules in
    let across = c.opposite.ensures.value in
    let x = c.combined.ensures.value
    ∙ (λ i. whole ((q i).value *ℤ (across i).value +ℤ (lean i).value *ℤ (tx i).value))
    ∙ (λ i. whole (z.cone.q *ℤ neg_ℤ (ty i).value +ℤ lean_of z.cone c.args.plus *ℤ z.frame.tx)) in
    let y = c.combined-2.ensures.value
    ∙ (λ i. whole ((q i).value *ℤ (tx i).value +ℤ (lean i).value *ℤ (ty i).value)) in
    λ i. record { x = x i; y = y i }
