use Rattle.std.proofs.Common.{◌≡◌, sym, subst, ◌∙◌, rules, SFits, to_z-of_z, ◌-ℤ◌, ◌*ℤ◌, IfSome}
use Rattle.stack_rational.proofs.Common.{w128, sign_of}
use Rattle.stack_bland.specs.BySign.{by_sign}
use Rattle.stack_rows.proofs.RatioSigns.{ratio_sign}
use Rattle.stack_revised.proofs.tableau.RevisedTableau.order_of.Goals as goal

pub returns-clause-value : goal.returns-clause-value
returns-clause-value c =
    let x = c.args.x in
    let y = c.args.y in
    let a : SFits w128 x.right = search rules in
    let b : SFits w128 x.cell = search rules in
    let d : SFits w128 y.right = search rules in
    let e : SFits w128 y.cell = search rules in
    subst (λ s. IfSome c.compare.result (λ o. o ≡ by_sign s))
    ((λ z. sign_of (to_z-of_z a z *ℤ to_z-of_z e z -ℤ to_z-of_z d z *ℤ to_z-of_z b z))
    ∙ sym (ratio_sign x.right x.cell y.right y.cell x.positive y.positive)) c.compare.ensures
