use Rattle.std.proofs.Common.{ap, subst, rules, ◌∙◌, pos, ◌<ℤ◌, SFits, to_z-of_z}
use Rattle.stack_rational.proofs.Common.{sign_of, less, over, ordered_fractions}
use Rattle.std.specs.Int.{w128}
use Rattle.stack_bland.specs.BySign.{by_sign}
use Rattle.stack_bland.proofs.OrderBySign.{order_sign}
use Rattle.stack_rows.proofs.RatioSigns.{ratio_sign}
use Rattle.stack_rows.proofs.ratios.by_fractions.Goals as goal

pub returns : goal.returns
returns c =
    let a : SFits w128 c.args.r.left = search rules in
    let b : SFits w128 c.args.r.left_under = search rules in
    let x : SFits w128 c.args.r.right = search rules in
    let y : SFits w128 c.args.r.right_under = search rules in
    let hb = subst (λ z. pos 0 <ℤ z) (to_z-of_z b) c.in_ok-left.ensures.0 in
    let hy = subst (λ z. pos 0 <ℤ z) (to_z-of_z y) c.in_ok-right.ensures.0 in
    c.order.ensures ∙ order_sign c.in_ok-left.left c.in_ok-right.right
    ∙ ap by_sign ((λ i. sign_of (less ordered_fractions
    ((c.in_ok-left.ensures.1 ∙ (λ j. over (to_z-of_z a j) (to_z-of_z b j))) i)
    ((c.in_ok-right.ensures.1 ∙ (λ j. over (to_z-of_z x j) (to_z-of_z y j))) i)).num)
    ∙ ratio_sign c.args.r.left c.args.r.left_under c.args.r.right c.args.r.right_under hb hy)
