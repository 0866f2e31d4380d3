use Rattle.std.proofs.Common.{◌≡◌, rules, SFits, ap, ◌∙◌, pos, ◌-ℤ◌, ◌*ℤ◌}
use mir.Syntax.{w64, w128}
use Rattle.std.proofs.lemmas.Int.{to_z-of_z}
use Rattle.stack_whole.specs.declared.whole.Whole.{Whole}
use Rattle.stack_equilibrium.proofs.sway.made_sway.Goals as goal

pub returns : goal.returns
returns c =
    let f : SFits w128 c.swayed.result.value = search rules in
    let g : SFits w128 c.swayed-2.result.value = search rules in
    let h : SFits w128 c.less.result.value = search rules in
    let x = to_z-of_z w64 c.args.x c.ranges.x in
    let y = to_z-of_z w64 c.args.y c.ranges.y in
    let unit = to_z-of_z w64 c.args.unit c.ranges.unit in
    let area : c.threefold.result.value ≡ pos 3 *ℤ c.args.twice_area.value =
    ap (λ (w : Whole). w.value) c.threefold.ensures.value in
    let force : c.weighed-force.result.value ≡ c.args.unit *ℤ (pos 3 *ℤ c.args.twice_area.value) =
    ap (λ (w : Whole). w.value) c.weighed-force.ensures.value ∙ (λ i. unit i *ℤ area i) in
    let about_y : c.weighed.result.value ≡ c.args.unit *ℤ c.args.about_y.value =
    ap (λ (w : Whole). w.value) c.weighed.ensures.value ∙ (λ i. unit i *ℤ c.args.about_y.value) in
    let about_x : c.weighed-2.result.value ≡ c.args.unit *ℤ c.args.about_x.value =
    ap (λ (w : Whole). w.value) c.weighed-2.ensures.value ∙ (λ i. unit i *ℤ c.args.about_x.value) in
    let turning = ap (λ (w : Whole). w.value) c.swayed-turning.ensures.value ∙ (λ i. about_y i *ℤ y i) in
    let rising = ap (λ (w : Whole). w.value) c.swayed-rising.ensures.value ∙ (λ i. about_x i *ℤ x i) in
    let along_x = to_z-of_z w128 c.swayed.result.value f
    ∙ ap (λ (w : Whole). w.value) c.swayed.ensures.value ∙ (λ i. force i *ℤ x i) in
    let along_y = to_z-of_z w128 c.swayed-2.result.value g
    ∙ ap (λ (w : Whole). w.value) c.swayed-2.ensures.value ∙ (λ i. force i *ℤ y i) in
    let moment = to_z-of_z w128 c.less.result.value h
    ∙ ap (λ (w : Whole). w.value) c.less.ensures ∙ (λ i. turning i -ℤ rising i) in
    λ i. record { fx = along_x i; fy = along_y i; m = moment i }
