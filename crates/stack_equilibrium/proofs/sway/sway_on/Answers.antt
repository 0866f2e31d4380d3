use Rattle.std.proofs.Common.{◌≡◌, rules, ap, sym, subst, SFits, ◌∙◌, pos, ◌-ℤ◌, ◌*ℤ◌}
use mir.Syntax.{w64, w128}
use Rattle.std.proofs.lemmas.Int.{to_z-of_z}
use Rattle.stack_polygon.specs.Area.{twice_area_of, six_moments_of}
use Rattle.stack_whole.specs.declared.whole.Whole.{Whole}
use Rattle.stack_equilibrium.specs.SwaySizes.{IsOwnLoad}
use Rattle.stack_statics.specs.Sway.{sway_by}
use Rattle.stack_statics.proofs.SwaySums.{sways}
use Rattle.stack_equilibrium.proofs.SwaySizes.{sway_within}
use Rattle.stack_equilibrium.proofs.sway.sway_on.Goals as goal

pub returns-clause-value : goal.returns-clause-value
returns-clause-value c =
    let ps = c.args.outline.now in
    let fits_area : SFits w128 c.twice_area.result = search rules in
    let fits_y : SFits w128 c.six_moments-moments.result.0 = search rules in
    let fits_x : SFits w128 c.six_moments-moments.result.1 = search rules in
    let fits_cx : SFits w64 c.corner-corner.result.x = search rules in
    let fits_cy : SFits w64 c.corner-corner.result.y = search rules in
    let area : c.of-twice_area.result.value ≡ twice_area_of ps =
    ap (λ (w : Whole). w.value) c.of-twice_area.ensures ∙ to_z-of_z w128 _ fits_area
    ∙ c.twice_area.ensures.value in
    let first_y : c.of.result.value ≡ (six_moments_of ps).0 =
    ap (λ (w : Whole). w.value) c.of.ensures ∙ to_z-of_z w128 _ fits_y
    ∙ (λ i. (c.six_moments-moments.ensures.value i).0) in
    let first_x : c.of-2.result.value ≡ (six_moments_of ps).1 =
    ap (λ (w : Whole). w.value) c.of-2.ensures ∙ to_z-of_z w128 _ fits_x
    ∙ (λ i. (c.six_moments-moments.ensures.value i).1) in
    let cx = to_z-of_z w64 c.corner-corner.result.x fits_cx in
    let cy = to_z-of_z w64 c.corner-corner.result.y fits_cy in
    c.made_sway.ensures
    ∙ (λ i. sway_by (to_z-of_z w64 c.args.x c.ranges.x i, to_z-of_z w64 c.args.y c.ranges.y i)
    (to_z-of_z w64 c.args.unit c.ranges.unit i) c.of-twice_area.result.value c.about-about_y.result.value
    c.about-about_x.result.value)
    ∙ sways (c.args.x, c.args.y) c.args.unit ps c.of-twice_area.result.value c.about-about_y.result.value
    c.about-about_x.result.value area
    (ap (λ (w : Whole). w.value) c.about-about_y.ensures.value
    ∙ (λ i. first_y i -ℤ pos 3 *ℤ cx i *ℤ area i)
    ∙ (λ i. (six_moments_of ps).0 -ℤ pos 3 *ℤ (c.corner-corner.ensures.value i).x *ℤ twice_area_of ps))
    (ap (λ (w : Whole). w.value) c.about-about_x.ensures.value
    ∙ (λ i. first_x i -ℤ pos 3 *ℤ cy i *ℤ area i)
    ∙ (λ i. (six_moments_of ps).1 -ℤ pos 3 *ℤ (c.corner-corner.ensures.value i).y *ℤ twice_area_of ps))

pub returns-clause-size : goal.returns-clause-size
returns-clause-size c = subst IsOwnLoad (sym (returns-clause-value c))
    (sway_within (c.args.x, c.args.y) c.args.unit c.args.outline.now c.requires.x c.requires.y c.requires.unit
    c.valid.ensures)
