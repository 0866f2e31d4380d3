use Rattle.std.proofs.Common.{◌≡◌, ◌+◌, ◌-◌, ◌∷◌, arith, ap, ◌∙◌, subst, IfOk, flat_map}
use Rattle.stack_algebra.specs.Listed.{listed}
use Rattle.stack_overhang.specs.Stacks.{brick_rows, layer_of, slab_counts}
use Rattle.stack_overhang.proofs.SlabLayers.{one_layer_more}
use Rattle.stack_overhang.proofs.layers.slab_layers.Goals as goal

pub loop-r-preserved : goal.loop-r-preserved
loop-r-preserved c = one_layer_more c.loop-r.counts.items _ c.loop-r.r c.loop-r.auto.r c.in_ok-counts.ensures
    c.loop-r.invariant

pub returns : goal.returns
returns c =
    let last : c.loop-r.r - 2 ≡ c.args.d - 1 = omega (arith, c.requires.least, c.loop-r.auto.r-end) in
    let counts : c.deref.result.now ≡ slab_counts c.args.d = c.deref.ensures.value ∙ c.loop-r.invariant
    ∙ ap (λ n. 1 ∷ flat_map layer_of (listed n (λ k. k + 2))) last in
    subst (λ counts. IfOk c.rows.result (λ v. v.items ≡ brick_rows counts)) counts c.rows.ensures
