use Rattle.std.proofs.Common.{◌≡◌, ap, ◌∙◌, length, arith}
use Rattle.stack_polygon.specs.Corners.{corner_of}
use Rattle.stack_model.specs.Structure.{load_of}
use Rattle.stack_model.specs.ModelView.{model_view}
use Rattle.stack_statics.specs.Loads.{total_of}
use Rattle.stack_equilibrium.specs.SurveyScene.{acting, first_corner_of}
use Rattle.stack_equilibrium.proofs.Totals.{one_more, within_most}
use Rattle.stack_equilibrium.proofs.loads.listed_on.Goals as goal

pub loop-n-preserved : goal.loop-n-preserved
loop-n-preserved c =
    let s = model_view c.args.model.now in
    let one = c.acting-one.ensures.value
    ∙ (λ i. acting c.args.question c.args.i (c.corner-corner.ensures.value i) (c.load.ensures.value i))
    ∙ (λ i. acting c.args.question c.args.i (corner_of (c.polygon-outline.ensures.value i) 0)
    (load_of s c.loop-n.n)) in record {
      ends = c.loop-n.invariant.ends;
      value = one_more c.loop-n.n
          (λ n. acting c.args.question c.args.i (first_corner_of s c.args.i)
          (load_of s n)) c.loop-n.total c.acting-one.result _ c.loop-n.invariant.value one
          c.plus-total.ensures.value;
      size = c.plus-total.ensures.size;
    }

pub returns : goal.returns
returns c =
    let s = c.args.model.now in
    let n : c.loop-n.n ≡ length s.loads = omega
    (arith, c.loop-n-test.false, c.loop-n.auto.n-end, c.loads-n-end.ensures.value) in
    record {
      value = c.loop-n.invariant.value
          ∙ ap (λ n. total_of n
          (λ k. acting c.args.question c.args.i (first_corner_of s c.args.i) (load_of s k))) n;
      size = within_most c.loop-n.n c.loop-n.total
          (omega (arith, c.loop-n.auto.n-end, c.loads-n-end.ensures.few))
          c.loop-n.invariant.size;
    }
