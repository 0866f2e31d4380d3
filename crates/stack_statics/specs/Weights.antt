-- The weight of a body as it is made: from twice its area and six times its first moment.
use Rattle.std.specs.Prelude.{ℤ, pos, neg_ℤ, ◌*ℤ◌}
use Rattle.stack_algebra.specs.IntegerOrder.{◌≼◌}
use Rattle.stack_whole.specs.Limits.{greatest_weight}
use Rattle.stack_statics.specs.declared.wrench.Wrench.{Wrench}

-- a unit weight within the limits of a model
pub record IsUnitWeight (w : ℤ) : Type 0 where
  pub least : pos 0 ≼ w
  pub most : w ≼ greatest_weight

-- a weight by twice the area and six times the moment about the first corner
abbrev pub weight_by : ℤ → ℤ → ℤ → Wrench
weight_by w twice_area moment = record {
  fx = pos 0;
  fy = neg_ℤ (w *ℤ (pos 3 *ℤ twice_area));
  m = neg_ℤ (w *ℤ moment);
}
