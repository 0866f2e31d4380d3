-- Sums of wrenches, one after the other.
use Rattle.std.proofs.Common.{◌≡◌, ap, ◌∙◌, ℕ, suc, ◌+◌, ◌≤◌, arith}
use Rattle.std.proofs.lemmas.Int.{ints}
use Rattle.stack_model.specs.Limits.{most_loads}
use Rattle.stack_statics.specs.declared.wrench.Wrench.{Wrench}
use Rattle.stack_statics.specs.Loads.{wrench_sum, total_of}
use Rattle.stack_equilibrium.specs.LoadSizes.{AreLoads}

pub one_more : (n : ℕ) (f : ℕ → Wrench) (total one w : Wrench) → total ≡ total_of n f → one ≡ f n →
    w ≡ wrench_sum total one → w ≡ total_of (n + 1) f
one_more n f total one w h k e = e ∙ (λ i. wrench_sum (h i) (k i)) ∙ ap (λ m. total_of m f) next
  where
    next : suc n ≡ n + 1
    next = omega arith

-- no model has more loads than it may have
pub within_most : (n : ℕ) (w : Wrench) → n ≤ most_loads → AreLoads n w → AreLoads most_loads w
within_most n w l h = record {
  fx = record { low = omega (arith, ints, h.fx.low); high = omega (arith, ints, h.fx.high) };
  fy = record { low = omega (arith, ints, h.fy.low); high = omega (arith, ints, h.fy.high) };
  m = record { low = omega (arith, ints, h.m.low); high = omega (arith, ints, h.m.high) };
}
