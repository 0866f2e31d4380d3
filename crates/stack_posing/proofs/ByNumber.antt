-- True certificates from solutions and moves.
use Rattle.std.proofs.Common.{refl, sym, subst, ◌∙◌, ℤ, pos, ◌+ℤ◌, ◌*ℤ◌}
use Rattle.stack_algebra.specs.IntegerOrder.{◌≼◌, ◌≺◌}
use Rattle.stack_statics.specs.Scene.{Scene, IsProper}
use Rattle.stack_statics.specs.Certificates.{IsTrueLoaded}
use Rattle.stack_posing.specs.Edges.{Amounts}
use Rattle.stack_posing.specs.Equations.{IsSolution, forces_from}
use Rattle.stack_posing.specs.ByNumber.{dead_on, live_on, StandsBySolution, CollapsesByMoves, GreatestByBoth}
use Rattle.stack_posing.specs.ByNumber.{UnboundedBySolutions}
use Rattle.stack_posing.proofs.Solutions.{solutions_are_forces}
use Rattle.stack_posing.proofs.Moves.{powers_are_by_number, unopposed_moves_are_motions}

pub stands_by_solution : StandsBySolution
stands_by_solution s scale x proper h p = record {
  scale_positive = p;
  factor_zero = refl;
  forces = solutions_are_forces s scale (pos 0) x proper h;
}

pub collapses_by_moves : CollapsesByMoves
collapses_by_moves s y proper h gains = record {
  motion = unopposed_moves_are_motions s y proper h;
  gains = subst (λ t. pos 0 ≺ t) (powers_are_by_number s y (dead_on s)) gains;
}

loaded : (s : Scene) (scale factor : ℤ) (x : Amounts) → IsProper s → IsSolution s scale factor x →
    pos 0 ≺ scale → pos 0 ≼ factor → IsTrueLoaded s (forces_from s scale factor x)
loaded s scale factor x proper h p n = record {
  scale_positive = p;
  factor_nonneg = n;
  forces = solutions_are_forces s scale factor x proper h;
}

pub greatest_by_both : GreatestByBoth
greatest_by_both s scale factor x y proper h p n un gains meets =
    let live = powers_are_by_number s y (live_on s) in
    let dead = powers_are_by_number s y (dead_on s) in
    record {
      loaded = loaded s scale factor x proper h p n;
      motion = unopposed_moves_are_motions s y proper un;
      gains = subst (λ t. pos 0 ≺ t) live gains;
      meets = sym (λ i. factor *ℤ live i +ℤ scale *ℤ dead i) ∙ meets;
    }

pub unbounded_by_solutions : UnboundedBySolutions
unbounded_by_solutions s scale factor x rise v proper h p n g r = record {
  loaded = loaded s scale factor x proper h p n;
  rises = record {
    scale_zero = refl;
    factor_positive = r;
    forces = solutions_are_forces s (pos 0) rise v proper g;
  };
}
