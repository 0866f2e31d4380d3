use Rattle.std.proofs.Common.{◌≡◌, length}
use Rattle.stack_model.specs.Structure.{load_of}
use Rattle.stack_model.specs.ModelView.{model_view}
use Rattle.stack_statics.specs.Loads.{total_of}
use Rattle.stack_equilibrium.specs.LoadSizes.{AreLoads}
use Rattle.stack_equilibrium.specs.SurveyScene.{acting, first_corner_of}
use Rattle.stack_equilibrium.proofs.loads.listed_on.Given as goal

abbrev pub invariant-loop-n : goal.invariant-loop-n
invariant-loop-n l = record {
  ends : l.n-end ≡ length (model_view l.model).loads;
  value : l.total ≡ total_of l.n (λ n. acting l.question l.i (first_corner_of (model_view l.model) l.i)
      (load_of (model_view l.model) n));
  size : AreLoads l.n l.total;
}
