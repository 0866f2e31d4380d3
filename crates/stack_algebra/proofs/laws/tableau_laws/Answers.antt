use Rattle.stack_algebra.specs.Laws.{ordered}
use Rattle.stack_algebra.proofs.Tableaus.{tableau_after, right_sides}
use Rattle.stack_algebra.proofs.laws.tableau_laws.Goals as goal

pub returns : goal.returns
returns c = record {
  pivots = λ k. tableau_after (ordered k);
  right_sides = λ k m n cell r c. right_sides (ordered k) m n cell cell r c;
}
