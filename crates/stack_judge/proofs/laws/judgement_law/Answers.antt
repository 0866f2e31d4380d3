use Rattle.stack_judge.proofs.EachJudged.{each_end_is_judged}
use Rattle.stack_judge.proofs.JudgedValues.{of_the_question, are_certified, are_judged}
use Rattle.stack_judge.proofs.laws.judgement_law.Goals as goal

pub returns : goal.returns
returns c = record {
  ends = each_end_is_judged;
  question = of_the_question;
  certified = are_certified;
  judged = are_judged;
}
