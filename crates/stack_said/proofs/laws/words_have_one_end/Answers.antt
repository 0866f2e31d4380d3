use Rattle.stack_work.proofs.OneEnd.{words_end}
use Rattle.stack_said.proofs.laws.words_have_one_end.Goals as goal

pub returns : goal.returns
returns c = words_end
