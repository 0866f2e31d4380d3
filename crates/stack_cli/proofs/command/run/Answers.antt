use Rattle.stack_said.proofs.Running.{works_run}
use Rattle.stack_cli.proofs.command.run.Goals as goal

pub returns : goal.returns
returns g c = let d = c.deliver.ensures in
    works_run c.printed_is_accepted.ensures.accepted c.walls_can_be_surveyed.ensures.drawn _ _ _ _
    c.answer_words-worked.result _ c.answer_words-worked.ensures d.delivers d.one_put d.one_line d.out_later d.err_later
