use Rattle.stack_worked.proofs.PostFiles.{worked_files_of}
use Rattle.stack_worked.proofs.laws.worked_files.Goals as goal

pub returns : goal.returns
returns c = worked_files_of c.drawn_post_law.ensures.survey c.drawn_post_law.ensures.certificates
    c.accepted_is_true_of_files.ensures.one
