use Rattle.stack_extract.proofs.EndOfSurvey.{is_written}
use Rattle.stack_search_tests.proofs.problems.ended.Goals as goal

pub run-requires-clause-written : goal.run-requires-clause-written
run-requires-clause-written g c = is_written c.in-Ok.problem c.in-Ok-build.t c.in-Ok-build.ensures.shape
    c.in-Ok-build.ensures.ok
    c.in-Ok.ensures.condition
