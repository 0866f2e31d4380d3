use Rattle.stack_model.specs.Content.{content_of}
use Rattle.stack_faults.specs.ContentFaults.{content_faults}
use Rattle.stack_faults.proofs.Firsts.{faultless}
use Rattle.stack_faults.proofs.Crooked.{crooked_by_meaning}
use Rattle.stack_faults.proofs.ContentAnswers.{content_first, as_listed}
use Rattle.stack_faults.proofs.laws.first_content_fault.Goals as goal

pub returns-clause-first : goal.returns-clause-first
returns-clause-first _ = content_first

pub returns-clause-faultless : goal.returns-clause-faultless
returns-clause-faultless _ = λ parts. faultless (content_of parts) (content_faults parts) (content_first parts)

pub returns-clause-crooked : goal.returns-clause-crooked
returns-clause-crooked _ = crooked_by_meaning

pub returns-clause-listed : goal.returns-clause-listed
returns-clause-listed _ = as_listed
