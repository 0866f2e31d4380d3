use Rattle.stack_contact.proofs.OneSurvey.{one-survey}
use Rattle.stack_contact.proofs.laws.one_survey.Goals as goal

pub returns : goal.returns
returns c = one-survey
