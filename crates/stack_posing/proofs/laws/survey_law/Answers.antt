use Rattle.stack_posing.proofs.SurveyEntries.{surveys_are_posed}
use Rattle.stack_posing.proofs.laws.survey_law.Goals as goal

pub returns : goal.returns
returns c = surveys_are_posed
