use Rattle.stack_extract.proofs.EndCertificates.{ends_are_certified, ends_are_of_the_question, ends_push}
use Rattle.stack_extract.proofs.end_laws.certified_laws.Goals as goal

pub returns-clause-certified : goal.returns-clause-certified
returns-clause-certified c = ends_are_certified

pub returns-clause-question : goal.returns-clause-question
returns-clause-question c = ends_are_of_the_question

pub returns-clause-pushes : goal.returns-clause-pushes
returns-clause-pushes c = ends_push
